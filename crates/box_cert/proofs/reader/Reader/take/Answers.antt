use Rattle.std.proofs.Common.{◌≡◌, ◌∙◌, ◌∷◌, ◌++◌, [], length-append, sym, ap, arith}
use Rattle.std.specs.Prelude.{Some, option_map}
use Rattle.box_cert.specs.Feeding.{reader_gives}
use Rattle.box_cert.specs.Lines.{cut_at}
use Rattle.box_cert.proofs.Cuts.{cut_free, cut_length}
use Rattle.box_cert.proofs.Ongoing.{line_and_rest}
use Rattle.box_cert.proofs.Prefixes.{fails_as}
use Rattle.box_cert.proofs.reader.Reader.take.Goals as goal

pub end_line-requires-clause-one : goal.end_line-requires-clause-one
end_line-requires-clause-one c =
    cut_free 10 c.loop-line.rest.now (c.in-Some.line.now, c.in-Some.tail.now) (sym c.cut_at.ensures ∙ ap (option_map (λ r. (r.0.now, r.1.now))) c.in-Some.is)

pub end_line-requires-clause-short : goal.end_line-requires-clause-short
end_line-requires-clause-short c =
    let size = cut_length 10 c.loop-line.rest.now (c.in-Some.line.now, c.in-Some.tail.now) (sym c.cut_at.ensures ∙ ap (option_map (λ r. (r.0.now, r.1.now))) c.in-Some.is) in
    omega (arith, size, c.loop-line.invariant.size, c.requires.short)

pub loop-line-smaller : goal.loop-line-smaller
loop-line-smaller c =
    let size = cut_length 10 c.loop-line.rest.now (c.in-Some.line.now, c.in-Some.tail.now) (sym c.cut_at.ensures ∙ ap (option_map (λ r. (r.0.now, r.1.now))) c.in-Some.is) in
    omega (arith, size)

pub loop-line-preserved : goal.loop-line-preserved
loop-line-preserved c =
    let rest = c.loop-line.rest.now in
    let line = c.in-Some.line.now in
    let tail = c.in-Some.tail.now in
    let so_far = c.loop-line.invariant in
    let read = c.in-Ok.ensures in
    let cut : cut_at 10 rest ≡ Some (line, tail) = sym c.cut_at.ensures ∙ ap (option_map (λ r. (r.0.now, r.1.now))) c.in-Some.is in
    record {
      reader = read.reader;
      dims = read.dims ∙ so_far.dims;
      size = omega (arith, cut_length 10 rest (line, tail) cut, read.size, so_far.size, length-append line (10 ∷ []));
      same = λ more. read.same (tail ++ more) ∙ ap (reader_gives c.loop-line.self) (line_and_rest rest line tail more cut) ∙ so_far.same more;
    }

pub returns-in-Err : goal.returns-in-Err
returns-in-Err c =
    let rest = c.loop-line.rest.now in
    let line = c.in-Some.line.now in
    let tail = c.in-Some.tail.now in
    let cut : cut_at 10 rest ≡ Some (line, tail) = sym c.cut_at.ensures ∙ ap (option_map (λ r. (r.0.now, r.1.now))) c.in-Some.is in
    let fails = c.in-Err.ensures in (
      fails.0,
      λ more.
          fails_as c.in-Err.e _ _ (ap (reader_gives c.loop-line.self) (line_and_rest rest line tail more cut) ∙ c.loop-line.invariant.same more) (fails.1 (tail ++ more)),
    )
