use Rattle.std.proofs.Common.{◌≡◌, ◌∙◌, ◌∷◌, ◌++◌, [], take, length, length-append, sym, ap, arith}
use Rattle.std.proofs.Math.ListN.{length-take}
use Rattle.box_cert.specs.Drafts.{still}
use Rattle.box_cert.specs.Feeding.{gives}
use Rattle.box_cert.specs.Lines.{cut_at}
use Rattle.box_cert.specs.Reading.{lines_of}
use Rattle.box_cert.proofs.Ongoing.{line_ended}
use Rattle.box_cert.proofs.Prefixes.{fails_as}
use Rattle.box_cert.proofs.reader.Reader.end_line.Goals as goal

pub returns-in-Ok : goal.returns-in-Ok
returns-in-Ok c =
    let old = c.args.self.now in
    let new = c.take.new.self in
    let rest = c.args.rest.now in
    let took = c.in-Ok.ensures in
    let line : c.deref.result.now ≡ take 80 (old.line.items ++ rest) = c.deref.ensures.0 ∙ c.put_fitting.ensures in
    let none = c.clear.ensures in
    record {
      reader = record { draft = took.draft; line = ap (cut_at 10) none; clear = λ whole. none };
      dims = took.dims;
      size = omega (arith, took.number, took.some, ap length line, ap length none, length-take 80 (old.line.items ++ rest), length-append old.line.items rest, length-append rest (10 ∷ []));
      same = λ more.
          let r = lines_of more in
          ap (λ l. gives new l more) none ∙ took.same r.0 r.1 ∙ ap (λ l. still old.draft (l ∷ r.0) r.1) line
          ∙ sym (line_ended old.draft old.line.items rest more c.requires.reader.draft.few c.requires.reader.line c.requires.one);
    }

pub returns-in-Err : goal.returns-in-Err
returns-in-Err c =
    let old = c.args.self.now in
    let rest = c.args.rest.now in
    let line : c.deref.result.now ≡ take 80 (old.line.items ++ rest) = c.deref.ensures.0 ∙ c.put_fitting.ensures in
    let fails = c.in-Err.ensures in (
      fails.0,
      λ more.
          let r = lines_of more in
          fails_as c.in-Err.e _ _ (ap (λ l. still old.draft (l ∷ r.0) r.1) line
          ∙ sym (line_ended old.draft old.line.items rest more c.requires.reader.draft.few c.requires.reader.line c.requires.one)) (fails.1 r.0 r.1),
    )
