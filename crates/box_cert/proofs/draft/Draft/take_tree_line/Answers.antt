use Rattle.std.proofs.Common.{◌≡◌, ◌+◌, ◌<◌, ◌-◌, ◌∷◌, ◌++◌, ◌∙◌, List, [], All, length, length-append, refl, sym, ap, subst, arith}
use Rattle.std.proofs.lemmas.List.Elements.{All-push}
use Rattle.box_core.specs.Ranges.{LineFits}
use Rattle.box_specs.specs.Validity.{are_trees}
use Rattle.box_specs.specs.declared.certificate.CertLine.{CertLine}
use Rattle.box_cert.specs.declared.draft.Part.TheVariants as parts
use Rattle.box_cert.specs.Drafts.{IsBegun, recipes, still_at, trees_of}
use Rattle.box_cert.specs.Lines.{line_of}
use Rattle.box_cert.specs.Reading.{Cursor}
use Rattle.box_cert.proofs.Drafting.{one_tree_line, some_line}
use Rattle.box_cert.proofs.Parts.{parts_few}
use Rattle.box_cert.proofs.Steps.{shape_step}
use Rattle.box_cert.proofs.draft.Draft.take_tree_line.Goals as goal

pub returns : goal.returns
returns c =
    let d = c.args.self.now in
    let is = c.requires.draft in
    let w = c.args.wanted in
    let xs = d.lines.items in
    let x = c.in-Some.read in
    let e = c.in-Ok.ensures.items in
    let size : length c.push.new.self.items ≡ length xs + 1 = ap length e ∙ length-append xs (x ∷ []) in
    let some : 0 < w = omega (arith, c.if-wanted-eq0.false) in
    let read : line_of c.args.line.now ≡ _ = sym c.in-Some.ensures.is in
    let trees = ap trees_of c.requires.part in
    let shape = subst (λ q. IsBegun q (recipes d) xs) c.requires.part is.begun in
    record {
      draft = record {
        some = is.some;
        few = is.few;
        number = omega (arith, c.requires.short);
        lines = omega (arith, is.lines, size);
        trees = omega (arith, is.trees, trees, parts_few x, c.parts_of.ensures, some);
        claim = is.claim;
        numbers = is.numbers;
        listed = is.listed;
        room = omega (arith, is.room);
        fits = subst (λ ys. All LineFits ys) (sym e) (All-push LineFits xs x is.fits c.in-Some.ensures.fits);
        begun = subst (λ ys. (more : List CertLine) → are_trees 1 (ys ++ more) ≡ are_trees (c.parts_of.result + (w - 1)) more) (sym e) (shape_step w xs x c.parts_of.result some c.parts_of.ensures shape);
      };
      dims = refl;
      number = refl;
      some = some_line line_of c.args.line.now x refl read;
      same = λ lines left.
          let p : Cursor = record { number = d.number + 1; lines = lines; left = left } in
          ap (λ ys. still_at d.dims d.claim (recipes d) ys (parts.Tree (c.parts_of.result + (w - 1))) p) e
          ∙ ap (λ k. still_at d.dims d.claim (recipes d) (xs ++ x ∷ []) (parts.Tree (k + (w - 1))) p) c.parts_of.ensures
          ∙ one_tree_line d.dims d.claim (recipes d) d.number c.args.line.now lines left xs w x some read
          ∙ sym (ap (λ q. still_at d.dims d.claim (recipes d) xs q (record { number = d.number; lines = c.args.line.now ∷ lines; left = left })) c.requires.part);
    }
