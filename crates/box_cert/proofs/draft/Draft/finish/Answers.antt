use Rattle.std.proofs.Common.{◌∙◌, length, sym, ap, subst, arith}
use Rattle.box_cert.specs.Drafts.{IsBegun, recipes}
use Rattle.box_cert.specs.Reading.{AreRecipes, IsTree}
use Rattle.box_cert.proofs.Drafting.{whole_part, whole_tree}
use Rattle.box_cert.proofs.Parts.{one_length}
use Rattle.box_cert.proofs.draft.Draft.finish.Goals as goal

pub invariant_of-result : goal.invariant_of-result
invariant_of-result c =
    let d = c.args.self in
    let is = c.requires in
    let part = whole_part d.part (sym c.is_whole.ensures ∙ c.if-not-is_whole.false) in
    let shape = subst (λ q. IsBegun q (recipes d) d.lines.items) part is.begun in
    let tree = subst IsTree (sym c.of-2.ensures) (whole_tree d.lines.items shape (omega (arith, is.number, is.lines)) is.fits) in
    let listed = subst (λ xs. AreRecipes d.dims (length xs) xs) (sym c.of.ensures) is.listed in
    let size = ap length c.of.ensures in
    record {
      whole = tree.whole;
      short = tree.short;
      few = omega (arith, size, is.room);
      one_length = one_length d.dims (length c.of.result) d.claim c.of.result is.some is.few is.claim listed;
      numbers = (is.numbers, listed.fits, tree.fits);
    }
