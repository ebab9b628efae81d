use Rattle.std.proofs.Common.{◌≡◌, true, subst, sym}
use Rattle.box_specs.specs.Span.{Span}
use Rattle.box_specs.specs.Splits.{is_cut}
use Rattle.box_core.proofs.HalfBoxes.{lower_keeps}
use Rattle.box_core.proofs.part.lower_half.Goals as goal

pub invariant_of-result : goal.invariant_of-result
invariant_of-result c =
    let P : Span → Type 0 = λ b. is_cut b (record { dye = c.args.cut.dye; mid = c.args.cut.mid }) ≡ true in
    rw (c.copy_of.ensures, c.with_steps.ensures)
    (lower_keeps (record { lo = c.part.inside.lo.items; hi = c.part.inside.hi.items }) (record { dye = c.args.cut.dye; mid = c.args.cut.mid }) c.part.invariant (subst P (sym c.part.view_is) c.requires))
