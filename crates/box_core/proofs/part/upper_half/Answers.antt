use Rattle.std.proofs.Common.{◌≡◌, true, subst, sym, arith}
use Rattle.box_specs.specs.Span.{Span}
use Rattle.box_specs.specs.Splits.{is_cut}
use Rattle.box_specs.proofs.Cuts.{cuts, same_count}
use Rattle.box_core.proofs.HalfBoxes.{upper_keeps}
use Rattle.box_core.proofs.part.upper_half.Goals as goal

pub bounds-deref-cut : goal.bounds-deref-cut
bounds-deref-cut c =
    let P : Span → Type 0 = λ b. is_cut b (record { dye = c.args.cut.dye; mid = c.args.cut.mid }) ≡ true in
    let at = cuts (record { lo = c.part.inside.lo.items; hi = c.part.inside.hi.items }) (record { dye = c.args.cut.dye; mid = c.args.cut.mid }) (subst P (sym c.part.view_is) c.requires) in
    let count = same_count c.part.inside.lo.items c.part.inside.hi.items c.part.invariant.0 in
    rw c.deref.ensures.0 (omega (arith, at.there, count))

pub next_below-next-requires : goal.next_below-next-requires
next_below-next-requires c =
    let P : Span → Type 0 = λ b. is_cut b (record { dye = c.args.cut.dye; mid = c.args.cut.mid }) ≡ true in
    let at = cuts (record { lo = c.part.inside.lo.items; hi = c.part.inside.hi.items }) (record { dye = c.args.cut.dye; mid = c.args.cut.mid }) (subst P (sym c.part.view_is) c.requires) in
    rw c.deref.ensures.0 at.high

pub invariant_of-result : goal.invariant_of-result
invariant_of-result c =
    let P : Span → Type 0 = λ b. is_cut b (record { dye = c.args.cut.dye; mid = c.args.cut.mid }) ≡ true in
    rw (c.copy_of.ensures, c.with_steps.ensures, c.next_below-next.ensures)
    (upper_keeps (record { lo = c.part.inside.lo.items; hi = c.part.inside.hi.items }) (record { dye = c.args.cut.dye; mid = c.args.cut.mid }) c.part.invariant (subst P (sym c.part.view_is) c.requires))
