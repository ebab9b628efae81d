use Rattle.std.proofs.Common.{pos, ◌*◌, ◌∙◌, ap, subst, sym, lit≤}
use Rattle.interval_specs.specs.Ends.{IsHeld}
use Rattle.interval_specs.specs.Operations.{cut_low_at}
use Rattle.interval_specs.proofs.Ranges.{carry_up_to}
use Rattle.fix_bounds.proofs.Passed.{read}
use Rattle.cmc_specs.specs.Cmc.{high_weight, lightness_denominator, lightness_numerator}
use Rattle.cmc_specs.proofs.Ranges.{high_weight_up_to}
use Rattle.lab_parts.proofs.Rooms.{held_up_to, some_units}
use Rattle.cmc_bounds.proofs.Calls.{raised_magnitude}
use Rattle.cmc_bounds.proofs.Outward.{ends_same, high_end_small, low_end_small}
use Rattle.cmc_bounds.proofs.lightness.high_weight.Goals as goal

pub high_weight_at-low-requires : goal.high_weight_at-low-requires
high_weight_at-low-requires g c =
    low_end_small _ (cut_low_at g.S.Scale.unit (pos 16) c.args.l1) (1000 * g.S.Scale.unit)
    (read _ _ c.lo.type_inv (c.lo.ensures.is ∙ ap (λ e. e.lo) c.cut_low-raised.ensures.is)) (raised_magnitude g.S.Scale.unit c.args.l1 c.requires)

pub high_weight_at-high-requires : goal.high_weight_at-high-requires
high_weight_at-high-requires g c =
    high_end_small _ (cut_low_at g.S.Scale.unit (pos 16) c.args.l1) (1000 * g.S.Scale.unit)
    (read _ _ c.hi.type_inv (c.hi.ensures.is ∙ ap (λ e. e.hi) c.cut_low-raised.ensures.is)) (raised_magnitude g.S.Scale.unit c.args.l1 c.requires)

pub outward-requires-clause-held : goal.outward-requires-clause-held
unfolding high_weight
outward-requires-clause-held g c =
    let n = g.S.Scale.unit in
    let same = ends_same (λ t. lightness_numerator n t) (λ t. lightness_denominator n t) _ _ (cut_low_at n (pos 16) c.args.l1) _ _ _ _
    (read _ _ c.lo.type_inv (c.lo.ensures.is ∙ ap (λ e. e.lo) c.cut_low-raised.ensures.is))
    (read _ _ c.hi.type_inv (c.hi.ensures.is ∙ ap (λ e. e.hi) c.cut_low-raised.ensures.is))
    c.high_weight_at-low.ensures.numerator c.high_weight_at-low.ensures.denominator c.high_weight_at-high.ensures.numerator c.high_weight_at-high.ensures.denominator in
    subst IsHeld (sym same) (held_up_to n 3 (high_weight n c.args.l1) g.S.Scale.most (lit≤ tt) (high_weight_up_to n c.args.l1 (some_units n g.S.Scale.least) c.requires))

pub returns-clause-is : goal.returns-clause-is
unfolding high_weight
returns-clause-is g c =
    let n = g.S.Scale.unit in
    c.outward.ensures.is
    ∙ ends_same (λ t. lightness_numerator n t) (λ t. lightness_denominator n t) _ _ (cut_low_at n (pos 16) c.args.l1) _ _ _ _
    (read _ _ c.lo.type_inv (c.lo.ensures.is ∙ ap (λ e. e.lo) c.cut_low-raised.ensures.is))
    (read _ _ c.hi.type_inv (c.hi.ensures.is ∙ ap (λ e. e.hi) c.cut_low-raised.ensures.is))
    c.high_weight_at-low.ensures.numerator c.high_weight_at-low.ensures.denominator c.high_weight_at-high.ensures.numerator c.high_weight_at-high.ensures.denominator

pub returns-clause-range : goal.returns-clause-range
returns-clause-range g c =
    carry_up_to (3 * g.S.Scale.unit) c.outward.result (high_weight g.S.Scale.unit c.args.l1) (returns-clause-is g c)
    (high_weight_up_to g.S.Scale.unit c.args.l1 (some_units g.S.Scale.unit g.S.Scale.least) c.requires)
