use Rattle.std.proofs.Common.{◌+◌, ◌*◌, ◌^◌, ◌∙◌, subst, sym}
use Rattle.interval_specs.specs.Ends.{IsHeld}
use Rattle.interval_specs.proofs.Ranges.{carry_up_to}
use Rattle.fix_bounds.proofs.Passed.{read}
use Rattle.cmc_specs.specs.Cmc.{fourth_power_share}
use Rattle.cmc_specs.proofs.Ranges.{share_up_to}
use Rattle.lab_parts.proofs.Rooms.{some_units, up_to_magnitude}
use Rattle.cmc_bounds.proofs.Calls.{held_unit}
use Rattle.cmc_bounds.proofs.Outward.{ends_same, high_end_small, low_end_small}
use Rattle.cmc_bounds.proofs.chroma.fourth_power_share.Goals as goal

pub share_at-low-requires : goal.share_at-low-requires
share_at-low-requires g c = low_end_small _ c.args.x (4 * 10 ^ 12 * g.S.Scale.unit) (read _ _ c.lo.type_inv c.lo.ensures.is) (up_to_magnitude _ c.args.x c.requires)

pub share_at-high-requires : goal.share_at-high-requires
share_at-high-requires g c = high_end_small _ c.args.x (4 * 10 ^ 12 * g.S.Scale.unit) (read _ _ c.hi.type_inv c.hi.ensures.is) (up_to_magnitude _ c.args.x c.requires)

pub outward-requires-clause-held : goal.outward-requires-clause-held
unfolding fourth_power_share
outward-requires-clause-held g c =
    let n = g.S.Scale.unit in
    let same = ends_same (λ t. t * n) (λ t. t + 1900 * n) _ _ c.args.x _ _ _ _ (read _ _ c.lo.type_inv c.lo.ensures.is) (read _ _ c.hi.type_inv c.hi.ensures.is)
    c.share_at-low.ensures.numerator c.share_at-low.ensures.denominator c.share_at-high.ensures.numerator c.share_at-high.ensures.denominator in
    subst IsHeld (sym same) (held_unit n (fourth_power_share n c.args.x) g.S.Scale.most (share_up_to n c.args.x (some_units n g.S.Scale.least) c.requires.not_negative c.requires.ordered))

pub returns-clause-is : goal.returns-clause-is
unfolding fourth_power_share
returns-clause-is g c =
    let n = g.S.Scale.unit in
    c.outward.ensures.is
    ∙ ends_same (λ t. t * n) (λ t. t + 1900 * n) _ _ c.args.x _ _ _ _ (read _ _ c.lo.type_inv c.lo.ensures.is) (read _ _ c.hi.type_inv c.hi.ensures.is)
    c.share_at-low.ensures.numerator c.share_at-low.ensures.denominator c.share_at-high.ensures.numerator c.share_at-high.ensures.denominator

pub returns-clause-range : goal.returns-clause-range
returns-clause-range g c =
    carry_up_to g.S.Scale.unit c.outward.result (fourth_power_share g.S.Scale.unit c.args.x) (returns-clause-is g c)
    (share_up_to g.S.Scale.unit c.args.x (some_units g.S.Scale.unit g.S.Scale.least) c.requires.not_negative c.requires.ordered)
