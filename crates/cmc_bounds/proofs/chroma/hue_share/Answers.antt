use Rattle.std.proofs.Common.{◌*◌, ◌^◌, ◌∙◌, ap, lit≤}
use Rattle.interval_specs.specs.Roots.{sqrt_at}
use Rattle.interval_specs.proofs.Ranges.{carry_up_to}
use Rattle.cmc_specs.specs.Cmc.{fourth_power_share, hue_share}
use Rattle.cmc_specs.proofs.Ranges.{hue_share_up_to}
use Rattle.lab_parts.proofs.Rooms.{some_units, square_room, up_to_magnitude}
use Rattle.cmc_bounds.proofs.Calls.{fourth_power}
use Rattle.cmc_bounds.proofs.chroma.hue_share.Goals as goal

pub square-requires : goal.square-requires
square-requires g c = square_room g.S.Scale.unit (2 * 10 ^ 6) c.args.p1 g.S.Scale.most (lit≤ tt) (up_to_magnitude _ c.args.p1 c.requires)

pub fourth_power_share-requires : goal.fourth_power_share-requires
fourth_power_share-requires g c = fourth_power g.S.Scale.unit c.args.p1 c.square.result (some_units g.S.Scale.unit g.S.Scale.least) c.requires c.square.ensures.is

pub returns-clause-is : goal.returns-clause-is
unfolding hue_share
returns-clause-is g c =
    let n = g.S.Scale.unit in
    let share = c.fourth_power_share.ensures.is ∙ ap (λ x. fourth_power_share n x) c.square.ensures.is in
    c.sqrt_iv.ensures.is ∙ ap (λ x. sqrt_at n x) share

pub returns-clause-range : goal.returns-clause-range
returns-clause-range g c =
    carry_up_to g.S.Scale.unit c.sqrt_iv.result (hue_share g.S.Scale.unit c.args.p1) (returns-clause-is g c) (hue_share_up_to g.S.Scale.unit c.args.p1 (some_units g.S.Scale.unit g.S.Scale.least))
