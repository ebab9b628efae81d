use Rattle.std.proofs.Common.{◌*◌, ◌∙◌, ap}
use Rattle.interval_specs.specs.Operations.{product_at, sum_of}
use Rattle.interval_specs.proofs.Ranges.{carry_magnitude}
use Rattle.cmc_specs.specs.Cmc.{bracket}
use Rattle.cmc_specs.proofs.Ranges.{bracket_up_to, projection_magnitude}
use Rattle.cmc_bounds.proofs.AngleCalls.{parts_room}
use Rattle.lab_parts.proofs.Rooms.{some_units}
use Rattle.cmc_bounds.proofs.angles.projection.Goals as goal

pub add-requires : goal.add-requires
add-requires g c =
    parts_room g.S.Scale.unit c.args.a c.args.b c.bracket.result c.bracket-2.result c.mul-first.result c.mul-second.result g.S.Scale.least g.S.Scale.most c.requires.a c.requires.b
    c.bracket.ensures.range c.bracket-2.ensures.range c.mul-first.ensures.is c.mul-second.ensures.is

pub returns-clause-is : goal.returns-clause-is
returns-clause-is g c =
    let n = g.S.Scale.unit in
    let first = c.mul-first.ensures.is ∙ ap (λ x. product_at n c.args.a x) c.bracket.ensures.is in
    let second = c.mul-second.ensures.is ∙ ap (λ x. product_at n c.args.b x) c.bracket-2.ensures.is in
    c.add.ensures.is ∙ (λ i. sum_of (first i) (second i))

pub returns-clause-range : goal.returns-clause-range
returns-clause-range g c =
    let n = g.S.Scale.unit in
    carry_magnitude (2000 * n) c.add.result (sum_of (product_at n c.args.a (bracket n c.args.cos)) (product_at n c.args.b (bracket n c.args.sin))) (returns-clause-is g c)
    (projection_magnitude n c.args.a (bracket n c.args.cos) c.args.b (bracket n c.args.sin) (some_units n g.S.Scale.least) c.requires.a (bracket_up_to n c.args.cos c.requires.cos) c.requires.b (bracket_up_to n c.args.sin c.requires.sin))
