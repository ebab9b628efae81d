use Rattle.std.proofs.Common.{◌*◌, ◌∙◌, ap, lit<}
use Rattle.interval_specs.specs.Operations.{difference_of, product_at}
use Rattle.interval_specs.proofs.Ranges.{carry_magnitude}
use Rattle.cmc_specs.specs.Cmc.{along_35, cos35, sin35}
use Rattle.cmc_specs.proofs.Ranges.{bracket_up_to, projection_difference_magnitude}
use Rattle.cmc_bounds.proofs.AngleCalls.{parts_room}
use Rattle.lab_parts.proofs.Rooms.{some_units}
use Rattle.cmc_bounds.proofs.angles.along_35.Goals as goal

pub sub-requires : goal.sub-requires
sub-requires g c =
    parts_room g.S.Scale.unit c.args.a c.args.b c.bracket.result c.bracket-2.result c.mul-first.result c.mul-second.result g.S.Scale.least g.S.Scale.most c.requires.a c.requires.b
    c.bracket.ensures.range c.bracket-2.ensures.range c.mul-first.ensures.is c.mul-second.ensures.is

pub returns-clause-is : goal.returns-clause-is
unfolding along_35
returns-clause-is g c =
    let n = g.S.Scale.unit in
    let first = c.mul-first.ensures.is ∙ ap (λ x. product_at n c.args.a x) c.bracket.ensures.is in
    let second = c.mul-second.ensures.is ∙ ap (λ x. product_at n c.args.b x) c.bracket-2.ensures.is in
    c.sub.ensures.is ∙ (λ i. difference_of (first i) (second i))

pub returns-clause-range : goal.returns-clause-range
unfolding along_35
returns-clause-range g c =
    let n = g.S.Scale.unit in
    carry_magnitude (2000 * n) c.sub.result (along_35 n c.args.a c.args.b) (returns-clause-is g c)
    (projection_difference_magnitude n c.args.a (cos35 n) c.args.b (sin35 n) (some_units n g.S.Scale.least) c.requires.a (bracket_up_to n 819152044288 (lit< tt)) c.requires.b (bracket_up_to n 573576436351 (lit< tt)))
