use Rattle.std.proofs.Common.{◌*◌, ◌^◌, ◌∙◌, lit<, lit≤}
use Rattle.interval_specs.specs.Operations.{quotient_at}
use Rattle.interval_specs.proofs.Ranges.{carry_up_to}
use Rattle.cmc_specs.proofs.Ranges.{hue_term_up_to}
use Rattle.lab_parts.proofs.Rooms.{above_0, far_from_0, quotient_room, up_to_magnitude}
use Rattle.cmc_bounds.proofs.difference.hue_term.Goals as goal

pub div-requires-clause-positive : goal.div-requires-clause-positive
div-requires-clause-positive g c = above_0 48 1000 g.S.Scale.unit c.hue_divisor.result g.S.Scale.least (lit< tt) c.hue_divisor.ensures.least

pub div-requires-clause-magnitude : goal.div-requires-clause-magnitude
div-requires-clause-magnitude g c =
    quotient_room g.S.Scale.unit (8 * 10 ^ 6) c.args.square c.hue_divisor.result g.S.Scale.most (lit≤ tt) (up_to_magnitude _ c.args.square c.requires)
    (far_from_0 48 1000 g.S.Scale.unit c.hue_divisor.result g.S.Scale.least (lit< tt) (lit≤ tt) c.hue_divisor.ensures.least)

pub returns-clause-is : goal.returns-clause-is
returns-clause-is g c = c.div.ensures.is ∙ (λ i. quotient_at g.S.Scale.unit c.args.square (c.hue_divisor.ensures.is i))

pub returns-clause-range : goal.returns-clause-range
returns-clause-range g c =
    let s = c.args.standard.now in
    carry_up_to (170 * 10 ^ 6 * g.S.Scale.unit) c.div.result _ (returns-clause-is g c) (hue_term_up_to g.S.Scale.unit c.args.square s.sh g.S.Scale.least c.requires s.sh_range s.sh_least)
