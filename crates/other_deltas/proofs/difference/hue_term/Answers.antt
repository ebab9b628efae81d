use Rattle.std.proofs.Common.{◌*◌, ◌^◌, lit<, lit≤}
use Rattle.interval_specs.proofs.Ranges.{carry_up_to}
use Rattle.lab_parts.proofs.Rooms.{above_0, far_from_0, quotient_room, up_to_magnitude}
use Rattle.delta_specs.proofs.Ranges.{hue_term_up_to}
use Rattle.other_deltas.proofs.difference.hue_term.Goals as goal

pub div-requires-clause-positive : goal.div-requires-clause-positive
div-requires-clause-positive g c = let s = c.args.standard.now in above_0 1 2 g.S.Scale.unit s.sh_square g.S.Scale.least (lit< tt) s.square_least

pub div-requires-clause-magnitude : goal.div-requires-clause-magnitude
div-requires-clause-magnitude g c =
    let s = c.args.standard.now in
    quotient_room g.S.Scale.unit (8 * 10 ^ 6) c.args.square s.sh_square g.S.Scale.most (lit≤ tt) (up_to_magnitude _ c.args.square c.requires) (far_from_0 1 2 g.S.Scale.unit s.sh_square g.S.Scale.least (lit< tt) (lit≤ tt) s.square_least)

pub returns-clause-range : goal.returns-clause-range
returns-clause-range g c =
    let s = c.args.standard.now in
    carry_up_to (170 * 10 ^ 6 * g.S.Scale.unit) c.div.result _ c.div.ensures.is (hue_term_up_to g.S.Scale.unit c.args.square s.sh_square g.S.Scale.least c.requires s.square_range.ordered s.square_least)
