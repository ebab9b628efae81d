use Rattle.std.proofs.Common.{◌*◌, lit<, lit≤}
use Rattle.interval_specs.proofs.Ranges.{carry_magnitude}
use Rattle.lab_parts.proofs.Rooms.{above_0, far_from_0, quotient_room}
use Rattle.delta_specs.proofs.Ranges.{chroma_term_magnitude}
use Rattle.other_deltas.proofs.difference.chroma_term.Goals as goal

pub div-requires-clause-positive : goal.div-requires-clause-positive
div-requires-clause-positive g c = let s = c.args.standard.now in above_0 1 1 g.S.Scale.unit s.sc g.S.Scale.least (lit< tt) s.sc_least

pub div-requires-clause-magnitude : goal.div-requires-clause-magnitude
div-requires-clause-magnitude g c =
    let s = c.args.standard.now in
    quotient_room g.S.Scale.unit 1415 c.args.delta s.sc g.S.Scale.most (lit≤ tt) c.requires.small (far_from_0 1 1 g.S.Scale.unit s.sc g.S.Scale.least (lit< tt) (lit≤ tt) s.sc_least)

pub returns-clause-range : goal.returns-clause-range
returns-clause-range g c =
    let s = c.args.standard.now in
    carry_magnitude (1415 * g.S.Scale.unit) c.div.result _ c.div.ensures.is (chroma_term_magnitude g.S.Scale.unit c.args.delta s.sc g.S.Scale.least c.requires s.sc_range.ordered s.sc_least)
