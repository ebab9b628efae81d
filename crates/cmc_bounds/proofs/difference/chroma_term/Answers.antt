use Rattle.std.proofs.Common.{◌*◌, ◌∙◌, lit<, lit≤, le_trans}
use Rattle.interval_specs.specs.Operations.{quotient_at}
use Rattle.interval_specs.proofs.Ranges.{carry_magnitude}
use Rattle.cmc_specs.proofs.Ranges.{chroma_term_magnitude}
use Rattle.lab_parts.proofs.Rooms.{above_0, far_from_0, quotient_room, up_to_magnitude}
use Rattle.cmc_bounds.proofs.Calls.{chroma_divisor, tenths_room}
use Rattle.cmc_bounds.proofs.difference.chroma_term.Goals as goal

pub ratio_up-requires-clause-room : goal.ratio_up-requires-clause-room
ratio_up-requires-clause-room g c =
    let s = c.args.standard.now in
    le_trans (tenths_room g.S.Scale.unit c.args.rule.now.c10 s.sc g.S.Scale.most c.args.rule.now.c_most (up_to_magnitude _ s.sc s.sc_range)) (lit≤ tt)

pub ratio_up-requires-clause-magnitude : goal.ratio_up-requires-clause-magnitude
ratio_up-requires-clause-magnitude g c =
    let s = c.args.standard.now in
    le_trans (tenths_room g.S.Scale.unit c.args.rule.now.c10 s.sc g.S.Scale.most c.args.rule.now.c_most (up_to_magnitude _ s.sc s.sc_range)) (lit≤ tt)

pub div-requires-clause-positive : goal.div-requires-clause-positive
div-requires-clause-positive g c =
    let s = c.args.standard.now in
    above_0 636 10000 g.S.Scale.unit c.ratio_up.result g.S.Scale.least (lit< tt)
    (chroma_divisor g.S.Scale.unit c.args.rule.now.c10 s.sc c.ratio_up.result g.S.Scale.least c.args.rule.now.c_least s.sc_least c.ratio_up.ensures.is)

pub div-requires-clause-magnitude : goal.div-requires-clause-magnitude
div-requires-clause-magnitude g c =
    let s = c.args.standard.now in
    quotient_room g.S.Scale.unit 1415 c.args.delta c.ratio_up.result g.S.Scale.most (lit≤ tt) c.requires.small
    (far_from_0 636 10000 g.S.Scale.unit c.ratio_up.result g.S.Scale.least (lit< tt) (lit≤ tt)
    (chroma_divisor g.S.Scale.unit c.args.rule.now.c10 s.sc c.ratio_up.result g.S.Scale.least c.args.rule.now.c_least s.sc_least c.ratio_up.ensures.is))

pub returns-clause-is : goal.returns-clause-is
returns-clause-is g c = c.div.ensures.is ∙ (λ i. quotient_at g.S.Scale.unit c.args.delta (c.ratio_up.ensures.is i))

pub returns-clause-range : goal.returns-clause-range
returns-clause-range g c =
    let s = c.args.standard.now in
    carry_magnitude (23000 * g.S.Scale.unit) c.div.result _ (returns-clause-is g c)
    (chroma_term_magnitude g.S.Scale.unit c.args.rule.now.c10 c.args.delta s.sc g.S.Scale.least c.args.rule.now.c_least c.args.rule.now.c_most c.requires s.sc_range s.sc_least)
