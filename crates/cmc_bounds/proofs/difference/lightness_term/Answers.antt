use Rattle.std.proofs.Common.{◌*◌, ◌∙◌, lit<, lit≤, le_trans}
use Rattle.interval_specs.specs.Operations.{quotient_at}
use Rattle.interval_specs.proofs.Ranges.{carry_magnitude}
use Rattle.cmc_specs.proofs.Ranges.{lightness_term_magnitude}
use Rattle.lab_parts.proofs.Rooms.{above_0, far_from_0, quotient_room}
use Rattle.cmc_bounds.proofs.Calls.{lightness_divisor, tenths_room, light_magnitude}
use Rattle.cmc_bounds.proofs.difference.lightness_term.Goals as goal

pub ratio_up-requires-clause-room : goal.ratio_up-requires-clause-room
ratio_up-requires-clause-room g c =
    let s = c.args.standard.now in
    le_trans (tenths_room g.S.Scale.unit c.args.rule.now.l10 s.sl g.S.Scale.most c.args.rule.now.l_most (light_magnitude g.S.Scale.unit s.sl s.sl_range)) (lit≤ tt)

pub ratio_up-requires-clause-magnitude : goal.ratio_up-requires-clause-magnitude
ratio_up-requires-clause-magnitude g c =
    let s = c.args.standard.now in
    le_trans (tenths_room g.S.Scale.unit c.args.rule.now.l10 s.sl g.S.Scale.most c.args.rule.now.l_most (light_magnitude g.S.Scale.unit s.sl s.sl_range)) (lit≤ tt)

pub div-requires-clause-positive : goal.div-requires-clause-positive
div-requires-clause-positive g c =
    let s = c.args.standard.now in
    above_0 509 10000 g.S.Scale.unit c.ratio_up.result g.S.Scale.least (lit< tt)
    (lightness_divisor g.S.Scale.unit c.args.rule.now.l10 s.sl c.ratio_up.result g.S.Scale.least c.args.rule.now.l_least s.sl_least c.ratio_up.ensures.is)

pub div-requires-clause-magnitude : goal.div-requires-clause-magnitude
div-requires-clause-magnitude g c =
    let s = c.args.standard.now in
    quotient_room g.S.Scale.unit 2000 c.args.delta c.ratio_up.result g.S.Scale.most (lit≤ tt) c.requires.small
    (far_from_0 509 10000 g.S.Scale.unit c.ratio_up.result g.S.Scale.least (lit< tt) (lit≤ tt)
    (lightness_divisor g.S.Scale.unit c.args.rule.now.l10 s.sl c.ratio_up.result g.S.Scale.least c.args.rule.now.l_least s.sl_least c.ratio_up.ensures.is))

pub returns-clause-is : goal.returns-clause-is
returns-clause-is g c = c.div.ensures.is ∙ (λ i. quotient_at g.S.Scale.unit c.args.delta (c.ratio_up.ensures.is i))

pub returns-clause-range : goal.returns-clause-range
returns-clause-range g c =
    let s = c.args.standard.now in
    carry_magnitude (40000 * g.S.Scale.unit) c.div.result _ (returns-clause-is g c)
    (lightness_term_magnitude g.S.Scale.unit c.args.rule.now.l10 c.args.delta s.sl g.S.Scale.least c.args.rule.now.l_least c.args.rule.now.l_most c.requires s.sl_range s.sl_least)
