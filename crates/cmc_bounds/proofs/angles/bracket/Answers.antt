use Rattle.interval_specs.proofs.Held.{held_by, is_ends}
use Rattle.interval_specs.proofs.Ranges.{carry_up_to}
use Rattle.fix_bounds.proofs.Passed.{read}
use Rattle.cmc_specs.specs.Cmc.{bracket}
use Rattle.cmc_specs.proofs.Ranges.{bracket_up_to}
use Rattle.cmc_bounds.proofs.AngleCalls.{bracket_high, bracket_low, bracket_room}
use Rattle.cmc_bounds.proofs.Calls.{held_unit}
use Rattle.cmc_bounds.proofs.angles.bracket.Goals as goal

pub of_ratio-below-requires-clause-room : goal.of_ratio-below-requires-clause-room
of_ratio-below-requires-clause-room g c = bracket_room g.S.Scale.unit c.args.low _ (read _ _ c.from.type_inv c.from.ensures) c.requires g.S.Scale.most

pub of_ratio-below-requires-clause-magnitude : goal.of_ratio-below-requires-clause-magnitude
of_ratio-below-requires-clause-magnitude g c = bracket_room g.S.Scale.unit c.args.low _ (read _ _ c.from.type_inv c.from.ensures) c.requires g.S.Scale.most

pub of_ends-requires : goal.of_ends-requires
of_ends-requires g c =
    let n = g.S.Scale.unit in
    held_by _ _ (bracket n c.args.low)
    (bracket_low n c.args.low _ _ c.of_ratio-below.result (read _ _ c.from.type_inv c.from.ensures) c.of_ratio-below.ensures.is (read _ _ c.lo.type_inv c.lo.ensures.is))
    (bracket_high n c.args.low _ _ c.of_ratio-above.result (read _ _ c.from-2.type_inv c.from-2.ensures) c.of_ratio-above.ensures.is (read _ _ c.hi.type_inv c.hi.ensures.is))
    (held_unit n (bracket n c.args.low) g.S.Scale.most (bracket_up_to n c.args.low c.requires))

pub returns-clause-is : goal.returns-clause-is
returns-clause-is g c =
    let n = g.S.Scale.unit in
    is_ends _ _ _ (bracket n c.args.low) c.of_ends.ensures.is
    (bracket_low n c.args.low _ _ c.of_ratio-below.result (read _ _ c.from.type_inv c.from.ensures) c.of_ratio-below.ensures.is (read _ _ c.lo.type_inv c.lo.ensures.is))
    (bracket_high n c.args.low _ _ c.of_ratio-above.result (read _ _ c.from-2.type_inv c.from-2.ensures) c.of_ratio-above.ensures.is (read _ _ c.hi.type_inv c.hi.ensures.is))

pub returns-clause-range : goal.returns-clause-range
returns-clause-range g c = carry_up_to g.S.Scale.unit c.of_ends.result (bracket g.S.Scale.unit c.args.low) (returns-clause-is g c) (bracket_up_to g.S.Scale.unit c.args.low c.requires)
