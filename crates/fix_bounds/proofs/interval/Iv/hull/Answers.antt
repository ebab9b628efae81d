use Rattle.std.proofs.Common.{◌≡◌, ◌^◌}
use Rattle.std.specs.Int.{int_min, int_max}
use Rattle.interval_specs.specs.Operations.{hull_of}
use Rattle.interval_specs.proofs.Held.{held_by, is_ends}
use Rattle.interval_specs.proofs.Ranges.{held, hull_magnitude, of_held}
use Rattle.fix_bounds.proofs.Passed.{passed, read, read_min, read_max}
use Rattle.fix_bounds.proofs.interval.Iv.hull.Given as given
use Rattle.fix_bounds.proofs.interval.Iv.hull.Goals as goal
use Rattle.fix_bounds.proofs.interval.Iv.hull.Goals.{After-max}

low : (g : given.Over) (c : After-max g) → passed c.min.result ≡ int_min c.args.self.lo c.args.other.lo
low g c = read_min _ _ _ _ _ c.min.type_inv c.min.ensures.value (read _ _ c.lo.type_inv c.lo.ensures.is) (read _ _ c.lo-2.type_inv c.lo-2.ensures.is)

high : (g : given.Over) (c : After-max g) → passed c.max.result ≡ int_max c.args.self.hi c.args.other.hi
high g c = read_max _ _ _ _ _ c.max.type_inv c.max.ensures.value (read _ _ c.hi.type_inv c.hi.ensures.is) (read _ _ c.hi-2.type_inv c.hi-2.ensures.is)

pub of_ends-requires : goal.of_ends-requires
unfolding hull_of
of_ends-requires g c =
    held_by _ _ (hull_of c.args.self c.args.other) (low g c) (high g c)
    (held _ (hull_magnitude (10 ^ 25) c.args.self c.args.other (of_held c.args.self c.lo.ensures.held) (of_held c.args.other c.lo-2.ensures.held)))

pub returns-clause-is : goal.returns-clause-is
unfolding hull_of
returns-clause-is g c =
    let d = (goal.at.returns-clause-is g c).After-max in
    is_ends _ _ _ (hull_of c.args.self c.args.other) c.of_ends.ensures.is (low g d) (high g d)
