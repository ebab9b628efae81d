use Rattle.std.proofs.Common.{◌≡◌, ◌^◌, ◌-ℤ◌, le_trans, lit<}
use Rattle.interval_specs.specs.Operations.{difference_of}
use Rattle.interval_specs.specs.Ranges.{MagnitudeUpTo}
use Rattle.interval_specs.proofs.Held.{held_by, is_ends}
use Rattle.interval_specs.proofs.Ranges.{held, lo_small, hi_small, difference_magnitude, magnitude_of_held, magnitude_wider}
use Rattle.fix_bounds.proofs.Passed.{passed, read, read_difference}
use Rattle.fix_bounds.proofs.interval.Iv.sub.Given as given
use Rattle.fix_bounds.proofs.interval.Iv.sub.Goals as goal
use Rattle.fix_bounds.proofs.interval.Iv.sub.Goals.{After-lo-2}

-- the magnitude of the difference is at most 10^25
small : (g : given.Over) (c : After-lo-2 g) → MagnitudeUpTo (10 ^ 25) (difference_of c.args.self c.args.other)
small g c =
    magnitude_wider _ (10 ^ 25) (difference_of c.args.self c.args.other) c.requires
    (difference_magnitude _ _ c.args.self c.args.other (magnitude_of_held c.args.self c.lo.ensures.held) (magnitude_of_held c.args.other c.lo-2.ensures.held))

low : (g : given.Over) (c : After-lo-2 g) → passed (passed c.lo.result -ℤ passed c.hi.result) ≡ c.args.self.lo -ℤ c.args.other.hi
unfolding difference_of
low g c =
    read_difference _ _ c.args.self.lo c.args.other.hi (10 ^ 25) (read _ _ c.lo.type_inv c.lo.ensures.is) (read _ _ c.hi.type_inv c.hi.ensures.is) (le_trans (lo_small (difference_of c.args.self c.args.other)) (small g c).small) (lit< tt)

high : (g : given.Over) (c : After-lo-2 g) → passed (passed c.hi-2.result -ℤ passed c.lo-2.result) ≡ c.args.self.hi -ℤ c.args.other.lo
unfolding difference_of
high g c =
    read_difference _ _ c.args.self.hi c.args.other.lo (10 ^ 25) (read _ _ c.hi-2.type_inv c.hi-2.ensures.is) (read _ _ c.lo-2.type_inv c.lo-2.ensures.is) (le_trans (hi_small (difference_of c.args.self c.args.other)) (small g c).small) (lit< tt)

pub of_ends-requires : goal.of_ends-requires
unfolding difference_of
of_ends-requires g c = held_by _ _ (difference_of c.args.self c.args.other) (low g c) (high g c) (held _ (small g c))

pub returns-clause-is : goal.returns-clause-is
unfolding difference_of
returns-clause-is g c =
    let d = (goal.at.returns-clause-is g c).After-lo-2 in
    is_ends _ _ _ (difference_of c.args.self c.args.other) c.of_ends.ensures.is (low g d) (high g d)
