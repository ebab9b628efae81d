use Rattle.std.proofs.Common.{◌≡◌, ◌^◌, ◌*ℤ◌, lit<}
use Rattle.interval_specs.specs.Operations.{multiple_of}
use Rattle.interval_specs.proofs.Held.{held_by, is_ends}
use Rattle.interval_specs.proofs.Ranges.{held, multiple_magnitude, magnitude_of_held, magnitude_wider}
use Rattle.fix_bounds.proofs.Passed.{passed, read, widened, read_min, read_max, read_product, product_fits}
use Rattle.fix_bounds.proofs.Levels.{multiple_small_lo, multiple_small_hi}
use Rattle.fix_bounds.proofs.interval.Iv.scale_by.Given as given
use Rattle.fix_bounds.proofs.interval.Iv.scale_by.Goals as goal
use Rattle.fix_bounds.proofs.interval.Iv.scale_by.Goals.{After-max}

pub overflow_mul-one : goal.overflow_mul-one
overflow_mul-one g c =
    product_fits _ _ c.args.k c.args.self.lo (10 ^ 25) (widened _ _ c.from-factor.type_inv c.ranges.k c.from-factor.ensures) (read _ _ c.lo.type_inv c.lo.ensures.is) (multiple_small_lo c.args.k c.args.self c.requires) (lit< tt)

pub overflow_mul-other : goal.overflow_mul-other
overflow_mul-other g c =
    product_fits _ _ c.args.k c.args.self.hi (10 ^ 25) (widened _ _ c.from-factor.type_inv c.ranges.k c.from-factor.ensures) (read _ _ c.hi.type_inv c.hi.ensures.is) (multiple_small_hi c.args.k c.args.self c.requires) (lit< tt)

-- the two products
one : (g : given.Over) (c : After-max g) → passed (passed c.from-factor.result *ℤ passed c.lo.result) ≡ c.args.k *ℤ c.args.self.lo
one g c =
    read_product _ _ c.args.k c.args.self.lo (10 ^ 25) (widened _ _ c.from-factor.type_inv c.ranges.k c.from-factor.ensures) (read _ _ c.lo.type_inv c.lo.ensures.is) (multiple_small_lo c.args.k c.args.self c.requires) (lit< tt)

other : (g : given.Over) (c : After-max g) → passed (passed c.from-factor.result *ℤ passed c.hi.result) ≡ c.args.k *ℤ c.args.self.hi
other g c =
    read_product _ _ c.args.k c.args.self.hi (10 ^ 25) (widened _ _ c.from-factor.type_inv c.ranges.k c.from-factor.ensures) (read _ _ c.hi.type_inv c.hi.ensures.is) (multiple_small_hi c.args.k c.args.self c.requires) (lit< tt)

pub of_ends-requires : goal.of_ends-requires
unfolding multiple_of
of_ends-requires g c =
    held_by _ _ (multiple_of c.args.k c.args.self) (read_min _ _ _ _ _ c.min.type_inv c.min.ensures.value (one g c) (other g c)) (read_max _ _ _ _ _ c.max.type_inv c.max.ensures.value (one g c) (other g c))
    (held _ (magnitude_wider _ (10 ^ 25) (multiple_of c.args.k c.args.self) c.requires (multiple_magnitude _ c.args.k c.args.self (magnitude_of_held c.args.self c.lo.ensures.held))))

pub returns-clause-is : goal.returns-clause-is
unfolding multiple_of
returns-clause-is g c =
    let d = (goal.at.returns-clause-is g c).After-max in
    is_ends _ _ _ (multiple_of c.args.k c.args.self) c.of_ends.ensures.is (read_min _ _ _ _ _ c.min.type_inv c.min.ensures.value (one g d) (other g d)) (read_max _ _ _ _ _ c.max.type_inv c.max.ensures.value (one g d) (other g d))
