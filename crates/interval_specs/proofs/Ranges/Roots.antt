-- The range of each root, from the range of the interval under it.
use Rattle.std.proofs.Common.{ℕ, ℤ, pos, ◌*◌, ◌≤◌, ◌≤ℤ◌, unsigned_abs, arith, le_trans, mul-le-mul_right}
use Rattle.std.proofs.lemmas.Int.{ints}
use Rattle.interval_specs.specs.Ends.{Ends}
use Rattle.interval_specs.specs.Ranges.{UpTo}
use Rattle.interval_specs.specs.Roots.{square, cube, root_below, root_above, sqrt_at, cbrt_at}
use Rattle.interval_specs.proofs.Order.{trans_ℤ, le_pos}
use Rattle.interval_specs.proofs.Roots.{square_power, cube_power, below_greatest, magnitudes_in_order, ordered_roots, sqrt_magnitude, cbrt_magnitude}

magnitude_up_to : (z : ℤ) (k : ℕ) → pos 0 ≤ℤ z → z ≤ℤ pos k → unsigned_abs z ≤ k
magnitude_up_to z k p q = omega (arith, ints)

as_end : (r k : ℕ) → r ≤ k → pos r ≤ℤ pos k
as_end r k h = omega (arith, ints)

pub sqrt_not_negative : (n : ℕ) (a : Ends) → pos 0 ≤ℤ (sqrt_at n a).lo
unfolding sqrt_at
sqrt_not_negative n a = le_pos (root_below square (unsigned_abs a.lo * n))

pub cbrt_not_negative : (n : ℕ) (a : Ends) → pos 0 ≤ℤ (cbrt_at n a).lo
unfolding cbrt_at
cbrt_not_negative n a = le_pos (root_below cube (unsigned_abs a.lo * (n * n)))

pub sqrt_up_to : (n r k : ℕ) (a : Ends) → k * n ≤ r * r → UpTo k a → UpTo r (sqrt_at n a)
unfolding sqrt_at
sqrt_up_to n r k a h u =
    let top = magnitude_up_to a.hi k (trans_ℤ (pos 0) a.lo a.hi u.not_negative u.ordered) u.below in
    record {
      not_negative = le_pos (root_below square (unsigned_abs a.lo * n));
      ordered = ordered_roots square square_power (unsigned_abs a.lo * n) (unsigned_abs a.hi * n) (magnitudes_in_order a.lo a.hi n u.not_negative u.ordered);
      below = as_end (root_above square (unsigned_abs a.hi * n)) r (sqrt_magnitude n r a.hi (le_trans (mul-le-mul_right n top) h));
    }

pub cbrt_up_to : (n r k : ℕ) (a : Ends) → k * (n * n) ≤ r * r * r → UpTo k a → UpTo r (cbrt_at n a)
unfolding cbrt_at
cbrt_up_to n r k a h u =
    let top = magnitude_up_to a.hi k (trans_ℤ (pos 0) a.lo a.hi u.not_negative u.ordered) u.below in
    record {
      not_negative = le_pos (root_below cube (unsigned_abs a.lo * (n * n)));
      ordered = ordered_roots cube cube_power (unsigned_abs a.lo * (n * n)) (unsigned_abs a.hi * (n * n)) (magnitudes_in_order a.lo a.hi (n * n) u.not_negative u.ordered);
      below = as_end (root_above cube (unsigned_abs a.hi * (n * n))) r (cbrt_magnitude n r a.hi (le_trans (mul-le-mul_right (n * n) top) h));
    }

-- the lower end of a square root is at least each k whose square is at most the number under it
pub sqrt_at_least : (n k : ℕ) (a : Ends) → k * k ≤ unsigned_abs a.lo * n → k ≤ unsigned_abs (sqrt_at n a).lo
unfolding sqrt_at
sqrt_at_least n k a h = below_greatest square square_power (unsigned_abs a.lo * n) k h
