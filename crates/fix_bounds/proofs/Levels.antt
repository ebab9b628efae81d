-- The level of a cut is small, and so are multiples of the ends.
use Rattle.std.proofs.Common.{ℕ, ℤ, pos, ◌≤◌, ◌*◌, ◌^◌, ◌*ℤ◌, unsigned_abs, arith, mul-le-mul, mul-le-mul_left}
use Rattle.interval_specs.specs.Ends.{Ends, magnitude_of}
use Rattle.interval_specs.proofs.Ranges.{lo_small, hi_small}
use Rattle.std.proofs.lemmas.Int.{unsigned_abs-mul}

pub level_small : (k : ℤ) (n : ℕ) → unsigned_abs k ≤ 10 ^ 6 → n ≤ 10 ^ 12 → unsigned_abs (k *ℤ pos n) ≤ 10 ^ 18
level_small k n h r = omega (arith, unsigned_abs-mul k (pos n), mul-le-mul h r)

pub level_room : (k : ℤ) (n : ℕ) → unsigned_abs k ≤ 10 ^ 6 → n ≤ 10 ^ 12 → unsigned_abs k * n ≤ 10 ^ 25
level_room k n h r = omega (arith, mul-le-mul h r)

-- a multiple of an end is small
pub multiple_small_lo : (k : ℤ) (a : Ends) → magnitude_of a * unsigned_abs k ≤ 10 ^ 25 → unsigned_abs (k *ℤ a.lo) ≤ 10 ^ 25
multiple_small_lo k a h = omega (arith, unsigned_abs-mul k a.lo, mul-le-mul_left (unsigned_abs k) (lo_small a))

pub multiple_small_hi : (k : ℤ) (a : Ends) → magnitude_of a * unsigned_abs k ≤ 10 ^ 25 → unsigned_abs (k *ℤ a.hi) ≤ 10 ^ 25
multiple_small_hi k a h = omega (arith, unsigned_abs-mul k a.hi, mul-le-mul_left (unsigned_abs k) (hi_small a))
