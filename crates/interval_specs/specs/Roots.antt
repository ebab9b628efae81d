-- Square and cube roots of natural numbers, defined by inequalities, and those of intervals.
use Rattle.std.specs.Prelude.{ℕ, zero, suc, ◌*◌, pos, nat_le, if◌then◌else◌, unsigned_abs}
use Rattle.interval_specs.specs.Ends.{Ends}

abbrev pub square : ℕ → ℕ
square r = r * r

abbrev pub cube : ℕ → ℕ
cube r = r * r * r

-- the greatest number from 1 to k whose power is at most n, and 0 where there is none; the power is
-- the square or the cube
unfoldable pub greatest_upto : (ℕ → ℕ) → ℕ → ℕ → ℕ
greatest_upto power zero n = 0
greatest_upto power (suc k) n = if nat_le (power (suc k)) n then suc k else greatest_upto power k n

-- the greatest number whose square or cube is at most n, which is at most n itself
unfoldable pub root_below : (ℕ → ℕ) → ℕ → ℕ
root_below power n = greatest_upto power n n

-- the least number whose square or cube is at least n: 0 for 0, and else the one after the greatest
-- whose power is less
unfoldable pub root_above : (ℕ → ℕ) → ℕ → ℕ
root_above power zero = 0
root_above power (suc n) = suc (root_below power n)

-- the square root of an interval that is not below 0, at scale n
unfoldable pub sqrt_at : ℕ → Ends → Ends
sqrt_at n a = record { lo = pos (root_below square (unsigned_abs a.lo * n)); hi = pos (root_above square (unsigned_abs a.hi * n)) }

-- the cube root of an interval that is not below 0, at scale n
unfoldable pub cbrt_at : ℕ → Ends → Ends
cbrt_at n a = record { lo = pos (root_below cube (unsigned_abs a.lo * (n * n))); hi = pos (root_above cube (unsigned_abs a.hi * (n * n))) }
