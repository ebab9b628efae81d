-- An interval of whole numbers, by its two ends. At a scale n each end counts n-ths.
use Rattle.std.specs.Prelude.{ℕ, ℤ, pos, ◌^◌, ◌≤◌, ◌≤ℤ◌, max, unsigned_abs}

-- the lower end and the upper end
pub record Ends : Type 0 where
  pub lo : ℤ
  pub hi : ℤ

-- the number one at scale n, which has no width
unfoldable pub one_at : ℕ → Ends
one_at n = record { lo = pos n; hi = pos n }

-- an interval of no width at 0
abbrev pub nothing : Ends
nothing = record { lo = pos 0; hi = pos 0 }

-- the magnitude of an interval: the greater of the magnitudes of its ends
abbrev pub magnitude_of : Ends → ℕ
magnitude_of a = max (unsigned_abs a.lo) (unsigned_abs a.hi)

-- the ends are in order
abbrev pub IsOrdered : Ends → Type 0
IsOrdered a = a.lo ≤ℤ a.hi

-- the invariant of the code's type of intervals: ends in order, and a magnitude that leaves room in
-- 128 bits
pub record IsHeld (a : Ends) : Type 0 where
  pub ordered : a.lo ≤ℤ a.hi
  pub small : magnitude_of a ≤ 10 ^ 25
