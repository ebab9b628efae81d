-- Ranges of intervals, as contracts require and ensure them.
use Rattle.std.specs.Prelude.{ℕ, pos, ◌*◌, ◌*ℤ◌, ◌≤◌, ◌≤ℤ◌}
use Rattle.interval_specs.specs.Ends.{Ends, magnitude_of}

-- a is in order, and its magnitude is at most k
pub record MagnitudeUpTo (k : ℕ) (a : Ends) : Type 0 where
  pub ordered : a.lo ≤ℤ a.hi
  pub small : magnitude_of a ≤ k

-- a is in order and lies from 0 to k
pub record UpTo (k : ℕ) (a : Ends) : Type 0 where
  pub not_negative : pos 0 ≤ℤ a.lo
  pub ordered : a.lo ≤ℤ a.hi
  pub below : a.hi ≤ℤ pos k

-- no number of a, at scale n, is below the fraction num / den
pub record AtLeast (num den n : ℕ) (a : Ends) : Type 0 where
  pub low : pos (num * n) ≤ℤ (pos den *ℤ a.lo)
