-- When an interval encloses one at a finer scale.
use Rattle.std.specs.Prelude.{ℕ, pos, ◌*ℤ◌, ◌≤ℤ◌}
use Rattle.interval_specs.specs.Ends.{Ends}

-- a, at some scale n, encloses b, at the scale m * n, whose units are m times finer. At m = 1 this
-- is inclusion. The ends of b must be in order, as those of an interval are
pub record Encloses (m : ℕ) (a b : Ends) : Type 0 where
  pub low : (pos m *ℤ a.lo) ≤ℤ b.lo
  pub high : b.hi ≤ℤ (pos m *ℤ a.hi)
  pub ordered : b.lo ≤ℤ b.hi
