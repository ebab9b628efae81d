-- The range of the chroma of a colour.
use Rattle.std.specs.Prelude.{ℕ, pos, ◌*◌, ◌≤ℤ◌, ◌<ℤ◌}
use Rattle.interval_specs.specs.Ends.{Ends}
use Rattle.interval_specs.specs.Ranges.{UpTo}

-- at scale n, c lies from 0 to 1415; and where it lies above 0 it is at least 1000 n-ths, since it
-- is the square root of a number of at least one n-th, and n is at least 10^6
pub record IsChroma (n : ℕ) (c : Ends) : Type 0 where
  pub range : UpTo (1415 * n) c
  pub far : pos 0 <ℤ c.lo → pos 1000 ≤ℤ c.lo
