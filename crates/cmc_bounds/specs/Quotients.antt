-- An interval from one quotient of natural numbers, rounded down, to another, rounded up.
use Rattle.std.specs.Prelude.{ℕ, pos}
use Rattle.interval_specs.specs.Ends.{Ends}
use Rattle.interval_specs.specs.Rounding.{floor_over, ceil_over}

-- from p / q to r / s
abbrev pub quotient_ends : (p q r s : ℕ) → Ends
quotient_ends p q r s = record { lo = floor_over (pos p) q; hi = ceil_over (pos r) s }
