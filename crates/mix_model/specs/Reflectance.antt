-- The reflectance of an opaque layer from its K/S, by Kubelka and Munk: the inverse of
-- K/S = (1 - R)^2 / 2R.
use Rattle.std.specs.Prelude.{ℕ, pos}
use Rattle.interval_specs.specs.Ends.{Ends, one_at}
use Rattle.interval_specs.specs.Operations.{sum_of, multiple_of, square_at, quotient_at}
use Rattle.interval_specs.specs.Roots.{sqrt_at}

-- q^2 + 2q, for K/S q at scale n
unfoldable pub radicand_at : ℕ → Ends → Ends
radicand_at n q = sum_of (square_at n q) (multiple_of (pos 2) q)

-- 1 + q + sqrt(q^2 + 2q)
unfoldable pub divisor_at : ℕ → Ends → Ends
divisor_at n q = sum_of (sum_of (one_at n) q) (sqrt_at n (radicand_at n q))

-- R = 1 / (1 + q + sqrt(q^2 + 2q)), which is 1 + q - sqrt(q^2 + 2q)
unfoldable pub reflectance_at : ℕ → Ends → Ends
reflectance_at n q = quotient_at n (one_at n) (divisor_at n q)
