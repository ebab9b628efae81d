-- Quotients of natural numbers by their inequalities.
use Rattle.std.proofs.Common.{ℕ, ◌*◌, ◌≤◌, ◌<◌, arith, ⊎_elim, mul-le-mul_right, add-one-le}
use Rattle.std.proofs.lemmas.Bool.{cases_lt}
use Rattle.std.proofs.lemmas.Grind.{div_ceil_times}
use Rattle.std.specs.Int.{div_ceil}

-- z / d rounded up is at most each k for which k * d is at least z
pub up_least : (z d k : ℕ) → 0 < d → z ≤ k * d → div_ceil z d ≤ k
up_least z d k some h =
    let near = (div_ceil_times z d some).1 in
    ⊎_elim (λ l. let m = mul-le-mul_right d (add-one-le l) in absurd (omega arith)) (λ l. l) (cases_lt k (div_ceil z d))
