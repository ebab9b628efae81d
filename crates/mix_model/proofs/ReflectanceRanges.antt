-- The ranges of the parts of the reflectance.
use Rattle.std.proofs.Common.{◌+◌, ◌*◌, ◌^◌, ◌≤◌, ◌<◌, ◌≤ℤ◌, ◌<ℤ◌, ℕ, pos, arith}
use Rattle.std.proofs.lemmas.Int.{ints}
use Rattle.interval_specs.specs.Ends.{Ends, IsHeld, one_at, magnitude_of}
use Rattle.interval_specs.specs.Ranges.{UpTo}
use Rattle.interval_specs.specs.Operations.{sum_of, multiple_of, square_at}
use Rattle.interval_specs.specs.Roots.{sqrt_at}
use Rattle.interval_specs.proofs.Ranges.{square_up_to, multiple_up_to, sum_up_to, sqrt_up_to, quotient_up_to, up_to_wider, held, magnitude_of_up_to, one_up_to, magnitude_from}
use Rattle.mix_model.specs.Reflectance.{radicand_at, divisor_at, reflectance_at}

-- K/S of what can be mixed
abbrev pub IsStrength : ℕ → Ends → Type 0
IsStrength n q = UpTo (2 * 10 ^ 6 * n) q

pub some_units : (n : ℕ) → 10 ^ 6 ≤ n → 0 < n
some_units n large = omega arith

small : (k : ℕ) (a : Ends) → UpTo k a → magnitude_of a ≤ k
small k a u = (magnitude_of_up_to k a u).small

square_range : (n : ℕ) (q : Ends) → 0 < n → IsStrength n q → UpTo (4 * 10 ^ 12 * n) (square_at n q)
square_range n q some u = square_up_to n (4 * 10 ^ 12 * n) (2 * 10 ^ 6 * n) q some (omega arith) (small (2 * 10 ^ 6 * n) q u)

twice_range : (n : ℕ) (q : Ends) → IsStrength n q → UpTo (4 * 10 ^ 6 * n) (multiple_of (pos 2) q)
twice_range n q u = up_to_wider (2 * 10 ^ 6 * n * 2) (4 * 10 ^ 6 * n) _ (omega arith) (multiple_up_to (2 * 10 ^ 6 * n) 2 q u)

radicand_range : (n : ℕ) (q : Ends) → 0 < n → IsStrength n q → UpTo (5 * 10 ^ 12 * n) (radicand_at n q)
unfolding radicand_at
radicand_range n q some u =
    up_to_wider (4 * 10 ^ 12 * n + 4 * 10 ^ 6 * n) (5 * 10 ^ 12 * n) _ (omega arith) (sum_up_to (4 * 10 ^ 12 * n) (4 * 10 ^ 6 * n) _ _ (square_range n q some u) (twice_range n q u))

root_range : (n : ℕ) (q : Ends) → 0 < n → IsStrength n q → UpTo (3 * 10 ^ 6 * n) (sqrt_at n (radicand_at n q))
root_range n q some u = sqrt_up_to n (3 * 10 ^ 6 * n) (5 * 10 ^ 12 * n) (radicand_at n q) (omega arith) (radicand_range n q some u)

begun_range : (n : ℕ) (q : Ends) → IsStrength n q → UpTo (3 * 10 ^ 6 * n) (sum_of (one_at n) q)
begun_range n q u = up_to_wider (n + 2 * 10 ^ 6 * n) (3 * 10 ^ 6 * n) _ (omega arith) (sum_up_to n (2 * 10 ^ 6 * n) (one_at n) q (one_up_to n) u)

pub divisor_range : (n : ℕ) (q : Ends) → 0 < n → IsStrength n q → UpTo (6 * 10 ^ 6 * n) (divisor_at n q)
unfolding divisor_at
divisor_range n q some u =
    up_to_wider (3 * 10 ^ 6 * n + 3 * 10 ^ 6 * n) (6 * 10 ^ 6 * n) _ (omega arith) (sum_up_to (3 * 10 ^ 6 * n) (3 * 10 ^ 6 * n) _ _ (begun_range n q u) (root_range n q some u))

-- the divisor is not below 1
pub divisor_least : (n : ℕ) (q : Ends) → 0 < n → IsStrength n q → pos n ≤ℤ (divisor_at n q).lo
unfolding divisor_at sum_of one_at
divisor_least n q some u =
    let root = (root_range n q some u).not_negative in
    let strength = u.not_negative in
    omega (arith, ints, root, strength)

pub reflectance_range : (n : ℕ) (q : Ends) → 0 < n → IsStrength n q → UpTo n (reflectance_at n q)
unfolding reflectance_at
reflectance_range n q some u =
    let least = divisor_least n q some u in
    quotient_up_to n n n n (one_at n) (divisor_at n q) (omega (arith, ints, least)) (divisor_range n q some u).ordered (magnitude_from n (divisor_at n q).lo least) (omega arith) (one_up_to n)

pub reflectance_held : (n : ℕ) (q : Ends) → 0 < n → n ≤ 10 ^ 12 → IsStrength n q → IsHeld (reflectance_at n q)
reflectance_held n q some few u = held (reflectance_at n q) (magnitude_of_up_to (10 ^ 25) (reflectance_at n q) (up_to_wider n (10 ^ 25) (reflectance_at n q) (omega arith) (reflectance_range n q some u)))

pub divisor_positive : (n : ℕ) (q : Ends) → 0 < n → IsStrength n q → pos 0 <ℤ (divisor_at n q).lo
divisor_positive n q some u = let least = divisor_least n q some u in omega (arith, ints, least)
