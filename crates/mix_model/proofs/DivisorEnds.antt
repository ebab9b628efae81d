-- The ends of 1 + q + sqrt(q^2 + 2q) for a q that is not below 0, and bounds on them.
use Rattle.std.proofs.Common.{ℕ, pos, ◌+◌, ◌*◌, ◌^◌, ◌/◌, ◌≡◌, ◌∙◌, ◌≤◌, ◌<◌, ◌≤ℤ◌, ◌*ℤ◌, unsigned_abs, ap, sym, refl, arith, mul-le-mul, mul-le-mul_right}
use Rattle.std.proofs.lemmas.Int.{ints}
use Rattle.std.specs.Int.{div_ceil}
use Rattle.interval_specs.specs.Ends.{Ends, one_at}
use Rattle.interval_specs.specs.Operations.{sum_of, multiple_of, square_at}
use Rattle.interval_specs.specs.Rounding.{floor_over, ceil_over}
use Rattle.interval_specs.specs.Roots.{square, root_below, root_above, sqrt_at}
use Rattle.interval_specs.proofs.Laws.{absolute_above, square_by_magnitude}
use Rattle.interval_specs.proofs.Order.{min_first, max_second}
use Rattle.interval_specs.proofs.Roots.{square_power, above_least}
use Rattle.interval_specs.proofs.Rounds.{floor_of_natural, ceil_of_natural}
use Rattle.mix_model.specs.Reflectance.{radicand_at, divisor_at}
use Rattle.mix_model.proofs.Quotients.{up_least}

-- the radicand and the divisor at each end, q in units
abbrev pub radicand_down : ℕ → ℕ → ℕ
radicand_down n q = q * q / n + 2 * q

abbrev pub radicand_up : ℕ → ℕ → ℕ
radicand_up n q = div_ceil (q * q) n + 2 * q

abbrev pub down : ℕ → ℕ → ℕ
down n q = n + q + root_below square (radicand_down n q * n)

abbrev pub up : ℕ → ℕ → ℕ
up n q = n + q + root_above square (radicand_up n q * n)

abbrev from_to : ℕ → ℕ → Ends
from_to a b = record { lo = pos a; hi = pos b }

square_ends : (n a b : ℕ) → 0 < n → a ≤ b → square_at n (from_to a b) ≡ from_to (a * a / n) (div_ceil (b * b) n)
square_ends n a b some o =
    square_by_magnitude n (from_to a b)
    ∙ (λ i. let e = absolute_above (from_to a b) (omega (arith, ints)) (omega (arith, ints)) i in record { lo = floor_over (e.lo *ℤ e.lo) n; hi = ceil_over (e.hi *ℤ e.hi) n })
    ∙ (λ i. record { lo = sym (floor_of_natural (a * a) n) i; hi = sym (ceil_of_natural (b * b) n (div_ceil (b * b) n) some refl) i })

twice_ends : (a b : ℕ) → a ≤ b → multiple_of (pos 2) (from_to a b) ≡ from_to (2 * a) (2 * b)
unfolding multiple_of
twice_ends a b o = λ i. record { lo = min_first (pos (2 * a)) (pos (2 * b)) (omega (arith, ints)) i; hi = max_second (pos (2 * a)) (pos (2 * b)) (omega (arith, ints)) i }

radicand_ends : (n a b : ℕ) → 0 < n → a ≤ b → radicand_at n (from_to a b) ≡ from_to (radicand_down n a) (radicand_up n b)
unfolding radicand_at sum_of
radicand_ends n a b some o = λ i. sum_of (square_ends n a b some o i) (twice_ends a b o i)

divisor_ends : (n a b : ℕ) → 0 < n → a ≤ b → divisor_at n (from_to a b) ≡ from_to (down n a) (up n b)
unfolding divisor_at sum_of sqrt_at one_at
divisor_ends n a b some o = λ i. sum_of (sum_of (one_at n) (from_to a b)) (sqrt_at n (radicand_ends n a b some o i))

naturals : (q : Ends) → pos 0 ≤ℤ q.lo → q.lo ≤ℤ q.hi → q ≡ from_to (unsigned_abs q.lo) (unsigned_abs q.hi)
naturals q z o =
    let low : q.lo ≡ pos (unsigned_abs q.lo) = omega (arith, ints) in
    let high : q.hi ≡ pos (unsigned_abs q.hi) = omega (arith, ints) in
    λ i. record { lo = low i; hi = high i }

pub divisor_is : (n : ℕ) (q : Ends) → 0 < n → pos 0 ≤ℤ q.lo → q.lo ≤ℤ q.hi → divisor_at n q ≡ record { lo = pos (down n (unsigned_abs q.lo)); hi = pos (up n (unsigned_abs q.hi)) }
divisor_is n q some z o = ap (divisor_at n) (naturals q z o) ∙ divisor_ends n (unsigned_abs q.lo) (unsigned_abs q.hi) some (omega (arith, ints))

-- ---- the upper root does not overflow

square_small : (n q : ℕ) → q ≤ 2 * 10 ^ 6 * n → q * q ≤ 4 * 10 ^ 12 * n * n
square_small n q h = let m = mul-le-mul h h in omega arith

pub radicand_up_small : (n q : ℕ) → 0 < n → q ≤ 2 * 10 ^ 6 * n → radicand_up n q ≤ 5 * 10 ^ 12 * n
radicand_up_small n q some h =
    let s = up_least (q * q) n (4 * 10 ^ 12 * n) some (square_small n q h) in
    omega arith

pub root_above_small : (n x : ℕ) → x ≤ 5 * 10 ^ 12 * n → root_above square (x * n) ≤ 3 * 10 ^ 6 * n
root_above_small n x h = let m = mul-le-mul_right n h in above_least square square_power (x * n) (3 * 10 ^ 6 * n) (omega arith)
