-- How large rounded quotients are.
use Rattle.std.proofs.Common.{ℕ, ℤ, pos, negsuc, ◌≡◌, ◌+◌, ◌*◌, ◌≤◌, ◌<◌, ◌*ℤ◌, neg_ℤ, ◌<ℤ◌, unsigned_abs, ap, arith, ◌/◌, ◌%◌, div-add-mod', mod-lt, ◌-◌, ◌^◌, ⊎_elim}
use borrow.Author.Differences.{up, down}
use Rattle.std.proofs.lemmas.Int.{ints}
use Rattle.std.proofs.lemmas.Nat.{div_below}
use Rattle.std.proofs.lemmas.Bool.{cases_lt}
use Rattle.interval_specs.specs.Rounding.{floor_over, ceil_over}
use Rattle.interval_specs.proofs.Order.{parts, by_parts, to_parts, cancel_left}
use Rattle.interval_specs.proofs.Rounds.Floors.{floor_below, floor_greatest}

-- a magnitude at most b, as two inequalities, and back
pub between : (z : ℤ) (b : ℕ) → unsigned_abs z ≤ b → (up z ≤ b + down z) × (down z ≤ b + up z)
between z b h = (omega (arith, ints), omega (arith, ints))

pub by_magnitude : (z : ℤ) (b : ℕ) → up z ≤ b + down z → down z ≤ b + up z → unsigned_abs z ≤ b
by_magnitude (pos n) b h k = omega arith
by_magnitude (negsuc n) b h k = omega arith

magnitude_of_neg : (z : ℤ) (b : ℕ) → unsigned_abs z ≤ b → unsigned_abs (neg_ℤ z) ≤ b
magnitude_of_neg z b h = omega (arith, ints)

-- a quotient whose dividend is at most b * n in magnitude is at most b in magnitude
pub floor_small : (z : ℤ) (n b : ℕ) → 0 < n → unsigned_abs z ≤ b * n → unsigned_abs (floor_over z n) ≤ b
floor_small z n b some h =
    let f = floor_over z n in
    let s = between z (b * n) h in
    let low = to_parts (neg_ℤ (pos b)) f (floor_greatest z (neg_ℤ (pos b)) n some (by_parts (neg_ℤ (pos b) *ℤ pos n) z (simp parts (omega arith)))) in
    let high = simp parts at (to_parts (f *ℤ pos n) z (floor_below z n some)) in
    let top = to_parts f (pos b) (cancel_left n f (pos b) some (by_parts (pos n *ℤ f) (pos n *ℤ pos b) (simp parts (omega arith)))) in
    let bottom = simp parts at low in
    by_magnitude f b (omega arith) (omega arith)

pub ceil_small : (z : ℤ) (n b : ℕ) → 0 < n → unsigned_abs z ≤ b * n → unsigned_abs (ceil_over z n) ≤ b
unfolding ceil_over
ceil_small z n b some h = magnitude_of_neg (floor_over (neg_ℤ z) n) b (floor_small (neg_ℤ z) n b some (magnitude_of_neg z (b * n) h))

-- the floor times the divisor leaves room where z does
pub floor_turned : (z n : ℤ) → pos 0 <ℤ n → unsigned_abs z ≤ 10 ^ 37 → unsigned_abs n ≤ 2 ^ 127 - 1 → unsigned_abs (floor_over z (unsigned_abs n) *ℤ n) ≤ 2 ^ 127 - 1
unfolding floor_over
floor_turned (pos a) (pos n) some h k = let s = div-add-mod' a n in omega (arith, ints)
floor_turned (negsuc a) (pos n) some h k =
    let s = div-add-mod' a n in
    let p : 0 < n = omega (arith, ints) in
    let r : a % n < n = mod-lt a p in
    ⊎_elim
    (λ l. let z : a / n < 1 = div_below a n 1 p (omega arith) in let zero : a / n ≡ 0 = omega arith in let none = ap (λ (t : ℕ). t * n) zero in omega (arith, ints))
    (λ l. omega (arith, ints))
    (cases_lt a n)
floor_turned z (negsuc n) some h k = absurd (omega (arith, ints))
