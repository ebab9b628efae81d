-- The floor over a natural number from the quotient of a magnitude, as the code takes it.
use Rattle.std.proofs.Common.{ℕ, ℤ, pos, negsuc, true, false, ◌≡◌, ◌/◌, ◌<◌, ◌≤◌, ◌^◌, ◌∙◌, ◌-ℤ◌, ◌≤ℤ◌, neg_ℤ, FitsSigned, unsigned_abs, arith, ap, sym, div-le_self, le-mul_of_pos_right, lit<, ◌<ℤ◌}
use Rattle.std.proofs.lemmas.Int.{to_z-of_z, to_z_pos, ints}
use Rattle.std.specs.Int.{w128}
use mir.Val.{to_z}
use lib.Signed.{le_z}
use Rattle.interval_specs.specs.Rounding.{floor_over, ceil_over}
use Rattle.interval_specs.proofs.Rounds.{floor_small}
use Rattle.fix_bounds.proofs.Passed.{passed, read_neg, neg_fits}

above_is : (z : ℤ) (n : ℕ) → FitsSigned w128 z → pos 0 ≤ℤ z → to_z w128 (unsigned_abs z / n) ≡ floor_over z n
unfolding floor_over
above_is (pos a) n f h = let l = div-le_self a n in to_z_pos w128 (a / n) (omega (arith, ints))
above_is (negsuc a) n f h = absurd (omega (arith, ints))

-- a number that is not negative
pub unit_above : (z : ℤ) (r n : ℕ) → FitsSigned w128 z → le_z (pos 0) (passed z) ≡ true → r ≡ unsigned_abs (passed z) / n → to_z w128 r ≡ floor_over z n
unit_above z r n f t e =
    let is = to_z-of_z w128 z f in
    let test : le_z (pos 0) z ≡ true = sym (ap (le_z (pos 0)) is) ∙ t in
    ap (to_z w128) (e ∙ ap (λ x. unsigned_abs x / n) is) ∙ above_is z n f (omega (arith, ints))

below_is : (z : ℤ) (n : ℕ) → FitsSigned w128 z → z <ℤ pos 0 → passed (negsuc 0 -ℤ to_z w128 (unsigned_abs (passed (negsuc 0 -ℤ z)) / n)) ≡ floor_over z n
unfolding floor_over
below_is (negsuc a) n f h =
    let l = div-le_self a n in
    let turned : passed (negsuc 0 -ℤ negsuc a) ≡ pos a = omega (arith, ints) in
    let down : to_z w128 (a / n) ≡ pos (a / n) = to_z_pos w128 (a / n) (omega (arith, ints)) in
    let back : passed (negsuc 0 -ℤ pos (a / n)) ≡ negsuc (a / n) = omega (arith, ints) in
    ap (λ x. passed (negsuc 0 -ℤ to_z w128 (unsigned_abs x / n))) turned ∙ ap (λ x. passed (negsuc 0 -ℤ x)) down ∙ back
below_is (pos a) n f h = absurd (omega (arith, ints))

-- a number below 0, by the number that mirrors it
pub unit_below : (z : ℤ) (r n : ℕ) → FitsSigned w128 z → le_z (pos 0) (passed z) ≡ false → r ≡ unsigned_abs (passed (negsuc 0 -ℤ passed z)) / n → passed (negsuc 0 -ℤ to_z w128 r) ≡ floor_over z n
unit_below z r n f t e =
    let is = to_z-of_z w128 z f in
    let test : le_z (pos 0) z ≡ false = sym (ap (le_z (pos 0)) is) ∙ t in
    ap (λ x. passed (negsuc 0 -ℤ to_z w128 x)) (e ∙ ap (λ x. unsigned_abs (passed (negsuc 0 -ℤ x)) / n) is) ∙ below_is z n f (omega (arith, ints))

-- the floor of the negative leaves room, and its negative is the ceiling
neg_room : (z : ℤ) (n : ℕ) → 0 < n → unsigned_abs z ≤ 10 ^ 37 → unsigned_abs (floor_over (neg_ℤ z) n) ≤ 10 ^ 37
neg_room z n some h =
    let t : unsigned_abs (neg_ℤ z) ≤ 10 ^ 37 = omega (arith, ints) in
    floor_small (neg_ℤ z) n (10 ^ 37) some (omega (arith, le-mul_of_pos_right (10 ^ 37) some))

pub ceil_fits : (z r : ℤ) (n : ℕ) → 0 < n → unsigned_abs z ≤ 10 ^ 37 → r ≡ floor_over (neg_ℤ z) n → FitsSigned w128 (pos 0 -ℤ r)
ceil_fits z r n some h e = neg_fits r (floor_over (neg_ℤ z) n) (10 ^ 37) e (neg_room z n some h) (lit< tt)

pub ceil_is : (z r : ℤ) (n : ℕ) → 0 < n → unsigned_abs z ≤ 10 ^ 37 → r ≡ floor_over (neg_ℤ z) n → passed (pos 0 -ℤ r) ≡ ceil_over z n
unfolding ceil_over
ceil_is z r n some h e = read_neg r (floor_over (neg_ℤ z) n) (10 ^ 37) e (neg_room z n some h) (lit< tt)
