-- What the calls in the cosine and in S_H require and ensure, over plain intervals.
use Rattle.std.proofs.Common.{ℕ, zero, suc, ℤ, pos, negsuc, ◌≡◌, ◌∙◌, ◌*◌, ◌^◌, ◌≤◌, ◌<◌, ◌≤ℤ◌, ◌<ℤ◌, true, false, cond, ◌==◌, refl, unsigned_abs, arith, ap, subst, sym, mul-le-mul, mul-le-mul_right}
use Rattle.std.proofs.lemmas.Int.{ints}
use Rattle.std.proofs.lemmas.Bool.Decides.{nat_tests}
use Rattle.std.specs.Int.{w128}
use mir.Val.{to_z, of_z}
use lib.Signed.{mag}
use Rattle.interval_specs.specs.Ends.{Ends, magnitude_of, one_at}
use Rattle.interval_specs.specs.Ranges.{MagnitudeUpTo}
use Rattle.interval_specs.specs.Operations.{absolute_of, cut_high_at, difference_of, product_at, quotient_at}
use Rattle.interval_specs.proofs.Ranges.{absolute_up_to, carry_up_to}
use Rattle.fix_bounds.proofs.Passed.{passed_is}
use Rattle.cmc_specs.specs.Cmc.{cosine_magnitude, hue_weight}
use Rattle.lab_parts.specs.Chroma.{IsChroma}
use Rattle.lab_parts.proofs.Rooms.{up_to_magnitude}

is_zero : (z : ℤ) → z ≡ pos 0 → (unsigned_abs z == 0) ≡ true
is_zero z e = ap (λ z. unsigned_abs z == 0) e

above_none : (z : ℤ) → pos 0 ≤ℤ z → (z ≡ pos 0 → ⊥) → pos 0 <ℤ z
above_none (pos zero) p some = absurd (some refl)
above_none (pos (suc z)) p some = omega (arith, ints)
above_none (negsuc z) p some = absurd (omega (arith, ints))

not_zero : (z : ℤ) → pos 0 <ℤ z → (unsigned_abs z == 0) ≡ false
not_zero z p = let s : 0 < unsigned_abs z = omega (arith, ints) in from_some (unsigned_abs z) s
  where
    from_some : (x : ℕ) → 0 < x → (x == 0) ≡ false
    from_some x s = grind (arith, nat_tests)

-- the magnitude of a cosine where the chroma may be 0
pub any_cosine : (n : ℕ) (w c1 r : Ends) → c1.lo ≡ pos 0 → r ≡ record { lo = pos 0; hi = pos n } → r ≡ cosine_magnitude n w c1
unfolding cosine_magnitude
any_cosine n w c1 r z e =
    subst (λ b. r ≡ cond b (record { lo = pos 0; hi = pos n }) (cut_high_at n (pos 1) (quotient_at n (absolute_of w) c1))) (sym (is_zero c1.lo z)) e

-- the same where the chroma is above 0
pub known_cosine : (n : ℕ) (w c1 a d r : Ends) → IsChroma n c1 → (c1.lo ≡ pos 0 → ⊥) → a ≡ absolute_of w → d ≡ quotient_at n a c1 → r ≡ cut_high_at n (pos 1) d → r ≡ cosine_magnitude n w c1
unfolding cosine_magnitude
known_cosine n w c1 a d r u some p q e =
    let d' : d ≡ quotient_at n (absolute_of w) c1 = q ∙ ap (λ x. quotient_at n x c1) p in
    let r' : r ≡ cut_high_at n (pos 1) (quotient_at n (absolute_of w) c1) = e ∙ ap (λ x. cut_high_at n (pos 1) x) d' in
    subst (λ b. r ≡ cond b (record { lo = pos 0; hi = pos n }) (cut_high_at n (pos 1) (quotient_at n (absolute_of w) c1)))
    (sym (not_zero c1.lo (above_none c1.lo u.range.not_negative some))) r'

pub cosine_room : (n : ℕ) (w c1 a : Ends) → n ≤ 10 ^ 12 → MagnitudeUpTo (2000 * n) w → IsChroma n c1 → (c1.lo ≡ pos 0 → ⊥) → a ≡ absolute_of w → magnitude_of a * n ≤ 10 ^ 25 * unsigned_abs c1.lo
cosine_room n w c1 a few s u some e =
    let far = u.far (above_none c1.lo u.range.not_negative some) in
    let least : 1000 ≤ unsigned_abs c1.lo = at_least 1000 c1.lo far in
    let magnitude = up_to_magnitude (2000 * n) a (carry_up_to (2000 * n) a (absolute_of w) e (absolute_up_to (2000 * n) w s.small)) in
    let top = mul-le-mul_right n magnitude in
    let units = mul-le-mul few few in
    omega arith
  where
    at_least : (k : ℕ) (z : ℤ) → pos k ≤ℤ z → k ≤ unsigned_abs z
    at_least k (pos z) h = omega (arith, ints)
    at_least k (negsuc z) h = absurd (omega (arith, ints))

-- S_H from its steps
pub weight_is : (n : ℕ) (sc f t d p e r : Ends) → d ≡ difference_of (one_at n) t → p ≡ product_at n f d → e ≡ difference_of (one_at n) p → r ≡ product_at n sc e → r ≡ hue_weight n sc f t
unfolding hue_weight
weight_is n sc f t d p e r h j k l =
    let p' : p ≡ product_at n f (difference_of (one_at n) t) = j ∙ ap (λ x. product_at n f x) h in
    let e' : e ≡ difference_of (one_at n) (product_at n f (difference_of (one_at n) t)) = k ∙ ap (λ x. difference_of (one_at n) x) p' in
    l ∙ ap (λ x. product_at n sc x) e'

-- a signed number is 0 exactly where its bits are 0
pub zero_bits : (r z : ℤ) → r ≡ z → z ≡ pos 0 → of_z w128 r ≡ 0
zero_bits r z e h = ap (of_z w128) (e ∙ h)

pub bits_zero : (r z : ℤ) → mag r < 2 ^ 127 → r ≡ z → of_z w128 r ≡ 0 → z ≡ pos 0
bits_zero r z fits e h = sym e ∙ sym (passed_is r fits) ∙ ap (to_z w128) h
