-- A signed value that code computes and passes on is stored as bits and read again: these lemmas
-- say that it is unchanged.
use Rattle.std.proofs.Common.{ℕ, ℤ, pos, arith, ◌≡◌, ◌<◌, ◌≤◌, ◌^◌, ◌∙◌, ap, subst, sym, ◌*ℤ◌, ◌+ℤ◌, ◌-ℤ◌, neg_ℤ, FitsSigned, unsigned_abs, lt_of_le_of_lt}
use Rattle.std.proofs.lemmas.Int.{to_z-of_z, ints, fits_signed_from_abs}
use Rattle.std.specs.Int.{w64, w128, int_min, int_max}
use mir.Val.{to_z, of_z}
use lib.Signed.{mag}

-- z, as bits that are read again
abbrev pub passed : ℤ → ℤ
passed z = to_z w128 (of_z w128 z)

-- a value in range is not changed
pub passed_is : (z : ℤ) → mag z < 2 ^ 127 → passed z ≡ z
passed_is z h = to_z-of_z w128 z (record { sfits = h })

-- the result of a call, where it is known to be z
pub read : (r z : ℤ) → mag r < 2 ^ 127 → r ≡ z → passed r ≡ z
read r z h e = passed_is r h ∙ e

-- the magnitude of a call's result that is known to be z
pub read_magnitude : (u : ℕ) (r z : ℤ) → mag r < 2 ^ 127 → r ≡ z → u ≡ unsigned_abs (passed r) → u ≡ unsigned_abs z
read_magnitude u r z h e k = k ∙ ap unsigned_abs (read r z h e)

-- a value whose magnitude is known to leave room
pub fits : (z : ℤ) (k : ℕ) → unsigned_abs z ≤ k → k < 2 ^ 127 → FitsSigned w128 z
fits z k h s = fits_signed_from_abs w128 z (lt_of_le_of_lt h s)

-- the sum, the difference and the product of two known values, passed on
pub read_sum : (r s x y : ℤ) (k : ℕ) → r ≡ x → s ≡ y → unsigned_abs (x +ℤ y) ≤ k → k < 2 ^ 127 → passed (r +ℤ s) ≡ x +ℤ y
read_sum r s x y k e f h room = ap passed (λ i. e i +ℤ f i) ∙ to_z-of_z w128 (x +ℤ y) (fits (x +ℤ y) k h room)

pub read_difference : (r s x y : ℤ) (k : ℕ) → r ≡ x → s ≡ y → unsigned_abs (x -ℤ y) ≤ k → k < 2 ^ 127 → passed (r -ℤ s) ≡ x -ℤ y
read_difference r s x y k e f h room = ap passed (λ i. e i -ℤ f i) ∙ to_z-of_z w128 (x -ℤ y) (fits (x -ℤ y) k h room)

pub read_product : (r s x y : ℤ) (k : ℕ) → r ≡ x → s ≡ y → unsigned_abs (x *ℤ y) ≤ k → k < 2 ^ 127 → passed (r *ℤ s) ≡ x *ℤ y
read_product r s x y k e f h room = ap passed (λ i. e i *ℤ f i) ∙ to_z-of_z w128 (x *ℤ y) (fits (x *ℤ y) k h room)

-- the same product has room
pub product_fits : (r s x y : ℤ) (k : ℕ) → r ≡ x → s ≡ y → unsigned_abs (x *ℤ y) ≤ k → k < 2 ^ 127 → FitsSigned w128 (r *ℤ s)
product_fits r s x y k e f h room = subst (λ z. FitsSigned w128 z) (sym (λ i. e i *ℤ f i)) (fits (x *ℤ y) k h room)

-- a 64-bit number, widened
pub widened : (r k : ℤ) → mag r < 2 ^ 127 → FitsSigned w64 k → r ≡ to_z w64 (of_z w64 k) → passed r ≡ k
widened r k h f e = read r k h (e ∙ to_z-of_z w64 k f)

-- the lesser and the greater of two known values
pub read_min : (m r s x y : ℤ) → mag m < 2 ^ 127 → m ≡ int_min r s → r ≡ x → s ≡ y → passed m ≡ int_min x y
read_min m r s x y h e p q = read m (int_min x y) h (e ∙ (λ i. int_min (p i) (q i)))

pub read_max : (m r s x y : ℤ) → mag m < 2 ^ 127 → m ≡ int_max r s → r ≡ x → s ≡ y → passed m ≡ int_max x y
read_max m r s x y h e p q = read m (int_max x y) h (e ∙ (λ i. int_max (p i) (q i)))

-- the negative of a value
zero_minus : (z : ℤ) → pos 0 -ℤ z ≡ neg_ℤ z
zero_minus z = omega (arith, ints)

pub read_neg : (r x : ℤ) (k : ℕ) → r ≡ x → unsigned_abs x ≤ k → k < 2 ^ 127 → passed (pos 0 -ℤ r) ≡ neg_ℤ x
read_neg r x k e h room = ap (λ z. passed (pos 0 -ℤ z)) e ∙ ap passed (zero_minus x) ∙ to_z-of_z w128 (neg_ℤ x) (fits (neg_ℤ x) k (omega (arith, ints)) room)

pub neg_fits : (r x : ℤ) (k : ℕ) → r ≡ x → unsigned_abs x ≤ k → k < 2 ^ 127 → FitsSigned w128 (pos 0 -ℤ r)
neg_fits r x k e h room = subst (λ z. FitsSigned w128 z) (sym (ap (λ z. pos 0 -ℤ z) e ∙ zero_minus x)) (fits (neg_ℤ x) k (omega (arith, ints)) room)

-- a result that is known to be z, of a magnitude that leaves room, is passed on unchanged
pub settled : (r z : ℤ) (k : ℕ) → r ≡ z → unsigned_abs z ≤ k → k < 2 ^ 127 → passed r ≡ z
settled r z k e h room = ap passed e ∙ to_z-of_z w128 z (fits z k h room)
