-- Lower bounds of the divisors in the difference. They hold for colours of any magnitude.
use Rattle.std.proofs.Common.{ℕ, ℤ, pos, ◌+◌, ◌*◌, ◌^◌, ◌≤◌, ◌<◌, ◌-ℤ◌, ◌*ℤ◌, ◌≤ℤ◌, unsigned_abs, subst, arith, lit<, mul-le-mul, mul-le-mul_left}
use Rattle.std.proofs.lemmas.Int.{ints, clamps}
use Rattle.std.specs.Int.{int_max}
use lib.IntN.{*ℤ_comm}
use Rattle.interval_specs.specs.Ends.{Ends, IsOrdered, one_at}
use Rattle.interval_specs.specs.Ranges.{UpTo, AtLeast}
use Rattle.interval_specs.specs.Operations.{cut_low_at, difference_of, fraction_of, product_at, square_at, least_product, greatest_product}
use Rattle.interval_specs.proofs.Order.{any_greatest, le_pos, max_left, max_right, refl_ℤ, trans_ℤ, wide_left, wider}
use Rattle.interval_specs.proofs.Rounds.{ceil_least, floor_le_ceil}
use Rattle.interval_specs.proofs.Laws.{products_ordered}
use Rattle.interval_specs.proofs.Ranges.{floor_not_negative, fraction_not_negative, choice_at_least, floor_at_least, low_magnitude_at_least, positive, product_at_least, ratio_at_least, magnitude_from, square_at_least, sum_begins, tenths_at_least}
use Rattle.cmc_specs.specs.Cmc.{along_12, along_35, chroma_denominator, chroma_gain, chroma_numerator, chroma_weight, cosine_magnitude, first_form, high_weight, hue_factor, hue_sum_15, hue_sum_16, hue_weight, is_dark, is_inside, is_light, is_outside, lightness_denominator, lightness_numerator, lightness_weight, low_weight, second_form}
use Rattle.cmc_specs.proofs.UnitRanges.{cosine_magnitude_up_to}

-- ---- S_L is at least 0.51

high_end : (n t : ℕ) → 10 ^ 6 ≤ n → 16 * n ≤ t → (51 * n + 100) * (10 ^ 6 * n + 17650 * t) ≤ 100 * (40975 * t * n)
high_end n t few h =
    let a = mul-le-mul_left n h in
    let b = mul-le-mul_left t few in
    let c = mul-le-mul_left n few in
    omega arith

cut_begins : (n k : ℕ) (a : Ends) → k * n ≤ unsigned_abs (cut_low_at n (pos k) a).lo
unfolding cut_low_at
cut_begins n k a = magnitude_from (k * n) (int_max a.lo (pos k *ℤ pos n)) (max_right a.lo (pos k *ℤ pos n))

high_weight_at_least : (n : ℕ) (l1 : Ends) → 10 ^ 6 ≤ n → AtLeast 51 100 n (high_weight n l1)
unfolding high_weight
high_weight_at_least n l1 few =
    let t = unsigned_abs (cut_low_at n (pos 16) l1).lo in
    record { low = floor_at_least (51 * n) 100 (lightness_numerator n t) (lightness_denominator n t) (omega arith) (high_end n t few (cut_begins n 16 l1)) }

pub lightness_weight_at_least : (n : ℕ) (l1 : Ends) → 10 ^ 6 ≤ n → AtLeast 51 100 n (lightness_weight n l1)
unfolding lightness_weight
lightness_weight_at_least n l1 few =
    choice_at_least 51 100 n (is_light n l1) (is_dark n l1) (high_weight n l1) (low_weight n) (high_weight_at_least n l1 few) (ratio_at_least 51 100 n 511 1000 (lit< tt) (omega arith))

-- ---- S_C is at least 0.637

chroma_gain_not_negative : (n : ℕ) (c1 : Ends) → 0 < n → pos 0 ≤ℤ (chroma_gain n c1).lo
unfolding chroma_gain
chroma_gain_not_negative n c1 some =
    let t = unsigned_abs c1.lo in
    floor_not_negative (pos (chroma_numerator n t)) (chroma_denominator n t) (omega arith) (le_pos (chroma_numerator n t))

pub chroma_weight_at_least : (n : ℕ) (c1 : Ends) → 10 ^ 6 ≤ n → AtLeast 637 1000 n (chroma_weight n c1)
unfolding chroma_weight
chroma_weight_at_least n c1 few =
    sum_begins 637 1000 n _ (chroma_gain n c1) (chroma_gain_not_negative n c1 (omega arith)) (ratio_at_least 637 1000 n 638 1000 (lit< tt) (omega arith))

-- ---- T is at least 0.35

first_form_at_least : (n : ℕ) (a b c1 : Ends) → 10 ^ 6 ≤ n → pos 0 ≤ℤ c1.lo → IsOrdered c1 → AtLeast 35 100 n (first_form n a b c1)
unfolding first_form
first_form_at_least n a b c1 few z o =
    let k = cosine_magnitude_up_to n (along_35 n a b) c1 z o in
    sum_begins 35 100 n _ (fraction_of 4 10 (cosine_magnitude n (along_35 n a b) c1)) (fraction_not_negative 4 10 _ (lit< tt) k.not_negative) (ratio_at_least 35 100 n 36 100 (lit< tt) (omega arith))

second_form_at_least : (n : ℕ) (a b c1 : Ends) → 10 ^ 6 ≤ n → pos 0 ≤ℤ c1.lo → IsOrdered c1 → AtLeast 35 100 n (second_form n a b c1)
unfolding second_form
second_form_at_least n a b c1 few z o =
    let k = cosine_magnitude_up_to n (along_12 n a b) c1 z o in
    sum_begins 35 100 n _ (fraction_of 2 10 (cosine_magnitude n (along_12 n a b) c1)) (fraction_not_negative 2 10 _ (lit< tt) k.not_negative) (ratio_at_least 35 100 n 56 100 (lit< tt) (omega arith))

pub hue_factor_at_least : (n : ℕ) (a b c1 : Ends) → 10 ^ 6 ≤ n → pos 0 ≤ℤ c1.lo → IsOrdered c1 → AtLeast 35 100 n (hue_factor n a b c1)
unfolding hue_factor
hue_factor_at_least n a b c1 few z o =
    let p = hue_sum_15 n a b in
    let r = hue_sum_16 n a b in
    choice_at_least 35 100 n (is_outside p r) (is_inside p r) (first_form n a b c1) (second_form n a b c1) (first_form_at_least n a b c1 few z o) (second_form_at_least n a b c1 few z o)

-- ---- S_H is at least 0.22, and its square at least 0.048

corner_below : (n : ℕ) (x y w : ℤ) → pos 0 ≤ℤ x → x ≤ℤ pos n → y ≤ℤ w → pos 0 ≤ℤ w → (x *ℤ y) ≤ℤ (w *ℤ pos n)
corner_below n x y w z h o s =
    subst (λ t. (x *ℤ y) ≤ℤ t) (*ℤ_comm (pos n) w) (trans_ℤ (x *ℤ y) (x *ℤ w) (pos n *ℤ w) (wide_left x y w z o) (wider w x (pos n) s h))

one_ordered : (n : ℕ) → IsOrdered (one_at n)
unfolding one_at
one_ordered n = refl_ℤ (pos n)

product_ordered : (n : ℕ) (a b : Ends) → IsOrdered (product_at n a b)
unfolding product_at
product_ordered n a b = floor_le_ceil (least_product a b) (greatest_product a b) n (products_ordered a b)

difference_ordered : (a b : Ends) → IsOrdered a → IsOrdered b → IsOrdered (difference_of a b)
unfolding difference_of
difference_ordered a b p q = omega (arith, ints)

-- F (1 - T) is at most each bound of 1 - T that is not negative
part_below : (n : ℕ) (f d : Ends) (w : ℤ) → 0 < n → UpTo n f → IsOrdered d → d.hi ≤ℤ w → pos 0 ≤ℤ w → (product_at n f d).hi ≤ℤ w
unfolding product_at
part_below n f d w some u o h z =
    let fl = trans_ℤ f.lo f.hi (pos n) u.ordered u.below in
    let fh = trans_ℤ (pos 0) f.lo f.hi u.not_negative u.ordered in
    let dl = trans_ℤ d.lo d.hi w o h in
    ceil_least (greatest_product f d) w n some
    (any_greatest (λ t. t ≤ℤ (w *ℤ pos n)) (f.lo *ℤ d.lo) (f.lo *ℤ d.hi) (f.hi *ℤ d.lo) (f.hi *ℤ d.hi)
    (corner_below n f.lo d.lo w u.not_negative fl dl z) (corner_below n f.lo d.hi w u.not_negative fl h z)
    (corner_below n f.hi d.lo w fh u.below dl z) (corner_below n f.hi d.hi w fh u.below h z))

rest_low : (n : ℕ) (t p : ℤ) → pos (35 * n) ≤ℤ (pos 100 *ℤ t) → p ≤ℤ int_max (pos 0) (pos n -ℤ t) → pos (35 * n) ≤ℤ (pos 100 *ℤ (pos n -ℤ p))
rest_low n t p h k = omega (arith, ints, clamps)

rest_at_least : (n : ℕ) (f t : Ends) → 0 < n → UpTo n f → IsOrdered t → AtLeast 35 100 n t → AtLeast 35 100 n (difference_of (one_at n) (product_at n f (difference_of (one_at n) t)))
unfolding difference_of one_at
rest_at_least n f t some u o h =
    let d = difference_of (one_at n) t in
    let w = int_max (pos 0) (pos n -ℤ t.lo) in
    record { low = rest_low n t.lo (product_at n f d).hi h.low (part_below n f d w some u (difference_ordered (one_at n) t (one_ordered n) o) (max_right (pos 0) (pos n -ℤ t.lo)) (max_left (pos 0) (pos n -ℤ t.lo))) }

product_room : (n i j : ℕ) → 10 ^ 6 ≤ n → 637 * n ≤ 1000 * i → 35 * n ≤ 100 * j → (22 * n + 100) * n ≤ 100 * (i * j)
product_room n i j few p q =
    let a = mul-le-mul p q in
    let b = mul-le-mul_left n few in
    omega arith

pub hue_weight_at_least : (n : ℕ) (sc f t : Ends) → 10 ^ 6 ≤ n → IsOrdered sc → AtLeast 637 1000 n sc → UpTo n f → IsOrdered t → AtLeast 35 100 n t → AtLeast 22 100 n (hue_weight n sc f t)
unfolding hue_weight
hue_weight_at_least n sc f t few so s u o h =
    let some : 0 < n = omega arith in
    let rest = difference_of (one_at n) (product_at n f (difference_of (one_at n) t)) in
    let r = rest_at_least n f t some u o h in
    let ro : IsOrdered rest = difference_ordered (one_at n) _ (one_ordered n) (product_ordered n f _) in
    let p : 0 < 637 * n = omega arith in
    let q : 0 < 35 * n = omega arith in
    product_at_least 22 100 n sc rest some (positive 637 1000 n sc p s) so (positive 35 100 n rest q r) ro
    (product_room n (unsigned_abs sc.lo) (unsigned_abs rest.lo) few (low_magnitude_at_least 637 1000 n sc p s) (low_magnitude_at_least 35 100 n rest q r))

square_room : (n i : ℕ) → 10 ^ 6 ≤ n → 22 * n ≤ 100 * i → (48 * n + 1000) * n ≤ 1000 * (i * i)
square_room n i few p =
    let a = mul-le-mul p p in
    let b = mul-le-mul_left n few in
    omega arith

pub hue_weight_square_at_least : (n : ℕ) (sh : Ends) → 10 ^ 6 ≤ n → IsOrdered sh → AtLeast 22 100 n sh → AtLeast 48 1000 n (square_at n sh)
hue_weight_square_at_least n sh few o h =
    let p : 0 < 22 * n = omega arith in
    square_at_least 48 1000 n sh (omega arith) (positive 22 100 n sh p h) o (square_room n (unsigned_abs sh.lo) few (low_magnitude_at_least 22 100 n sh p h))

-- ---- l S_L is at least 0.0509 and c S_C at least 0.0636, for weights l and c of a tenth and more

pub lightness_divisor_at_least : (n l10 : ℕ) (sl : Ends) → 10 ^ 6 ≤ n → 0 < l10 → AtLeast 51 100 n sl → AtLeast 509 10000 n (fraction_of l10 10 sl)
lightness_divisor_at_least n l10 sl few some h =
    let p : 0 < 51 * n = omega arith in
    let i = low_magnitude_at_least 51 100 n sl p h in
    tenths_at_least 509 10000 n l10 sl some (positive 51 100 n sl p h) (omega arith)

pub chroma_divisor_at_least : (n c10 : ℕ) (sc : Ends) → 10 ^ 6 ≤ n → 0 < c10 → AtLeast 637 1000 n sc → AtLeast 636 10000 n (fraction_of c10 10 sc)
chroma_divisor_at_least n c10 sc few some h =
    let p : 0 < 637 * n = omega arith in
    let i = low_magnitude_at_least 637 1000 n sc p h in
    tenths_at_least 636 10000 n c10 sc some (positive 637 1000 n sc p h) (omega arith)
