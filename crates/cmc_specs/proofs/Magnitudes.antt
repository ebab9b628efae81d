-- Upper bounds of the values in the difference, from those of the coordinates.
use Rattle.std.proofs.Common.{ℕ, pos, ◌+◌, ◌*◌, ◌/◌, ◌≤◌, ◌<◌, ◌^◌, ◌*ℤ◌, Bool, true, false, cond, unsigned_abs, arith, lit<, mul-le-mul_right, add-one-le}
use Rattle.std.proofs.lemmas.Int.{ints}
use Rattle.interval_specs.specs.Ends.{Ends, one_at}
use Rattle.interval_specs.specs.Ranges.{MagnitudeUpTo, UpTo}
use Rattle.interval_specs.specs.Rounding.{floor_over, ceil_over}
use Rattle.interval_specs.specs.Operations.{cut_low_at, difference_of, fraction_of, hull_of, product_at, ratio_at, sum_of}
use Rattle.interval_specs.proofs.Order.{parts, by_parts, le_pos}
use Rattle.interval_specs.proofs.Rounds.{ceil_least}
use Rattle.interval_specs.proofs.Ranges.{floor_not_negative, magnitude_of_up_to, up_to_wider, ratio_up_to, fraction_up_to, sum_up_to, sum_magnitude, difference_magnitude, product_magnitude, product_up_to, cut_low_up_to, hull_up_to, magnitude_wider}
use Rattle.interval_specs.proofs.Roots.{magnitudes_rise}
use Rattle.cmc_specs.proofs.Shares.{quotients_in_order}
use Rattle.cmc_specs.specs.Cmc.{along_12, along_35, bracket, chroma_denominator, chroma_gain, chroma_numerator, chroma_weight, cosine_magnitude, first_form, high_weight, hue_weight, is_dark, is_light, lightness_denominator, lightness_numerator, lightness_weight, low_weight, second_form}

-- ---- two rounded quotients of natural numbers

pub up_to_ends : (p q r s k : ℕ) → 0 < q → 0 < s → p * s ≤ r * q → r ≤ k * s → UpTo k (record { lo = floor_over (pos p) q; hi = ceil_over (pos r) s })
up_to_ends p q r s k some other h numerator =
    record {
      not_negative = floor_not_negative (pos p) q some (le_pos p);
      ordered = quotients_in_order p r q s some other (omega arith);
      below = ceil_least (pos r) (pos k) s other (by_parts (pos r) (pos k *ℤ pos s) (simp parts (omega arith)));
    }

-- one of two intervals, or the hull of both
choice_up_to : (k : ℕ) (f s : Bool) (a b : Ends) → UpTo k a → UpTo k b → UpTo k (cond f a (cond s b (hull_of a b)))
choice_up_to k true s a b u v = u
choice_up_to k false true a b u v = v
choice_up_to k false false a b u v = hull_up_to k a b u v

-- ---- constants

pub bracket_up_to : (n low : ℕ) → low < 10 ^ 12 → UpTo n (bracket n low)
unfolding bracket
bracket_up_to n low h =
    let m = mul-le-mul_right n (add-one-le h) in
    up_to_ends (low * n) (10 ^ 12) ((low + 1) * n) (10 ^ 12) n (lit< tt) (lit< tt) (omega arith) (omega arith)

-- ---- S_L and S_C

high_ends : (n l h : ℕ) → 0 < n → l ≤ h → lightness_numerator n l * lightness_denominator n h ≤ lightness_numerator n h * lightness_denominator n l
high_ends n l h some rise = let m = mul-le-mul_right (n * n) rise in omega arith

pub high_weight_up_to : (n : ℕ) (l1 : Ends) → 0 < n → MagnitudeUpTo (1000 * n) l1 → UpTo (3 * n) (high_weight n l1)
unfolding high_weight
high_weight_up_to n l1 some s =
    let t = cut_low_at n (pos 16) l1 in
    let u = cut_low_up_to n (1000 * n) 16 l1 (omega arith) s in
    let l = unsigned_abs t.lo in
    let h = unsigned_abs t.hi in
    up_to_ends (lightness_numerator n l) (lightness_denominator n l) (lightness_numerator n h) (lightness_denominator n h) (3 * n) (omega arith) (omega arith)
    (high_ends n l h some (magnitudes_rise t.lo t.hi u.not_negative u.ordered)) (omega arith)

pub low_weight_up_to : (n : ℕ) → UpTo (3 * n) (low_weight n)
low_weight_up_to n = ratio_up_to n (3 * n) (pos 511) 1000 (lit< tt) (le_pos 511) (omega arith)

pub lightness_weight_up_to : (n : ℕ) (l1 : Ends) → 0 < n → MagnitudeUpTo (1000 * n) l1 → UpTo (3 * n) (lightness_weight n l1)
unfolding lightness_weight
lightness_weight_up_to n l1 some s = choice_up_to (3 * n) (is_light n l1) (is_dark n l1) (high_weight n l1) (low_weight n) (high_weight_up_to n l1 some s) (low_weight_up_to n)

gain_ends : (n l h : ℕ) → l ≤ h → chroma_numerator n l * chroma_denominator n h ≤ chroma_numerator n h * chroma_denominator n l
gain_ends n l h rise = let m = mul-le-mul_right (n * n) rise in omega arith

pub chroma_gain_up_to : (n k : ℕ) (c1 : Ends) → 0 < n → UpTo k c1 → UpTo (5 * n) (chroma_gain n c1)
unfolding chroma_gain
chroma_gain_up_to n k c1 some u =
    let l = unsigned_abs c1.lo in
    let h = unsigned_abs c1.hi in
    up_to_ends (chroma_numerator n l) (chroma_denominator n l) (chroma_numerator n h) (chroma_denominator n h) (5 * n) (omega arith) (omega arith)
    (gain_ends n l h (magnitudes_rise c1.lo c1.hi u.not_negative u.ordered)) (omega arith)

pub chroma_weight_up_to : (n k : ℕ) (c1 : Ends) → 0 < n → UpTo k c1 → UpTo (6 * n) (chroma_weight n c1)
unfolding chroma_weight
chroma_weight_up_to n k c1 some u =
    up_to_wider (n + 5 * n) (6 * n) _ (omega arith) (sum_up_to n (5 * n) (ratio_at n (pos 638) 1000) (chroma_gain n c1) (ratio_up_to n n (pos 638) 1000 (lit< tt) (le_pos 638) (omega arith)) (chroma_gain_up_to n k c1 some u))

-- ---- T and S_H

form_up_to : (n r s p num : ℕ) (k : Ends) → p * n ≤ r * 100 → n * num ≤ s * 10 → r + s ≤ n → UpTo n k → UpTo n (sum_of (ratio_at n (pos p) 100) (fraction_of num 10 k))
form_up_to n r s p num k first second all u =
    up_to_wider (r + s) n _ all (sum_up_to r s (ratio_at n (pos p) 100) (fraction_of num 10 k) (ratio_up_to n r (pos p) 100 (lit< tt) (le_pos p) first) (fraction_up_to n s num 10 k (lit< tt) second u))

pub first_form_up_to : (n : ℕ) (a b c1 : Ends) → 10 ^ 6 ≤ n → UpTo n (cosine_magnitude n (along_35 n a b) c1) → UpTo n (first_form n a b c1)
unfolding first_form
first_form_up_to n a b c1 large u = form_up_to n (n / 2) (n / 2) 36 4 (cosine_magnitude n (along_35 n a b) c1) (omega arith) (omega arith) (omega arith) u

pub second_form_up_to : (n : ℕ) (a b c1 : Ends) → 10 ^ 6 ≤ n → UpTo n (cosine_magnitude n (along_12 n a b) c1) → UpTo n (second_form n a b c1)
unfolding second_form
second_form_up_to n a b c1 large u = form_up_to n (3 * n / 4) (n / 4) 56 2 (cosine_magnitude n (along_12 n a b) c1) (omega arith) (omega arith) (omega arith) u

-- 1 minus an interval from 0 to 1 lies from 0 to 1
pub rest_up_to : (n : ℕ) (a : Ends) → UpTo n a → UpTo n (difference_of (one_at n) a)
unfolding difference_of one_at
rest_up_to n a u = let p = u.not_negative in let o = u.ordered in let b = u.below in record { not_negative = omega (arith, ints); ordered = omega (arith, ints); below = omega (arith, ints) }

pub hue_weight_up_to : (n : ℕ) (sc f t : Ends) → 0 < n → UpTo (6 * n) sc → UpTo n f → UpTo n t → UpTo (6 * n) (hue_weight n sc f t)
unfolding hue_weight
hue_weight_up_to n sc f t some u v w =
    let taken = product_up_to n n n n f (difference_of (one_at n) t) some (omega arith) v (rest_up_to n t w) in
    product_up_to n (6 * n) (6 * n) n sc _ some (omega arith) u (rest_up_to n (product_at n f (difference_of (one_at n) t)) taken)

-- ---- products of a coordinate with the cosine or the sine of an angle

pub part_magnitude : (n : ℕ) (a c : Ends) → 0 < n → MagnitudeUpTo (1000 * n) a → UpTo n c → MagnitudeUpTo (1000 * n) (product_at n a c)
part_magnitude n a c some s u = product_magnitude n (1000 * n) (1000 * n) n a c some (omega arith) s (magnitude_of_up_to n c u)

pub projection_magnitude : (n : ℕ) (a c b s : Ends) → 0 < n → MagnitudeUpTo (1000 * n) a → UpTo n c → MagnitudeUpTo (1000 * n) b → UpTo n s → MagnitudeUpTo (2000 * n) (sum_of (product_at n a c) (product_at n b s))
projection_magnitude n a c b s some p u q v =
    magnitude_wider (1000 * n + 1000 * n) (2000 * n) _ (omega arith) (sum_magnitude (1000 * n) (1000 * n) (product_at n a c) (product_at n b s) (part_magnitude n a c some p u) (part_magnitude n b s some q v))

pub projection_difference_magnitude : (n : ℕ) (a c b s : Ends) → 0 < n → MagnitudeUpTo (1000 * n) a → UpTo n c → MagnitudeUpTo (1000 * n) b → UpTo n s → MagnitudeUpTo (2000 * n) (difference_of (product_at n a c) (product_at n b s))
projection_difference_magnitude n a c b s some p u q v =
    magnitude_wider (1000 * n + 1000 * n) (2000 * n) _ (omega arith) (difference_magnitude (1000 * n) (1000 * n) (product_at n a c) (product_at n b s) (part_magnitude n a c some p u) (part_magnitude n b s some q v))
