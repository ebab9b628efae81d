-- The CMC(l:c) colour difference of ISO 105-J03, at every scale n. The standard and the sample are
-- each given by L, a and b as intervals. Index 1 is the standard. The definitions fix the order in
-- which each formula is evaluated.
use Rattle.std.specs.Prelude.{ℕ, ◌+◌, ◌*◌, ◌^◌, pos, Bool, ◌&&◌, ◌||◌, ◌==◌, int_le, int_lt, if◌then◌else◌, unsigned_abs}
use Rattle.interval_specs.specs.Ends.{Ends, one_at}
use Rattle.interval_specs.specs.Rounding.{floor_over, ceil_over}
use Rattle.interval_specs.specs.Operations.{absolute_of, cut_high_at, cut_low_at, difference_of, fraction_of, hull_of, product_at, quotient_at, ratio_at, square_at, sum_of}
use Rattle.interval_specs.specs.Roots.{sqrt_at}
use Rattle.cielab_bounds.specs.Cielab.{LabEnds}
use Rattle.lab_parts.specs.Parts.{chroma_at, chroma_difference, chroma_square, hue_difference_square, length_at, lightness_difference}

-- ---- constants

-- the interval, at scale n, of a number that lies from low / 10^12 to (low + 1) / 10^12
unfoldable pub bracket : ℕ → ℕ → Ends
bracket n low = record { lo = floor_over (pos (low * n)) (10 ^ 12); hi = ceil_over (pos ((low + 1) * n)) (10 ^ 12) }

abbrev pub cos35 : ℕ → Ends
cos35 n = bracket n 819152044288

abbrev pub sin35 : ℕ → Ends
sin35 n = bracket n 573576436351

abbrev pub cos12 : ℕ → Ends
cos12 n = bracket n 978147600733

abbrev pub sin12 : ℕ → Ends
sin12 n = bracket n 207911690817

abbrev pub cos15 : ℕ → Ends
cos15 n = bracket n 965925826289

abbrev pub sin15 : ℕ → Ends
sin15 n = bracket n 258819045102

abbrev pub cos16 : ℕ → Ends
cos16 n = bracket n 961261695938

abbrev pub sin16 : ℕ → Ends
sin16 n = bracket n 275637355816

-- ---- S_L

-- 0.040975 t / (1 + 0.01765 t) for an end t that is not below 0, as a quotient of whole numbers
abbrev pub lightness_numerator : ℕ → ℕ → ℕ
lightness_numerator n t = 40975 * t * n

abbrev pub lightness_denominator : ℕ → ℕ → ℕ
lightness_denominator n t = 10 ^ 6 * n + 17650 * t

-- S_L from L1 = 16 on: that quotient at both ends of L1, each raised to 16 where it lies below
unfoldable pub high_weight : ℕ → Ends → Ends
high_weight n l1 = raised (cut_low_at n (pos 16) l1)
  where
    raised : Ends → Ends
    raised t =
        record {
          lo = floor_over (pos (lightness_numerator n (unsigned_abs t.lo))) (lightness_denominator n (unsigned_abs t.lo));
          hi = ceil_over (pos (lightness_numerator n (unsigned_abs t.hi))) (lightness_denominator n (unsigned_abs t.hi));
        }

-- S_L below L1 = 16: 0.511
abbrev pub low_weight : ℕ → Ends
low_weight n = ratio_at n (pos 511) 1000

abbrev pub is_light : ℕ → Ends → Bool
is_light n l1 = int_le (pos (16 * n)) l1.lo

abbrev pub is_dark : ℕ → Ends → Bool
is_dark n l1 = int_lt l1.hi (pos (16 * n))

-- S_L; where L1 has ends on both sides of 16, it is the hull of both forms
unfoldable pub lightness_weight : ℕ → Ends → Ends
lightness_weight n l1 =
    if is_light n l1 then high_weight n l1
    else (if is_dark n l1 then low_weight n
    else hull_of (high_weight n l1) (low_weight n))

-- ---- S_C

-- 0.0638 t / (1 + 0.0131 t) for an end t of the chroma
abbrev pub chroma_numerator : ℕ → ℕ → ℕ
chroma_numerator n t = 638 * t * n

abbrev pub chroma_denominator : ℕ → ℕ → ℕ
chroma_denominator n t = 10 ^ 4 * n + 131 * t

unfoldable pub chroma_gain : ℕ → Ends → Ends
chroma_gain n c1 =
    record {
      lo = floor_over (pos (chroma_numerator n (unsigned_abs c1.lo))) (chroma_denominator n (unsigned_abs c1.lo));
      hi = ceil_over (pos (chroma_numerator n (unsigned_abs c1.hi))) (chroma_denominator n (unsigned_abs c1.hi));
    }

-- S_C = 0.638 + 0.0638 C1 / (1 + 0.0131 C1)
unfoldable pub chroma_weight : ℕ → Ends → Ends
chroma_weight n c1 = sum_of (ratio_at n (pos 638) 1000) (chroma_gain n c1)

-- ---- F

-- x / (x + 1900) of an interval x that is not below 0, end by end
unfoldable pub fourth_power_share : ℕ → Ends → Ends
fourth_power_share n x =
    record {
      lo = floor_over (pos (unsigned_abs x.lo * n)) (unsigned_abs x.lo + 1900 * n);
      hi = ceil_over (pos (unsigned_abs x.hi * n)) (unsigned_abs x.hi + 1900 * n);
    }

-- F, the square root of C1^4 / (C1^4 + 1900), from C1^2
unfoldable pub hue_share : ℕ → Ends → Ends
hue_share n p1 = sqrt_at n (fourth_power_share n (square_at n p1))

-- ---- T

-- C1 cos(h1 + 35 degrees) = a cos 35 - b sin 35
unfoldable pub along_35 : ℕ → Ends → Ends → Ends
along_35 n a b = difference_of (product_at n a (cos35 n)) (product_at n b (sin35 n))

-- -C1 cos(h1 + 168 degrees) = a cos 12 + b sin 12
unfoldable pub along_12 : ℕ → Ends → Ends → Ends
along_12 n a b = sum_of (product_at n a (cos12 n)) (product_at n b (sin12 n))

-- the magnitude of a cosine, from w, its product with the chroma: the interval from 0 to 1 where
-- the chroma may be 0
unfoldable pub cosine_magnitude : ℕ → Ends → Ends → Ends
cosine_magnitude n w c1 =
    if unsigned_abs c1.lo == 0 then record { lo = pos 0; hi = pos n }
    else cut_high_at n (pos 1) (quotient_at n (absolute_of w) c1)

-- 0.36 + |0.4 cos(h1 + 35)|, for hues outside 164 to 345 degrees
unfoldable pub first_form : ℕ → Ends → Ends → Ends → Ends
first_form n a b c1 = sum_of (ratio_at n (pos 36) 100) (fraction_of 4 10 (cosine_magnitude n (along_35 n a b) c1))

-- 0.56 + |0.2 cos(h1 + 168)|, for hues from 164 to 345 degrees
unfoldable pub second_form : ℕ → Ends → Ends → Ends → Ends
second_form n a b c1 = sum_of (ratio_at n (pos 56) 100) (fraction_of 2 10 (cosine_magnitude n (along_12 n a b) c1))

-- the two sums that are both above 0 exactly where the hue lies outside 164 to 345 degrees
unfoldable pub hue_sum_15 : ℕ → Ends → Ends → Ends
hue_sum_15 n a b = sum_of (product_at n a (sin15 n)) (product_at n b (cos15 n))

unfoldable pub hue_sum_16 : ℕ → Ends → Ends → Ends
hue_sum_16 n a b = sum_of (product_at n a (sin16 n)) (product_at n b (cos16 n))

abbrev pub is_outside : Ends → Ends → Bool
is_outside p r = int_lt (pos 0) p.lo && int_lt (pos 0) r.lo

abbrev pub is_inside : Ends → Ends → Bool
is_inside p r = int_le p.hi (pos 0) || int_le r.hi (pos 0)

-- T; where it is uncertain whether the hue lies outside 164 to 345 degrees, it is the hull of both
-- forms
unfoldable pub hue_factor : ℕ → Ends → Ends → Ends → Ends
hue_factor n a b c1 =
    if is_outside (hue_sum_15 n a b) (hue_sum_16 n a b) then first_form n a b c1
    else (if is_inside (hue_sum_15 n a b) (hue_sum_16 n a b) then second_form n a b c1
    else hull_of (first_form n a b c1) (second_form n a b c1))

-- ---- S_H

-- S_H = S_C (F T + 1 - F), as S_C (1 - F (1 - T))
unfoldable pub hue_weight : ℕ → Ends → Ends → Ends → Ends
hue_weight n sc f t = product_at n sc (difference_of (one_at n) (product_at n f (difference_of (one_at n) t)))

-- ---- the standard

-- the values of a standard that the difference needs
pub record StandardEnds : Type 0 where
  pub l1 : Ends
  pub a1 : Ends
  pub b1 : Ends
  pub c1 : Ends
  pub sl : Ends
  pub sc : Ends
  pub sh : Ends

unfoldable pub standard_at : ℕ → LabEnds → StandardEnds
standard_at n p =
    record {
      l1 = p.l;
      a1 = p.a;
      b1 = p.b;
      c1 = chroma_at n p.a p.b;
      sl = lightness_weight n p.l;
      sc = chroma_weight n (chroma_at n p.a p.b);
      sh = hue_weight n (chroma_weight n (chroma_at n p.a p.b)) (hue_share n (chroma_square n p.a p.b)) (hue_factor n p.a p.b (chroma_at n p.a p.b));
    }

-- ---- the difference

-- dL / (l S_L), where l10 is the weight l in tenths
unfoldable pub lightness_term : ℕ → ℕ → StandardEnds → LabEnds → Ends
lightness_term n l10 s q = quotient_at n (lightness_difference s.l1 q) (fraction_of l10 10 s.sl)

-- dC / (c S_C), where c10 is the weight c in tenths
unfoldable pub chroma_term : ℕ → ℕ → StandardEnds → LabEnds → Ends
chroma_term n c10 s q = quotient_at n (chroma_difference n s.c1 q) (fraction_of c10 10 s.sc)

-- dH^2 over S_H^2
unfoldable pub hue_term : ℕ → StandardEnds → LabEnds → Ends
hue_term n s q = quotient_at n (hue_difference_square n s.a1 s.b1 (chroma_difference n s.c1 q) q) (square_at n s.sh)

-- dE of a sample q, from the values of the standard
unfoldable pub kept_difference : ℕ → (l10 c10 : ℕ) → StandardEnds → LabEnds → Ends
kept_difference n l10 c10 s q = length_at n (lightness_term n l10 s q) (chroma_term n c10 s q) (hue_term n s q)

-- dE of a standard p and a sample q
abbrev pub cmc_at : (l10 c10 : ℕ) → ℕ → LabEnds → LabEnds → Ends
cmc_at l10 c10 n p q = kept_difference n l10 c10 (standard_at n p) q
