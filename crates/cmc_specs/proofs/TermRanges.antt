-- The greatest values of the three terms of the difference.
use Rattle.std.proofs.Common.{ℕ, ◌*◌, ◌≤◌, ◌<◌, ◌^◌, unsigned_abs, arith, lit<, mul-le-mul_left}
use Rattle.interval_specs.specs.Ends.{Ends}
use Rattle.interval_specs.specs.Ranges.{MagnitudeUpTo, UpTo, AtLeast}
use Rattle.interval_specs.specs.Operations.{fraction_of, quotient_at, square_at}
use Rattle.interval_specs.proofs.Ranges.{magnitude_of_up_to, fraction_up_to, square_up_to, quotient_magnitude, quotient_up_to, positive, low_magnitude_at_least}
use Rattle.cmc_specs.proofs.LeastValues.{lightness_divisor_at_least, chroma_divisor_at_least, hue_weight_square_at_least}

-- an interval times a weight that is given in tenths
pub tenths_up_to : (k n w : ℕ) (a : Ends) → w ≤ 100 → UpTo (k * n) a → UpTo (k * 10 * n) (fraction_of w 10 a)
tenths_up_to k n w a few u = let m = mul-le-mul_left (k * n) few in fraction_up_to (k * n) (k * 10 * n) w 10 a (lit< tt) (omega arith) u

-- dL / (l S_L) is at most 40,000 in magnitude
pub lightness_term_magnitude : (n l10 : ℕ) (d sl : Ends) → 10 ^ 6 ≤ n → 0 < l10 → l10 ≤ 100 → MagnitudeUpTo (2000 * n) d → UpTo (3 * n) sl → AtLeast 51 100 n sl → MagnitudeUpTo (40000 * n) (quotient_at n d (fraction_of l10 10 sl))
lightness_term_magnitude n l10 d sl large some few s u low =
    let by = fraction_of l10 10 sl in
    let b = lightness_divisor_at_least n l10 sl large some low in
    let p : 0 < 509 * n = omega arith in
    let c = low_magnitude_at_least 509 10000 n by p b in
    let m : n ≤ 20 * unsigned_abs by.lo = omega arith in
    let wide = mul-le-mul_left (2000 * n) m in
    quotient_magnitude n (40000 * n) (2000 * n) (unsigned_abs by.lo) d by (positive 509 10000 n by p b) (tenths_up_to 3 n l10 sl few u).ordered (omega arith) (omega arith) s

-- dC / (c S_C) is at most 23,000 in magnitude
pub chroma_term_magnitude : (n c10 : ℕ) (d sc : Ends) → 10 ^ 6 ≤ n → 0 < c10 → c10 ≤ 100 → MagnitudeUpTo (1415 * n) d → UpTo (6 * n) sc → AtLeast 637 1000 n sc → MagnitudeUpTo (23000 * n) (quotient_at n d (fraction_of c10 10 sc))
chroma_term_magnitude n c10 d sc large some few s u low =
    let by = fraction_of c10 10 sc in
    let b = chroma_divisor_at_least n c10 sc large some low in
    let p : 0 < 636 * n = omega arith in
    let c = low_magnitude_at_least 636 10000 n by p b in
    let m : n ≤ 16 * unsigned_abs by.lo = omega arith in
    let wide = mul-le-mul_left (1415 * n) m in
    quotient_magnitude n (23000 * n) (1415 * n) (unsigned_abs by.lo) d by (positive 636 10000 n by p b) (tenths_up_to 6 n c10 sc few u).ordered (omega arith) (omega arith) s

-- dH^2 / S_H^2 lies from 0 to 170 * 10^6
pub hue_term_up_to : (n : ℕ) (d sh : Ends) → 10 ^ 6 ≤ n → UpTo (8 * 10 ^ 6 * n) d → UpTo (6 * n) sh → AtLeast 22 100 n sh → UpTo (170 * 10 ^ 6 * n) (quotient_at n d (square_at n sh))
hue_term_up_to n d sh large u v low =
    let by = square_at n sh in
    let b = hue_weight_square_at_least n sh large v.ordered low in
    let p : 0 < 48 * n = omega arith in
    let c = low_magnitude_at_least 48 1000 n by p b in
    let wide = mul-le-mul_left (10 ^ 6 * n) c in
    quotient_up_to n (170 * 10 ^ 6 * n) (8 * 10 ^ 6 * n) (unsigned_abs by.lo) d by (positive 48 1000 n by p b) (weight_square n sh large v).ordered (omega arith) (omega arith) u
  where
    weight_square : (n : ℕ) (sh : Ends) → 10 ^ 6 ≤ n → UpTo (6 * n) sh → UpTo (36 * n) (square_at n sh)
    weight_square n sh large v = square_up_to n (36 * n) (6 * n) sh (omega arith) (omega arith) (magnitude_of_up_to (6 * n) sh v).small
