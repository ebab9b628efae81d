-- The ranges of the values of CIE94: their greatest magnitudes, and the least values of the
-- divisors.
use Rattle.std.proofs.Common.{ℕ, pos, Bool, true, false, ◌≡◌, refl, sym, ◌+◌, ◌*◌, ◌^◌, ◌≤◌, ◌<◌, ◌≤ℤ◌, unsigned_abs, arith, lit<, mul-le-mul, mul-le-mul_left}
use Rattle.std.proofs.lemmas.Bool.{false≢true}
use Rattle.std.proofs.lemmas.Int.{ints}
use Rattle.interval_specs.specs.Ends.{Ends, IsOrdered, one_at}
use Rattle.interval_specs.specs.Ranges.{AtLeast, MagnitudeUpTo, UpTo}
use Rattle.interval_specs.specs.Operations.{fraction_of, quotient_at, square_at}
use Rattle.interval_specs.proofs.Ranges.{fraction_magnitude, fraction_not_negative, fraction_up_to, low_magnitude_at_least, magnitude_of_up_to, one_up_to, positive, quotient_magnitude, quotient_up_to, square_at_least, square_up_to, sum_begins, sum_up_to, up_to_wider}
use Rattle.delta_specs.specs.Cie94.{lightness_term, weight_at}

-- ---- S_C and S_H

one_at_least : (n : ℕ) → AtLeast 1 1 n (one_at n)
unfolding one_at
one_at_least n = record { low = omega (arith, ints) }

-- they are at least 1
pub weight_at_least : (n k : ℕ) (c1 : Ends) → pos 0 ≤ℤ c1.lo → AtLeast 1 1 n (weight_at n k c1)
unfolding weight_at
weight_at_least n k c1 z = sum_begins 1 1 n (one_at n) (fraction_of k 1000 c1) (fraction_not_negative k 1000 c1 (lit< tt) z) (one_at_least n)

-- the part that grows with the chroma
pub gain_up_to : (n k : ℕ) (c1 : Ends) → k ≤ 48 → UpTo (1415 * n) c1 → UpTo (69 * n) (fraction_of k 1000 c1)
gain_up_to n k c1 few u = let m = mul-le-mul_left (1415 * n) few in fraction_up_to (1415 * n) (69 * n) k 1000 c1 (lit< tt) (omega arith) u

pub weight_up_to : (n k : ℕ) (c1 : Ends) → k ≤ 48 → UpTo (1415 * n) c1 → UpTo (70 * n) (weight_at n k c1)
unfolding weight_at
weight_up_to n k c1 few u = up_to_wider (n + 69 * n) (70 * n) _ (omega arith) (sum_up_to n (69 * n) (one_at n) (fraction_of k 1000 c1) (one_up_to n) (gain_up_to n k c1 few u))

square_room : (n i : ℕ) → 10 ^ 6 ≤ n → n ≤ i → (1 * n + 2) * n ≤ 2 * (i * i)
square_room n i large p =
    let a = mul-le-mul p p in
    let b = mul-le-mul_left n large in
    omega arith

-- the square of one is at least 1/2
pub weight_square_at_least : (n : ℕ) (s : Ends) → 10 ^ 6 ≤ n → IsOrdered s → AtLeast 1 1 n s → AtLeast 1 2 n (square_at n s)
weight_square_at_least n s large o low =
    let p : 0 < 1 * n = omega arith in
    let l = low_magnitude_at_least 1 1 n s p low in
    square_at_least 1 2 n s (omega arith) (positive 1 1 n s p low) o (square_room n (unsigned_abs s.lo) large (omega arith))

pub weight_square_up_to : (n : ℕ) (s : Ends) → 10 ^ 6 ≤ n → UpTo (70 * n) s → UpTo (4900 * n) (square_at n s)
weight_square_up_to n s large u = square_up_to n (4900 * n) (70 * n) s (omega arith) (omega arith) (magnitude_of_up_to (70 * n) s u).small

-- ---- the terms

pub half_of : (halved : Bool) (dl r : Ends) → halved ≡ true → r ≡ fraction_of 1 2 dl → r ≡ lightness_term halved dl
unfolding lightness_term
half_of true dl r e h = h
half_of false dl r e h = absurd (false≢true e)

pub whole_of : (halved : Bool) (dl : Ends) → halved ≡ false → dl ≡ lightness_term halved dl
unfolding lightness_term
whole_of false dl e = refl
whole_of true dl e = absurd (false≢true (sym e))

pub lightness_term_magnitude : (n : ℕ) (halved : Bool) (dl : Ends) → MagnitudeUpTo (2000 * n) dl → MagnitudeUpTo (2000 * n) (lightness_term halved dl)
unfolding lightness_term
lightness_term_magnitude n true dl s = fraction_magnitude (2000 * n) (2000 * n) 1 2 dl (lit< tt) (omega arith) s
lightness_term_magnitude n false dl s = s

pub chroma_term_magnitude : (n : ℕ) (dc sc : Ends) → 10 ^ 6 ≤ n → MagnitudeUpTo (1415 * n) dc → IsOrdered sc → AtLeast 1 1 n sc → MagnitudeUpTo (1415 * n) (quotient_at n dc sc)
chroma_term_magnitude n dc sc large s o low =
    let p : 0 < 1 * n = omega arith in
    let l = low_magnitude_at_least 1 1 n sc p low in
    let wide = mul-le-mul_left (1415 * n) l in
    quotient_magnitude n (1415 * n) (1415 * n) (unsigned_abs sc.lo) dc sc (positive 1 1 n sc p low) o (omega arith) (omega arith) s

pub hue_term_up_to : (n : ℕ) (dh by : Ends) → 10 ^ 6 ≤ n → UpTo (8 * 10 ^ 6 * n) dh → IsOrdered by → AtLeast 1 2 n by → UpTo (170 * 10 ^ 6 * n) (quotient_at n dh by)
hue_term_up_to n dh by large u o low =
    let p : 0 < 1 * n = omega arith in
    let l = low_magnitude_at_least 1 2 n by p low in
    let wide = mul-le-mul_left (8 * 10 ^ 6 * n) l in
    quotient_up_to n (170 * 10 ^ 6 * n) (8 * 10 ^ 6 * n) (unsigned_abs by.lo) dh by (positive 1 2 n by p low) o (omega arith) (omega arith) u
