-- The bound of a number of a few digits.
use Rattle.std.proofs.Common.{◌≡◌, ℕ, suc, ◌+◌, ◌-◌, ◌*◌, ◌^◌, ◌<◌, ◌≤◌, min, Bool, true, false, ◌&&◌, nat_le, if◌then◌else◌, List, [], ◌∷◌, length, Some, None, arith, refl, ap, sym, decimal}
use Rattle.std.proofs.Math.Nat.{pow-suc, pow-le-pow_right, mul-le-mul_right}
use Rattle.std.proofs.lemmas.Bool.Decides.{nat_tests}
use Rattle.std.proofs.lemmas.Fmt.{length-decimal-le}
use Rattle.std.specs.Prelude.{◌==◌}
use Rattle.std.specs.List.{list_all}
use Rattle.dec_text.specs.Decimal.{is_digit, digits_from, largest}
use Rattle.dec_text.specs.Whole.{whole_number}
use Rattle.dec_text.specs.RoundTrip.{WholeReadsBack}
use Rattle.dec_text.proofs.Digits.{IsDigits, decimal_digits, decimal_number}

digit_small : (d : ℕ) → is_digit d ≡ true → d - 48 ≤ 9
digit_small d h = grind (arith, nat_tests)

first_holds : (a b : Bool) → (a && b) ≡ true → a ≡ true
first_holds true b e = refl
first_holds false b e = e

rest_holds : (a b : Bool) → (a && b) ≡ true → b ≡ true
rest_holds true b e = e
rest_holds false true e = refl
rest_holds false false e = e

digits_below : (n : ℕ) (ds : List ℕ) → list_all is_digit ds ≡ true → digits_from n ds < (n + 1) * 10 ^ length ds
digits_below n [] h = omega arith
digits_below n (d ∷ ds) h =
    let small = digit_small d (first_holds (is_digit d) (list_all is_digit ds) h) in
    let rest = digits_below (10 * n + (d - 48)) ds (rest_holds (is_digit d) (list_all is_digit ds) h) in
    let most : 10 * n + (d - 48) + 1 ≤ 10 * (n + 1) = omega (arith, small) in
    let wider : (10 * n + (d - 48) + 1) * 10 ^ length ds ≤ 10 * (n + 1) * 10 ^ length ds = mul-le-mul_right (10 ^ length ds) most in
    let power : 10 ^ suc (length ds) ≡ 10 ^ length ds * 10 = pow-suc 10 (length ds) in
    rw power (omega (arith, rest, wider))

-- the value is the number of the text, and lies below 10^most and below 10^9
pub record IsExact (value most : ℕ) (text : List ℕ) : Type 0 where
  pub is : value ≡ digits_from 0 text
  pub small : value < 10 ^ most
  pub below : value < 10 ^ 9

-- a number that was counted up to a cap is exact where it has few enough digits to lie below the
-- cap
pub exact : (value most : ℕ) (text : List ℕ) → most ≤ 9 → length text ≤ most → list_all is_digit text ≡ true → value ≡ min (largest + 1) (digits_from 0 text) → IsExact value most text
exact value most text few short digits is =
    let below = digits_below 0 text digits in
    let grows : 10 ^ length text ≤ 10 ^ most = pow-le-pow_right {n = 10} (omega arith) {i = length text} {j = most} short in
    let nine : 10 ^ most ≤ 10 ^ 9 = pow-le-pow_right {n = 10} (omega arith) {i = most} {j = 9} few in
    record { is = omega (arith, below, grows, nine, is); small = omega (arith, below, grows, nine, is); below = omega (arith, below, grows, nine, is) }

-- the exact value of a text of 1 to `most` digits is what `whole_number` gives
pub chosen : (value most : ℕ) (text : List ℕ) → IsExact value most text → 1 ≤ length text → length text ≤ most → list_all is_digit text ≡ true → Some value ≡ whole_number most text
unfolding whole_number
chosen value most text h some short digits = by (nat_le 1 (length text)) (nat_le (length text) most) (list_all is_digit text) (grind (arith, nat_tests)) (grind (arith, nat_tests)) digits
  where
    by : (a b c : Bool) → a ≡ true → b ≡ true → c ≡ true → Some value ≡ (if a && b && c then Some (digits_from 0 text) else None)
    by a b c p q r = rw (p, q, r) (ap Some h.is)

pub not_empty : (count : ℕ) → (count == 0) ≡ false → 1 ≤ count
not_empty count h = grind (arith, nat_tests)

all_digits : (ds : List ℕ) → IsDigits ds → list_all is_digit ds ≡ true
all_digits [] h = refl
all_digits (d ∷ ds) h = rw (h.0, all_digits ds h.1) refl

pub whole_reads_back : WholeReadsBack
whole_reads_back most n some few small =
    let nine : 10 ^ most ≤ 10 ^ 9 = pow-le-pow_right {n = 10} (omega arith) {i = most} {j = 9} few in
    let fits : n < 2 ^ 64 = omega (arith, small, nine) in
    let digits = decimal_digits n fits in
    let is : IsExact n most (decimal n) = record { is = sym (decimal_number n fits); small = small; below = omega (arith, small, nine) } in
    sym (chosen n most (decimal n) is digits.1 (length-decimal-le most n some small fits) (all_digits (decimal n) digits.0))
