-- Lists of digits.
use Rattle.std.proofs.Common.{◌≡◌, ℕ, zero, suc, ◌+◌, ◌-◌, ◌*◌, ◌/◌, ◌%◌, ◌^◌, ◌<◌, List, [], ◌∷◌, length, true, refl, sym, ap, ◌∙◌, arith, lit<, mod-lt, div-add-mod', decimal, rules}
use Rattle.std.proofs.Math.Nat.{div-div-eq-div-mul, div-one, pow-suc}
use Rattle.std.proofs.lemmas.Bool.Decides.{nat_tests}
use Rattle.std.proofs.lemmas.Fmt.{decimal_is_IsNumeral, digits_value-decimal}
use Rattle.std.proofs.lemmas.Str.Parse.{IsNumeralModel, numerals_by_fold, digit_from_value}
use Rattle.std.specs.Int.{IsInRange}
use Rattle.std.specs.Str.{all_ascii_digits}
use Rattle.std.specs.Str.Parse.{AllDigits}
use Rattle.dec_text.specs.Decimal.{is_digit, digits_from}
use Rattle.dec_text.specs.FixedPoint.{last_digits}

abbrev pub IsDigits : List ℕ → Type 0
IsDigits [] = Unit {0}
IsDigits (c ∷ cs) = (is_digit c ≡ true) × IsDigits cs

in_range : (c : ℕ) → IsInRange 48 57 c → is_digit c ≡ true
in_range c r = let low = r.0 in let high = r.1 in grind (arith, nat_tests)

from_std : (ds : List ℕ) → AllDigits 10 ds → IsDigits ds
from_std [] h = tt
from_std (c ∷ cs) h = (in_range c (digit_from_value c h.0), from_std cs h.1)

pub decimal_digits : (n : ℕ) → n < 2 ^ 64 → IsDigits (decimal n) × (0 < length (decimal n))
decimal_digits n h = let m = (decimal_is_IsNumeral n h).0 in (from_std (decimal n) m.1, m.0)

own : IsNumeralModel (λ ds. all_ascii_digits ds ≡ true) (digits_from 0)
own = numerals_by_fold _ (search rules) digits_from (search rules)

pub decimal_number : (n : ℕ) → n < 2 ^ 64 → digits_from 0 (decimal n) ≡ n
decimal_number n h = digits_value-decimal own n h

pub last_digits_digits : (k n : ℕ) → IsDigits (last_digits k n)
unfolding last_digits
last_digits_digits zero n = tt
last_digits_digits (suc k) n = let d = mod-lt (n / 10 ^ k) (lit< {m = 0} {n = 10} tt) in (in_range (48 + n / 10 ^ k % 10) (omega arith, omega arith), last_digits_digits k n)

pub length-last_digits : (k n : ℕ) → length (last_digits k n) ≡ k
unfolding last_digits
length-last_digits zero n = refl
length-last_digits (suc k) n = ap suc (length-last_digits k n)

-- the last digits after the others write the whole number
pub last_digits_number : (k n : ℕ) → digits_from (n / 10 ^ k) (last_digits k n) ≡ n
unfolding last_digits
last_digits_number zero n = div-one n
last_digits_number (suc k) n =
    let q = n / 10 ^ k in
    let e : n / 10 ^ suc k ≡ q / 10 = ap (λ t. n / t) (pow-suc 10 k) ∙ sym (div-div-eq-div-mul n (10 ^ k) 10) in
    let s = div-add-mod' q 10 in
    let f : 10 * (n / 10 ^ suc k) + (48 + q % 10 - 48) ≡ q = omega arith in
    ap (λ t. digits_from t (last_digits k n)) f ∙ last_digits_number k n
