-- What is printed is read back.
use Rattle.std.proofs.Common.{◌≡◌, ℕ, zero, suc, pos, negsuc, ◌/◌, ◌^◌, ◌≤◌, ◌<◌, List, [], ◌∷◌, ◌++◌, length, Bool, true, false, Ok, refl, ap, ◌∙◌, arith, div-le_self, decimal}
use Rattle.std.proofs.Math.Nat.{div-one}
use Rattle.std.proofs.lemmas.Bool.Decides.{nat_tests}
use Rattle.dec_text.specs.Decimal.{is_minus, sign_len, largest, signed, digits_from, body_value, decimal_of}
use Rattle.dec_text.specs.FixedPoint.{last_digits, behind_point, unsigned_text, fixed_text}
use Rattle.dec_text.specs.RoundTrip.{ReadsBack}
use Rattle.dec_text.proofs.Digits.{IsDigits, decimal_digits, decimal_number, last_digits_digits, length-last_digits, last_digits_number}
use Rattle.dec_text.proofs.Bodies.{with_point, without_point, parts_number, body_number}

-- a part of a number that can be read is small enough for the lemmas about digits
fits : (n q : ℕ) → n ≤ largest → n / q < 2 ^ 64
fits n q h = let d = div-le_self n q in omega arith

-- the text of a magnitude after an optional sign is read back
magnitude_reads : (decimals n sign : ℕ) (minus : Bool) → n ≤ largest → body_value decimals minus sign (unsigned_text decimals n) ≡ Ok (signed minus n)
unfolding unsigned_text behind_point
magnitude_reads zero n sign minus h =
    let whole = n / 10 ^ zero in
    let d = decimal_digits whole (fits n (10 ^ zero) h) in
    body_number zero n sign minus _ (decimal whole) [] (without_point (decimal whole) d.0 d.1) d.0 tt
    (parts_number zero n minus (decimal whole) [] refl (decimal_number whole (fits n (10 ^ zero) h) ∙ div-one n) h)
magnitude_reads (suc k) n sign minus h =
    let whole = n / 10 ^ suc k in
    let decimals = last_digits (suc k) n in
    let d = decimal_digits whole (fits n (10 ^ suc k) h) in
    body_number (suc k) n sign minus _ (decimal whole) decimals (with_point (decimal whole) decimals d.0 d.1) d.0 (last_digits_digits (suc k) n)
    (parts_number (suc k) n minus (decimal whole) decimals (length-last_digits (suc k) n)
    (ap (λ t. digits_from t decimals) (decimal_number whole (fits n (10 ^ suc k) h)) ∙ last_digits_number (suc k) n) h)

-- a text that begins with a digit has no sign
no_sign : (ds rest : List ℕ) → IsDigits ds → 0 < length ds → (sign_len (ds ++ rest) ≡ 0) × (is_minus (ds ++ rest) ≡ false)
no_sign [] rest h some = absurd (omega arith)
no_sign (c ∷ cs) rest h some = let d = h.0 in (grind (arith, nat_tests), grind (arith, nat_tests))

starts_with_digits : (decimals n : ℕ) → n ≤ largest → (sign_len (unsigned_text decimals n) ≡ 0) × (is_minus (unsigned_text decimals n) ≡ false)
unfolding unsigned_text
starts_with_digits decimals n h =
    let d = decimal_digits (n / 10 ^ decimals) (fits n (10 ^ decimals) h) in
    no_sign (decimal (n / 10 ^ decimals)) (behind_point decimals n) d.0 d.1

pub reads_back : ReadsBack
unfolding decimal_of fixed_text
reads_back decimals (pos n) h = let s = starts_with_digits decimals n h in rw (s.0, s.1) (magnitude_reads decimals n 0 false h)
reads_back decimals (negsuc n) h = magnitude_reads decimals (suc n) 1 true h
