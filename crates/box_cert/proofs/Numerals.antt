-- A number has one spelling.
use Rattle.std.proofs.Common.{◌≡◌, ◌==◌, ◌&&◌, ℕ, zero, suc, ◌<◌, ◌≤◌, ◌^◌, Bool, true, false, not, nat_le, List, [], ◌∷◌, length, get_or, refl, sym, ap, ◌∙◌, arith, rules, decimal, if◌then◌else◌}
use Rattle.std.specs.Prelude.{Some, None, unwrap_or}
use Rattle.std.specs.List.{list_all}
use Rattle.std.proofs.lemmas.Bool.{false≢true}
use Rattle.std.proofs.lemmas.Bool.Decides.{nat_tests}
use Rattle.std.proofs.lemmas.Fmt.{decimal_digit, decimal_nonempty, decimal-digits_value, digits_decimal, digits_value-decimal, first_decimal}
use Rattle.std.proofs.lemmas.Str.Parse.{IsNumeralModel, numerals_by_fold}
use Rattle.dec_text.specs.Decimal.{digits_from, is_digit}
use Rattle.std.proofs.lemmas.Option.{none-some}
use Rattle.box_cert.specs.Lines.{is_mark}
use Rattle.box_cert.specs.Numbers.{in_range, is_numeral, is_plain, number_of}

pub both : (a b : Bool) → a ≡ true → b ≡ true → (a && b) ≡ true
both a b p q = rw (p, q) refl

own : IsNumeralModel (λ ds. list_all is_digit ds ≡ true) (digits_from 0)
own = numerals_by_fold _ (search rules) digits_from (search rules)

plain : (ds : List ℕ) → 0 < length ds → (get_or ds 0 0 ≡ 48 → length ds ≡ 1) → is_plain ds ≡ true
plain [] h k = absurd (omega arith)
plain (d ∷ []) h k = refl
plain (d ∷ (e ∷ ds)) h k = go (d == 48) refl where
  go : (q : Bool) → (d == 48) ≡ q → not q ≡ true
  go true e = let is : d ≡ 48 = grind (arith, nat_tests) in let l = k is in absurd (omega arith)
  go false e = refl

is_one : (n : ℕ) → n < 2 ^ 64 → get_or (decimal n) 0 0 ≡ 48 → length (decimal n) ≡ 1
is_one zero h e = ap length (decimal_digit 0 (omega arith))
is_one (suc n) h e = let l = first_decimal (suc n) (omega arith) h in absurd (omega (arith, l, e))

numeral : (n : ℕ) → n < 2 ^ 64 → is_numeral (decimal n) ≡ true
numeral n h = both (is_plain (decimal n)) _ (plain (decimal n) (decimal_nonempty n h) (is_one n h)) (digits_decimal own n h)

-- the digits of a number are read as that number
pub number_again : (least most n : ℕ) → least ≤ n → n ≤ most → n < 2 ^ 64 → number_of least most (decimal n) ≡ Some n
unfolding number_of
number_again least most n low high h =
    ap (λ b. if b then in_range least most (digits_from 0 (decimal n)) else None) (numeral n h)
    ∙ ap (in_range least most) (digits_value-decimal own n h)
    ∙ within (nat_le least n) (nat_le n most) (grind (arith, nat_tests)) (grind (arith, nat_tests))
  where
    within : (a b : Bool) → a ≡ true → b ≡ true → (if a && b then Some n else None) ≡ Some n
    within a b p q = rw (p, q) refl

pub first_holds : (a b : Bool) → (a && b) ≡ true → a ≡ true
first_holds true b e = refl
first_holds false b e = e

pub rest_holds : (a b : Bool) → (a && b) ≡ true → b ≡ true
rest_holds true b e = e
rest_holds false true e = refl
rest_holds false false e = e

longer : (ds : List ℕ) → is_plain ds ≡ true → 0 < length ds
longer [] h = absurd (false≢true h)
longer (d ∷ ds) h = omega arith

alone : (ds : List ℕ) → is_plain ds ≡ true → get_or ds 0 0 ≡ 48 → length ds ≡ 1
alone [] h e = absurd (false≢true h)
alone (d ∷ []) h e = refl
alone (d ∷ (x ∷ ds)) h e = absurd (false≢true (sym (ap (λ k. not (k == 48)) e) ∙ h))

-- a word that is read as a number of a range is the digits of that number
pub record IsSpelled (least most : ℕ) (word : List ℕ) (n : ℕ) : Type 0 where
  pub is : word ≡ decimal n
  pub low : least ≤ n
  pub high : n ≤ most

pub number_takes : (least most : ℕ) (word : List ℕ) (n : ℕ) → most < 2 ^ 64 → number_of least most word ≡ Some n → IsSpelled least most word n
unfolding number_of
number_takes least most word n fits h = go (is_numeral word) refl h where
  ranged : (a b : Bool) → nat_le least (digits_from 0 word) ≡ a → nat_le (digits_from 0 word) most ≡ b → is_numeral word ≡ true
      → (if a && b then Some (digits_from 0 word) else None) ≡ Some n → IsSpelled least most word n
  ranged true true low high is e =
      let v = digits_from 0 word in
      let same : v ≡ n = ap (λ o. unwrap_or o n) e in
      let l : least ≤ v = grind (arith, nat_tests) in
      let m : v ≤ most = grind (arith, nat_tests) in
      let p = first_holds (is_plain word) (list_all is_digit word) is in
      let d = rest_holds (is_plain word) (list_all is_digit word) is in
      record { is = sym (decimal-digits_value own word d (longer word p) (alone word p) (omega (arith, m, fits))) ∙ ap decimal same; low = omega (arith, l, same); high = omega (arith, m, same) }
  ranged true false low high is e = absurd (none-some n e)
  ranged false b low high is e = absurd (none-some n e)

  go : (q : Bool) → is_numeral word ≡ q → (if q then in_range least most (digits_from 0 word) else None) ≡ Some n → IsSpelled least most word n
  go true is e = ranged (nat_le least (digits_from 0 word)) (nat_le (digits_from 0 word) most) refl refl is e
  go false is e = absurd (none-some n e)

-- no byte is the mark
abbrev pub has_no : ℕ → List ℕ → Bool
has_no mark text = list_all (λ b. not (is_mark mark b)) text

digit_free : (mark d : ℕ) → mark < 48 → is_digit d ≡ true → not (is_mark mark d) ≡ true
digit_free mark d l h = go (is_mark mark d) refl where
  go : (q : Bool) → is_mark mark d ≡ q → not q ≡ true
  go true e = let is : d ≡ mark = grind (arith, nat_tests) in let low : 48 ≤ d = grind (arith, nat_tests) in absurd (omega arith)
  go false e = refl

pub digits_free : (mark : ℕ) (ds : List ℕ) → mark < 48 → list_all is_digit ds ≡ true → has_no mark ds ≡ true
digits_free mark [] l h = refl
digits_free mark (d ∷ ds) l h =
    let a = digit_free mark d l (first_holds (is_digit d) (list_all is_digit ds) h) in
    let b = digits_free mark ds l (rest_holds (is_digit d) (list_all is_digit ds) h) in
    rw (a, b) refl

pub decimal_free : (mark n : ℕ) → mark < 48 → n < 2 ^ 64 → has_no mark (decimal n) ≡ true
decimal_free mark n l h = digits_free mark (decimal n) l (digits_decimal own n h)
