-- A body of digits, a point and digits, or only of digits: its parts, and the number that it
-- writes.
use Rattle.std.proofs.Common.{◌≡◌, ℕ, suc, ◌+◌, ◌-◌, ◌*◌, ◌^◌, ◌<◌, ◌≤◌, List, [], ◌∷◌, ◌++◌, length, take, drop, Bool, true, false, cond, not, Option, Some, None, Result, Ok, nat_lt, refl, sym, ap, ◌∙◌, subst, arith, unwrap_or, ℤ, Err, if◌then◌else◌}
use Rattle.std.proofs.Math.Seq.{take-append_seam, take-length, drop-length}
use Rattle.std.proofs.Math.ListN.{drop_of_length-le}
use Rattle.std.proofs.lemmas.Bool.Decides.{nat_tests}
use Rattle.std.proofs.lemmas.List.Sums.{prefix_len-le-length}
use Rattle.std.specs.Prelude.{◌==◌}
use Rattle.std.proofs.lemmas.List.{append-nil}
use Rattle.std.specs.Option.{option_or}
use Rattle.dec_text.specs.declared.fault.DecFault.{DecFault}
use Rattle.dec_text.specs.declared.fault.DecFault.TheVariants.{Empty, TooManyPlaces, TooLarge}
use Rattle.std.specs.List.{list_any, position_or_len}
use Rattle.dec_text.specs.Decimal.{is_digit, digits_from, is_blank, point_of, whole_of, fraction_of, stray_from, unless_stray, has_more, largest, signed, magnitude_of, number_of, body_value}
use Rattle.dec_text.proofs.Digits.{IsDigits}

not_point : (c : ℕ) → is_digit c ≡ true → (c == 46) ≡ false
not_point c h = grind (arith, nat_tests)

-- the position of a point
unwrapped : (b : Bool) (k n : ℕ) → (b ≡ false → k ≡ n) → unwrap_or (cond b (Some k) None) n ≡ k
unwrapped true k n h = refl
unwrapped false k n h = sym (h refl)

at_most : (k n : ℕ) → k ≤ n → nat_lt k n ≡ false → k ≡ n
at_most k n h f = grind (arith, nat_tests)

point_is : (body : List ℕ) → point_of body ≡ position_or_len (λ b. b == 46) body
point_is body = unwrapped (nat_lt (position_or_len (λ b. b == 46) body) (length body)) _ _ (at_most _ _ (prefix_len-le-length (λ b. not (b == 46)) body))

point_after : (ds rest : List ℕ) → IsDigits ds → position_or_len (λ b. b == 46) (ds ++ 46 ∷ rest) ≡ length ds
point_after [] rest h = refl
point_after (c ∷ cs) rest h = let e = point_after cs rest h.1 in rw (not_point c h.0) (omega arith)

no_point : (ds : List ℕ) → IsDigits ds → position_or_len (λ b. b == 46) ds ≡ length ds
no_point [] h = refl
no_point (c ∷ cs) h = let e = no_point cs h.1 in rw (not_point c h.0) (omega arith)

drop_point : (ds rest : List ℕ) → drop (length ds + 1) (ds ++ 46 ∷ rest) ≡ rest
drop_point [] rest = refl
drop_point (c ∷ cs) rest = let e : suc (length cs) + 1 ≡ suc (length cs + 1) = omega arith in rw e (drop_point cs rest)

-- the parts of a body
pub record Parts (body ds rest : List ℕ) : Type 0 where
  pub blank : is_blank body ≡ false
  pub whole : whole_of body ≡ ds
  pub fraction : fraction_of body ≡ rest

not_blank : (ds rest : List ℕ) → IsDigits ds → 0 < length ds → is_blank (ds ++ rest) ≡ false
not_blank [] rest h some = absurd (omega arith)
not_blank (c ∷ []) [] h some = not_point c h.0
not_blank (c ∷ []) (r ∷ rest) h some = refl
not_blank (c ∷ (d ∷ ds)) rest h some = refl

pub with_point : (ds rest : List ℕ) → IsDigits ds → 0 < length ds → Parts (ds ++ 46 ∷ rest) ds rest
with_point ds rest h some =
    let p = point_is (ds ++ 46 ∷ rest) ∙ point_after ds rest h in
    record {
      blank = not_blank ds (46 ∷ rest) h some;
      whole = ap (λ k. take k (ds ++ 46 ∷ rest)) p ∙ take-append_seam ds (46 ∷ rest);
      fraction = ap (λ k. drop (k + 1) (ds ++ 46 ∷ rest)) p ∙ drop_point ds rest;
    }

pub without_point : (ds : List ℕ) → IsDigits ds → 0 < length ds → Parts (ds ++ []) ds []
without_point ds h some =
    let p = point_is ds ∙ no_point ds h in
    let alone : Parts ds ds [] = record {
      blank = subst (λ b. is_blank b ≡ false) (append-nil ds) (not_blank ds [] h some);
      whole = ap (λ k. take k ds) p ∙ take-length ds;
      fraction = ap (λ k. drop (k + 1) ds) p ∙ drop_of_length-le ds (omega arith);
    } in
    subst (λ b. Parts b ds []) (sym (append-nil ds)) alone

-- digits have no stray byte among them
all_pass : (ds : List ℕ) → IsDigits ds → position_or_len (λ b. not (is_digit b)) ds ≡ length ds
all_pass [] h = refl
all_pass (c ∷ cs) h = let e = all_pass cs h.1 in rw h.0 (omega arith)

not_less : (k n : ℕ) → k ≡ n → nat_lt k n ≡ false
not_less k n e = grind (arith, nat_tests)

pub no_stray : (start : ℕ) (ds : List ℕ) → IsDigits ds → stray_from start ds ≡ None
no_stray start ds h = rw (not_less (position_or_len (λ b. not (is_digit b)) ds) (length ds) (all_pass ds h)) refl

-- a choice whose last case applies
all_well : (b c : Bool) (s n : ℕ) (minus : Bool) → b ≡ false → c ≡ false → s ≡ n → (if b then Err TooManyPlaces else (if c then Err TooLarge else Ok (signed minus s))) ≡ Ok (signed minus n)
all_well b c s n minus e f g = rw (e, f, g) refl

none_astray : (b : Bool) (o : Option ℕ) (x y : Result ℤ DecFault) → b ≡ false → o ≡ None → x ≡ y → (if b then Err Empty else unless_stray o x) ≡ y
none_astray b o x y e f g = rw (e, f) g

below_largest : (n : ℕ) → n ≤ largest → nat_lt largest n ≡ false
below_largest n h = grind (arith, nat_tests)

-- the number that the parts write
pub parts_number : (decimals n : ℕ) (minus : Bool) (ds rest : List ℕ) → length rest ≡ decimals → digits_from (digits_from 0 ds) rest ≡ n → n ≤ largest → number_of decimals minus ds rest ≡ Ok (signed minus n)
unfolding number_of magnitude_of
parts_number decimals n minus ds rest l v small =
    let written = ap (λ k. take k rest) (sym l) ∙ take-length rest in
    let left = ap (λ k. drop k rest) (sym l) ∙ drop-length rest in
    let none : decimals - length rest ≡ 0 = omega arith in
    let one : digits_from (digits_from 0 ds) rest * 1 ≡ digits_from (digits_from 0 ds) rest = omega arith in
    let magnitude = (λ i. digits_from (digits_from 0 ds) (written i) * 10 ^ none i) ∙ one ∙ v in
    all_well (has_more decimals rest) (nat_lt largest (magnitude_of decimals ds rest)) (magnitude_of decimals ds rest) n minus
    (ap (list_any (λ d. not (d == 48))) left) (ap (nat_lt largest) magnitude ∙ below_largest n small) magnitude

pub body_number : (decimals n sign : ℕ) (minus : Bool) (body ds rest : List ℕ) → Parts body ds rest → IsDigits ds → IsDigits rest → number_of decimals minus ds rest ≡ Ok (signed minus n) → body_value decimals minus sign body ≡ Ok (signed minus n)
unfolding body_value
body_number decimals n sign minus body ds rest p d r v =
    let before = ap (stray_from sign) p.whole ∙ no_stray sign ds d in
    let after = ap (stray_from (sign + point_of body + 1)) p.fraction ∙ no_stray (sign + point_of body + 1) rest r in
    none_astray (is_blank body) (option_or (stray_from sign (whole_of body)) (stray_from (sign + point_of body + 1) (fraction_of body))) (number_of decimals minus (whole_of body) (fraction_of body)) (Ok (signed minus n))
    p.blank (λ i. option_or (before i) (after i)) ((λ i. number_of decimals minus (p.whole i) (p.fraction i)) ∙ v)
