-- Fields that are written in a table unchanged: without a comma, a quote, a line's end or a blank.
use Rattle.std.proofs.Common.{◌≡◌, ◌+◌, ◌/◌, ◌%◌, ◌^◌, ◌<◌, ◌&&◌, not, Bool, true, false, ℕ, zero, suc, List, [], ◌∷◌, ◌++◌, decimal, reverse, refl, sym, subst, arith, mod-lt, lit<}
use Rattle.std.specs.List.{list_all, list_any}
use Rattle.std.proofs.lemmas.Bool.{and_parts}
use Rattle.std.proofs.lemmas.Bool.Decides.{nat_tests}
use Rattle.std.proofs.lemmas.Fmt.{decimal_by_steps}
use Rattle.std.proofs.lemmas.List.{reverse-append, reverse-reverse}
use Rattle.csv.specs.Writing.{default_writer, needs_byte}
use Rattle.dec_text.specs.FixedPoint.{behind_point, fixed_text, last_digits, unsigned_text}
use Rattle.spectral_tables.specs.Records.{trimmed_fields}
use Rattle.spectral_tables.specs.Trim.{is_blank, trim_end, trim_start, trimmed}
use Rattle.demo_jobs.specs.Lines.{number_field}

abbrev pub is_plain : ℕ → Bool
is_plain b = not (needs_byte default_writer b) && not (is_blank b)

abbrev pub IsPlain : List ℕ → Type 0
IsPlain [] = Unit {0}
IsPlain (b ∷ bs) = (is_plain b ≡ true) × IsPlain bs

abbrev pub ArePlain : List (List ℕ) → Type 0
ArePlain [] = Unit {0}
ArePlain (field ∷ fields) = IsPlain field × ArePlain fields

pub plain-append : (xs ys : List ℕ) → IsPlain xs → IsPlain ys → IsPlain (xs ++ ys)
plain-append [] ys hx hy = hy
plain-append (x ∷ xs) ys hx hy = (hx.0, plain-append xs ys hx.1 hy)

-- from a Boolean test
pub plain_by : (field : List ℕ) → list_all is_plain field ≡ true → IsPlain field
plain_by [] h = tt
plain_by (b ∷ bs) h = let (here, there) = and_parts (is_plain b) (list_all is_plain bs) h in (here, plain_by bs there)

pub all_plain_by : (fields : List (List ℕ)) → list_all (list_all is_plain) fields ≡ true → ArePlain fields
all_plain_by [] h = tt
all_plain_by (f ∷ fs) h = let (here, there) = and_parts (list_all is_plain f) (list_all (list_all is_plain) fs) h in (plain_by f here, all_plain_by fs there)

-- ---- numbers

digit_plain : (d : ℕ) → d < 10 → is_plain (48 + d) ≡ true
digit_plain d lt = grind (arith, nat_tests)

decimal_plain : (n : ℕ) → n < 2 ^ 64 → IsPlain (decimal n)
decimal_plain n lt =
    decimal_by_steps (λ n ds. IsPlain ds) (λ n lt. (digit_plain n lt, tt))
    (λ n ds ge so_far. plain-append ds ((48 + n % 10) ∷ []) so_far (digit_plain (n % 10) (mod-lt n (lit< {m = 0} {n = 10} tt)), tt)) n lt

last_plain : (k n : ℕ) → IsPlain (last_digits k n)
unfolding last_digits
last_plain zero n = tt
last_plain (suc k) n = (digit_plain (n / 10 ^ k % 10) (mod-lt (n / 10 ^ k) (lit< {m = 0} {n = 10} tt)), last_plain k n)

after_plain : (k n : ℕ) → IsPlain (behind_point k n)
unfolding behind_point
after_plain zero n = tt
after_plain (suc k) n = (refl, last_plain (suc k) n)

pub number_plain : (decimals n : ℕ) → n / 10 ^ decimals < 2 ^ 64 → IsPlain (number_field decimals n)
unfolding fixed_text unsigned_text
number_plain decimals n lt = plain-append (decimal (n / 10 ^ decimals)) (behind_point decimals n) (decimal_plain (n / 10 ^ decimals) lt) (after_plain decimals n)

-- ---- no blanks are trimmed

not_true : (b : Bool) → not b ≡ true → b ≡ false
not_true true h = absurd cc
not_true false h = refl

start_stays : (field : List ℕ) → IsPlain field → trim_start field ≡ field
unfolding trim_start
start_stays [] h = refl
start_stays (b ∷ bs) h = let (marks, blanks) = and_parts (not (needs_byte default_writer b)) (not (is_blank b)) h.0 in rw (not_true (is_blank b) blanks) refl

reverse_plain : (field : List ℕ) → IsPlain field → IsPlain (reverse field)
reverse_plain [] h = tt
reverse_plain (b ∷ bs) h = subst IsPlain (sym (reverse-append (b ∷ []) bs)) (plain-append (reverse bs) (b ∷ []) (reverse_plain bs h.1) (h.0, tt))

pub trim_stays : (field : List ℕ) → IsPlain field → trimmed field ≡ field
unfolding trim_end
trim_stays field h =
    rw (start_stays field h, start_stays (reverse field) (reverse_plain field h)) (reverse-reverse field)

pub trims_stay : (fields : List (List ℕ)) → ArePlain fields → trimmed_fields fields ≡ fields
trims_stay [] h = refl
trims_stay (f ∷ fs) h = λ i. trim_stays f h.0 i ∷ trims_stay fs h.1 i

-- ---- no field is quoted

pub unquoted : (field : List ℕ) → IsPlain field → list_any (needs_byte default_writer) field ≡ false
unquoted [] h = refl
unquoted (b ∷ bs) h = let (marks, blanks) = and_parts (not (needs_byte default_writer b)) (not (is_blank b)) h.0 in rw (not_true (needs_byte default_writer b) marks) (unquoted bs h.1)
