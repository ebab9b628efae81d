-- The records that are read in turn are the records of the text, and none has more fields than the
-- text has bytes, plus one.
use Rattle.std.proofs.Common.{◌≡◌, ◌+◌, ◌≤◌, ◌<◌, ◌||◌, ◌==◌, ℕ, zero, suc, Bool, true, false, if◌then◌else◌, List, [], ◌∷◌, ◌++◌, length, get_or, take, Option, Some, None, map, refl, sym, ap, subst, ◌∙◌, arith}
use Rattle.std.proofs.lemmas.List.{length-append, take_all}
use Rattle.std.proofs.lemmas.Bool.{true≢false}
use Rattle.csv.specs.Machine.{Read, next_record, step, in_field, start_field, start_record, is_end, ends_at_end, fields_after, field_after}
use Rattle.csv.specs.Reading.{ExplainsRead, Reached, default_config, is_bom, records, records_from, strip_bom}
use Rattle.csv.specs.declared.error.ErrorKind.{ErrorKind}
use Rattle.csv.specs.declared.error.ErrorKind.TheVariants.{Deserialize, Io, OutOfMemory, Serialize, UnequalLengths, Utf8}
use Rattle.csv.specs.declared.reader.Reader.{Reader}
use Rattle.csv.specs.Records.{field_at}
use Rattle.csv.specs.declared.parser.Action.{Action}
use Rattle.csv.specs.declared.parser.Action.TheVariants as act
use Rattle.csv.specs.declared.parser.State.{State}
use Rattle.csv.specs.declared.parser.State.TheVariants as st
use Rattle.spectral_tables.specs.Records.{CanRefuseBytes}

-- the state between two records
abbrev IsBetween : State → Type 0
IsBetween s = ends_at_end s ≡ false

-- a step that ends a record leads to the state between two
abbrev Ends : State × Action → Type 0
Ends x = is_end x.1 ≡ true → IsBetween x.0

either : (b : Bool) (x y : State × Action) → Ends x → Ends y → Ends (if b then x else y)
either true x y hx hy = hx
either false x y hx hy = hy

after_end_between : (b : Bool) → IsBetween (if b then st.AfterCr else st.StartRecord)
after_end_between true = refl
after_end_between false = refl

goes_on : (s : State) (a : Action) → is_end a ≡ false → Ends (s, a)
goes_on s a is e = absurd (true≢false (sym e ∙ is))

in_field_ends : (c : ℕ) → Ends (in_field default_config c)
in_field_ends c =
    either (c == 44) _ _ (goes_on st.StartField act.EndField refl)
    (either ((c == 13) || (c == 10)) _ _ (λ _. after_end_between (c == 13)) (goes_on st.InField act.Copy refl))

start_field_ends : (c : ℕ) → Ends (start_field default_config c)
start_field_ends c = either (c == 34) _ _ (goes_on st.InQuoted act.Skip refl) (in_field_ends c)

start_record_ends : (c : ℕ) → Ends (start_record default_config c)
start_record_ends c = either ((c == 13) || (c == 10)) _ _ (goes_on st.StartRecord act.Skip refl) (start_field_ends c)

step_ends : (s : State) (c : ℕ) → Ends (step default_config s c)
step_ends st.StartRecord c = start_record_ends c
step_ends st.StartField c = start_field_ends c
step_ends st.InField c = in_field_ends c
step_ends st.InQuoted c = either (c == 34) _ _ (goes_on st.AfterQuote act.Skip refl) (goes_on st.InQuoted act.Copy refl)
step_ends st.InEscape c = goes_on st.InQuoted act.Copy refl
step_ends st.AfterQuote c = either (c == 34) _ _ (goes_on st.InQuoted act.Copy refl) (in_field_ends c)
step_ends st.InComment c = either (c == 10) _ _ (goes_on st.StartRecord act.Skip refl) (goes_on st.InComment act.Skip refl)
step_ends st.AfterCr c = either (c == 10) _ _ (goes_on st.StartRecord act.Skip refl) (start_record_ends c)

-- after a record is read: the state is between two records, and its fields and the bytes left are
-- bounded
record Leaves (s : State) (before : List (List ℕ)) (xs : List ℕ) (p : Read) : Type 0 where
  fields : length p.0 + length p.2 ≤ length before + length xs + 1
  between : IsBetween p.1
  no_longer : length p.2 ≤ length xs
  shorter : IsBetween s → length p.2 < length xs

length-fields_after : (a : Action) (fields : List (List ℕ)) (field : List ℕ) → length (fields_after a fields field) ≤ length fields + 1
length-fields_after act.EndField fields field = omega (arith, length-append fields (field ∷ []))
length-fields_after act.Skip fields field = omega arith
length-fields_after act.Copy fields field = omega arith
length-fields_after act.EndRecord fields field = omega (arith, length-append fields (field ∷ []))

read_leaves : (xs : List ℕ) (s : State) (fields : List (List ℕ)) (field : List ℕ) (p : Read) → next_record default_config s fields field xs ≡ Some p → Leaves s fields xs p
unfolding next_record
read_leaves [] s fields field p e = at_end (ends_at_end s) refl e
  where
    at_end : (b : Bool) → ends_at_end s ≡ b → (if b then Some (fields ++ (field ∷ []), st.StartRecord, []) else None) ≡ Some p → Leaves s fields [] p
    at_end true is e =
        let made : Read = (fields ++ (field ∷ []), st.StartRecord, []) in
        let same : made ≡ p = cc in
        subst (Leaves s fields []) same (record { fields = omega (arith, length-append fields (field ∷ [])); between = refl; no_longer = omega arith; shorter = λ between. absurd (true≢false (sym is ∙ between)) })
    at_end false is e = absurd cc
read_leaves (c ∷ rest) s fields field p e =
    by (is_end (step default_config s c).1) refl (read_leaves rest (step default_config s c).0 (fields_after (step default_config s c).1 fields field) (field_after (step default_config s c).1 c field) p) e
  where
    by : (b : Bool) → is_end (step default_config s c).1 ≡ b
        → (next_record default_config (step default_config s c).0 (fields_after (step default_config s c).1 fields field) (field_after (step default_config s c).1 c field) rest ≡ Some p
        → Leaves (step default_config s c).0 (fields_after (step default_config s c).1 fields field) rest p)
        → (if b then Some (fields_after (step default_config s c).1 fields field, (step default_config s c).0, rest)
        else next_record default_config (step default_config s c).0 (fields_after (step default_config s c).1 fields field) (field_after (step default_config s c).1 c field) rest) ≡ Some p
        → Leaves s fields (c ∷ rest) p
    by true is rest_leaves e =
        let made : Read = (fields_after (step default_config s c).1 fields field, (step default_config s c).0, rest) in
        let same : made ≡ p = cc in
        subst (Leaves s fields (c ∷ rest)) same (record { fields = omega (arith, length-fields_after (step default_config s c).1 fields field); between = step_ends s c is; no_longer = omega arith; shorter = λ _. omega arith })
    by false is rest_leaves e =
        let left = rest_leaves e in
        record { fields = omega (arith, left.fields, length-fields_after (step default_config s c).1 fields field); between = left.between; no_longer = omega (arith, left.no_longer); shorter = λ _. omega (arith, left.no_longer) }

-- records that were read in turn, to a text's end, are the records from there
records_are : (n : ℕ) (s : State) (xs : List ℕ) (rows : List (List (List ℕ))) (s2 : State) (ys : List ℕ) → length xs < n → IsBetween s
    → Reached default_config s xs rows s2 ys → next_record default_config s2 [] [] ys ≡ None → records_from default_config n s xs ≡ rows
unfolding Reached records_from
records_are zero s xs rows s2 ys lt between h none = absurd (omega arith)
records_are (suc n) s xs [] s2 ys lt between h none = rw (h.0, h.1, none) refl
records_are (suc n) s xs (r ∷ rows) s2 ys lt between h none =
    let left = read_leaves xs s [] [] h.0 h.1 in
    let rest = records_are n h.0.1 h.0.2 rows s2 ys (omega (arith, left.shorter between)) left.between h.3 none in
    rw (h.1, h.2, rest) refl

pub records-all : (xs : List ℕ) (rows : List (List (List ℕ))) (s2 : State) (ys : List ℕ) → Reached default_config st.StartRecord xs rows s2 ys → next_record default_config s2 [] [] ys ≡ None
    → records default_config xs ≡ rows
records-all xs rows s2 ys h none = records_are (length xs + 1) st.StartRecord xs rows s2 ys (omega arith) refl h none

-- no record has more fields than the text has bytes, plus one
pub fields_fit : (rows : List (List (List ℕ))) (s : State) (xs : List ℕ) (s2 : State) (ys : List ℕ) → Reached default_config s xs rows s2 ys
    → (k : ℕ) → k < length rows → length (get_or rows k []) ≤ length xs + 1
unfolding Reached
fields_fit [] s xs s2 ys h k lt = absurd (omega arith)
fields_fit (r ∷ rows) s xs s2 ys h zero lt = let left = read_leaves xs s [] [] h.0 h.1 in rw h.2 (omega (arith, left.fields))
fields_fit (r ∷ rows) s xs s2 ys h (suc k) lt =
    let left = read_leaves xs s [] [] h.0 h.1 in
    omega (arith, left.no_longer, fields_fit rows h.0.1 h.0.2 s2 ys h.3 k (omega arith))

-- removing a byte order mark adds no bytes
pub length-strip_bom-le : (bytes : List ℕ) → length (strip_bom bytes) ≤ length bytes
unfolding strip_bom
length-strip_bom-le [] = omega arith
length-strip_bom-le (a ∷ []) = omega arith
length-strip_bom-le (a ∷ b ∷ []) = omega arith
length-strip_bom-le (a ∷ b ∷ c ∷ rest) = by (is_bom a b c)
  where
    by : (mark : Bool) → length (if mark then rest else a ∷ b ∷ c ∷ rest) ≤ length (a ∷ b ∷ c ∷ rest)
    by true = omega arith
    by false = omega arith

-- one more field
pub fields-more : {Y : Type 0} (f : List ℕ → Y) (fields : List (List ℕ)) (i : ℕ) (field : List ℕ) → Some field ≡ field_at fields i → map f (take (suc i) fields) ≡ map f (take i fields) ++ f field ∷ []
unfolding field_at
fields-more {Y = Y} f [] i field e = absurd cc
fields-more {Y = Y} f (x ∷ xs) zero field e = let same : field ≡ x = cc in rw same refl
fields-more {Y = Y} f (x ∷ xs) (suc i) field e = ap (λ (ys : List Y). f x ∷ ys) (fields-more f xs i field e)

pub fields-end : (fields : List (List ℕ)) (i : ℕ) → None ≡ field_at fields i → take i fields ≡ fields
unfolding field_at
fields-end [] i e = take_all i [] (omega arith)
fields-end (x ∷ xs) zero e = absurd cc
fields-end (x ∷ xs) (suc i) e = ap (λ (ys : List (List ℕ)). x ∷ ys) (fields-end xs i e)

-- the errors that a flexible reader over bytes may return
pub can_refuse : {R : Type 0} (rem : R → Option (List ℕ)) (old new : Reader R) (why : ErrorKind) → old.flexible ≡ true → ExplainsRead rem old new false why → CanRefuseBytes why
can_refuse rem old new OutOfMemory flexible h = tt
can_refuse rem old new (Io e) flexible h = tt
can_refuse rem old new (UnequalLengths pos expected len) flexible h = true≢false (sym flexible ∙ h.0)
can_refuse rem old new (Utf8 pos err) flexible h = true≢false (sym h.0)
can_refuse rem old new (Serialize text) flexible h = h
can_refuse rem old new (Deserialize pos err) flexible h = h
