-- The records that `csv` reads of a table's text are those that it was made of.
use Rattle.std.proofs.Common.{◌≡◌, ◌+◌, ◌≤◌, ℕ, zero, suc, Some, List, [], ◌∷◌, ◌++◌, codes, length, refl, sym, ap, ◌∙◌, append_assoc, arith}
use Rattle.std.specs.List.{flat_map}
use Rattle.std.proofs.lemmas.List.{length-append}
use Rattle.csv.specs.Machine.{next_record}
use Rattle.csv.specs.Reading.{default_config, records_from, strip_bom}
use Rattle.csv.specs.Writing.{default_writer, field_text, fields_text, is_blank, row_text}
use Rattle.csv.specs.declared.parser.State.TheVariants as st
use Rattle.csv.proofs.RoundTrip.{read-write-many}
use Rattle.spectral_tables.specs.Records.{records_of}
use Rattle.demo_jobs.specs.Lines.{after_commas, line, table_text}
use Rattle.demo_jobs.proofs.PlainFields.{ArePlain, IsPlain, unquoted}

-- a record of two or more plain fields
abbrev pub IsRecord : List (List ℕ) → Type 0
IsRecord [] = ⊥
IsRecord (x ∷ []) = ⊥
IsRecord (x ∷ (y ∷ ys)) = ArePlain (x ∷ y ∷ ys)

abbrev pub AreRecords : List (List (List ℕ)) → Type 0
AreRecords [] = Unit {0}
AreRecords (record' ∷ records) = IsRecord record' × AreRecords records

field_is : (field : List ℕ) → IsPlain field → field_text default_writer field ≡ field
field_is field h = rw (unquoted field h) refl

fields_are : (fields : List (List ℕ)) → ArePlain fields → fields_text default_writer fields ≡ after_commas fields
unfolding fields_text after_commas
fields_are [] h = refl
fields_are (f ∷ fs) h = λ i. 44 ∷ (field_is f h.0 i ++ fields_are fs h.1 i)

-- a line is the text that `csv` would write
line_is : (x y : List ℕ) (ys : List (List ℕ)) → ArePlain (x ∷ y ∷ ys) → row_text default_writer (x ∷ y ∷ ys) ≡ line (x ∷ y ∷ ys)
unfolding is_blank line
line_is x y ys h =
    (λ i. (field_is x h.0 i ++ fields_are (y ∷ ys) h.1 i) ++ 10 ∷ []) ∙ append_assoc x (after_commas (y ∷ ys)) (10 ∷ [])

next_is : (fields : List (List ℕ)) (tail : List ℕ) → IsRecord fields → next_record default_config st.StartRecord [] [] (line fields ++ tail) ≡ Some (fields, st.StartRecord, tail)
next_is [] tail h = absurd h
next_is (x ∷ []) tail h = absurd h
next_is (x ∷ (y ∷ ys)) tail h = rw (sym (line_is x y ys h)) (read-write-many x y ys tail)

records_are : (n : ℕ) (records : List (List (List ℕ))) → length records ≤ n → AreRecords records → records_from default_config n st.StartRecord (flat_map line records) ≡ records
unfolding records_from next_record
records_are zero [] le h = refl
records_are (suc n) [] le h = refl
records_are zero (r ∷ rs) le h = absurd (omega arith)
records_are (suc n) (r ∷ rs) le h = rw (next_is r (flat_map line rs) h.0) (ap (λ (t : List (List (List ℕ))). r ∷ t) (records_are n rs (omega arith) h.1))

-- a line has a byte at least
line_long : (fields : List (List ℕ)) → 1 ≤ length (line fields)
unfolding line
line_long [] = omega arith
line_long (f ∷ fs) = omega (arith, length-append f (after_commas fs ++ 10 ∷ []), length-append (after_commas fs) (10 ∷ []))

text_long : (records : List (List (List ℕ))) → length records ≤ length (flat_map line records)
text_long [] = omega arith
text_long (r ∷ rs) = omega (arith, length-append (line r) (flat_map line rs), line_long r, text_long rs)

-- the records of a table that begins with `nm`
pub records_read : (y : List ℕ) (ys : List (List ℕ)) (records : List (List (List ℕ))) → ArePlain (y ∷ ys) → AreRecords records
    → records_of (table_text ((codes "nm" ∷ y ∷ ys) ∷ records)) ≡ (codes "nm" ∷ y ∷ ys) ∷ records
unfolding records_of table_text strip_bom line after_commas
records_read y ys records hy h =
    let all = (codes "nm" ∷ y ∷ ys) ∷ records in
    records_are (length (flat_map line all) + 1) all (omega (arith, text_long all)) (((refl, (refl, tt)), hy), h)
