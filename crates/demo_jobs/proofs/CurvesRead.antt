-- The curve file that is printed from a book of curves is read as that book.
use Rattle.std.proofs.Common.{◌≡◌, ◌+◌, ◌*◌, ◌^◌, ◌<◌, ◌≤◌, ◌==◌, nat_le, nat_lt, true, ℕ, zero, suc, pos, Ok, List, [], ◌∷◌, ◌++◌, codes, length, map, refl, sym, ap, ◌∙◌, append_assoc, eq-eqb, arith}
use Rattle.std.specs.Prelude.{slice_index}
use Rattle.std.specs.List.{range_with_len}
use Rattle.std.specs.Map.{keys_of}
use Rattle.std.proofs.Math.Nat.{div-le_self}
use Rattle.std.proofs.lemmas.Bool.{le-leb, lt-ltb}
use Rattle.std.proofs.lemmas.List.{append-nil, length-append, length-map}
use Rattle.std.proofs.lemmas.List.FromFn.{fill_by_all}
use Rattle.dec_text.specs.RoundTrip.{ReadsBack}
use Rattle.spectral_tables.specs.Curve.{IsReflectance}
use Rattle.spectral_tables.specs.CurveBook.{Book}
use Rattle.spectral_tables.specs.declared.grid.WaveGrid.TheVariants.{Ten}
use Rattle.spectral_tables.specs.Columns.{columns_of, names_of, next_number, next_row, number_of, row_of, rows_of}
use Rattle.spectral_tables.specs.CurveFile.{column_of, curve_rule, curve_table_of, curves_under}
use Rattle.spectral_tables.specs.Faults.{◌>>=◌, each}
use Rattle.spectral_tables.specs.Numbers.{is_wavelength}
use Rattle.demo_jobs.specs.Cloths.{indices}
use Rattle.demo_jobs.specs.CurveText.{curve_record, curve_records, curve_text, percentage}
use Rattle.demo_jobs.specs.Lines.{number_field, wavelength_field}
use Rattle.demo_jobs.proofs.ClothFacts.{IsTenCurve}
use Rattle.demo_jobs.proofs.PlainFields.{ArePlain, IsPlain, number_plain, trims_stay}
use Rattle.demo_jobs.proofs.RecordsRead.{AreRecords, records_read}

-- each curve of a book is one
abbrev pub AreCurves : Book → Type 0
AreCurves [] = Unit {0}
AreCurves (e ∷ book) = IsTenCurve e.1 × AreCurves book

-- the values of a wavelength
abbrev values : Book → ℕ → List ℕ
values book index = map (λ e. slice_index e.1 index) book

pub value_at : (curve : List ℕ) (index : ℕ) → IsTenCurve curve → index < 31 → IsReflectance (slice_index curve index)
value_at curve index kept lt = kept.range index 0 (omega (arith, lt, kept.count))

-- ---- the records are plain

field_plain : (m : ℕ) → m ≤ 1000000 → IsPlain (number_field 4 m)
field_plain m le = number_plain 4 m (omega (arith, div-le_self m (10 ^ 4)))

percentages_plain : (book : Book) (index : ℕ) → AreCurves book → index < 31 → ArePlain (map (percentage index) book)
percentages_plain [] index kept lt = tt
percentages_plain (e ∷ book) index kept lt = (field_plain (slice_index e.1 index) (value_at e.1 index kept.0 lt).1, percentages_plain book index kept.1 lt)

wavelength_plain : (index : ℕ) → index < 31 → IsPlain (wavelength_field index)
wavelength_plain index lt = number_plain 0 (400 + 10 * index) (omega (arith, div-le_self (400 + 10 * index) (10 ^ 0)))

record_plain : (book : Book) (index : ℕ) → AreCurves book → index < 31 → ArePlain (curve_record book index)
unfolding curve_record
record_plain book index kept lt = (wavelength_plain index lt, percentages_plain book index kept lt)

records_plain : (e : List ℕ × List ℕ) (book : Book) (k n : ℕ) → AreCurves (e ∷ book) → k + n ≤ 31 → AreRecords (map (curve_record (e ∷ book)) (range_with_len k n))
unfolding curve_record
records_plain e book k zero kept le = tt
records_plain e book k (suc n) kept le = (record_plain (e ∷ book) k kept (omega arith), records_plain e book (k + 1) n kept (omega arith))

module _ (read : ReadsBack) where
  -- ---- a record

  percentage_read : (row column m : ℕ) → IsReflectance m → number_of (curve_rule.range_of []) row column (number_field 4 m) ≡ Ok m
  unfolding number_of
  percentage_read row column m range =
      let low : nat_le 100 m ≡ true = le-leb 100 m range.0 in
      let high : nat_le m 1000000 ≡ true = le-leb m 1000000 range.1 in
      rw (read 4 (pos m) (omega (arith, range.1)), low, high) refl

  percentages_read : (names : List (List ℕ)) (row index : ℕ) (book : Book) (before : List ℕ) → AreCurves book → index < 31 → each (next_number curve_rule names row) before (map (percentage index) book) ≡ Ok (before ++ values book index)
  percentages_read names row index [] before kept lt = ap Ok (sym (append-nil before))
  percentages_read names row index (e ∷ book) before kept lt =
      let m = slice_index e.1 index in
      rw (percentage_read row (length before + 2) m (value_at e.1 index kept.0 lt))
      (percentages_read names row index book (before ++ m ∷ []) kept.1 lt ∙ ap Ok (append_assoc before (m ∷ []) (values book index)))

  wavelength_read : (index : ℕ) → index < 31 → is_wavelength (400 + 10 * index) (wavelength_field index) ≡ true
  unfolding is_wavelength
  wavelength_read index lt = rw (read 0 (pos (400 + 10 * index)) (omega arith)) (eq-eqb (400 + 10 * index) (400 + 10 * index) refl)

  record_read : (book : Book) (names : List (List ℕ)) (index : ℕ) → length names ≡ length book → AreCurves book → index < 31 → row_of curve_rule Ten names index (curve_record book index) ≡ Ok (values book index)
  unfolding row_of curve_record
  record_read book names index count kept lt =
      let index_fits : nat_lt index 31 ≡ true = lt-ltb index 31 lt in
      let as_many : (length (wavelength_field index ∷ map (percentage index) book) == length names + 1) ≡ true = eq-eqb _ (length names + 1) (omega (arith, count, length-map book (percentage index))) in
      rw (index_fits, as_many, wavelength_read index lt) (percentages_read names (index + 2) index book [] kept lt)

  rows_read : (book : Book) (names : List (List ℕ)) (k n : ℕ) (before : List (List ℕ)) → length names ≡ length book → AreCurves book → length before ≡ k → k + n ≤ 31
      → each (next_row curve_rule Ten names) before (map (curve_record book) (range_with_len k n)) ≡ Ok (before ++ map (values book) (range_with_len k n))
  rows_read book names k zero before count kept at le = ap Ok (sym (append-nil before))
  rows_read book names k (suc n) before count kept at le =
      let lt : k < 31 = omega arith in
      let this = values book k in
      let here : row_of curve_rule Ten names k (curve_record book k) ≡ Ok this = record_read book names k count kept lt in
      let there = rows_read book names (k + 1) n (before ++ this ∷ []) count kept (omega (arith, length-append before (this ∷ []))) (omega arith) in
      rw (trims_stay (curve_record book k) (record_plain book k kept lt), at, here) (there ∙ ap Ok (append_assoc before (this ∷ []) (map (values book) (range_with_len (k + 1) n))))

  all_rows : (book : Book) (names : List (List ℕ)) → length names ≡ length book → AreCurves book → rows_of curve_rule Ten names (map (curve_record book) indices) ≡ Ok (map (values book) indices)
  unfolding rows_of indices
  all_rows book names count kept =
      rw (rows_read book names 0 31 [] count kept refl (omega arith)) refl

  -- ---- the columns

  -- the value after those of other curves
  after_others : (before : Book) (e : List ℕ × List ℕ) (rest : Book) (index : ℕ) → slice_index (values (before ++ e ∷ rest) index) (length before) ≡ slice_index e.1 index
  after_others [] e rest index = refl
  after_others (b ∷ before) e rest index = after_others before e rest index

  column : (before : Book) (e : List ℕ × List ℕ) (rest : Book) (ps : List ℕ) → column_of (length before) (map (values (before ++ e ∷ rest)) ps) ≡ map (λ index. slice_index e.1 index) ps
  column before e rest [] = refl
  column before e rest (p ∷ ps) = λ i. after_others before e rest p i ∷ column before e rest ps i

  whole_curve : (curve : List ℕ) → IsTenCurve curve → map (λ index. slice_index curve index) indices ≡ curve
  unfolding indices
  whole_curve curve kept = sym (fill_by_all (λ index. slice_index curve index) curve 31 0 kept.count (λ k lt. refl))

  columns_are : (before rest : Book) → AreCurves rest → curves_under before (map (values (before ++ rest)) indices) (keys_of rest) ≡ before ++ rest
  columns_are before [] kept = sym (append-nil before)
  columns_are before (e ∷ rest) kept =
      let found : column_of (length before) (map (values (before ++ e ∷ rest)) indices) ≡ e.1 = column before e rest indices ∙ whole_curve e.1 kept.0 in
      let all : (before ++ e ∷ []) ++ rest ≡ before ++ e ∷ rest = append_assoc before (e ∷ []) rest in
      let there = columns_are (before ++ e ∷ []) rest kept.1 in
      ap (λ c. curves_under (before ++ (e.0, c) ∷ []) (map (values (before ++ e ∷ rest)) indices) (keys_of rest)) found
      ∙ ap (λ whole. curves_under (before ++ e ∷ []) (map (values whole) indices) (keys_of rest)) (sym all) ∙ there ∙ all

  -- ---- the file

  pub book_read : (e : List ℕ × List ℕ) (book : Book) → AreCurves (e ∷ book) → ArePlain (keys_of (e ∷ book)) → names_of curve_rule (codes "nm" ∷ keys_of (e ∷ book)) ≡ Ok (keys_of (e ∷ book))
      → curve_table_of Ten (curve_text (e ∷ book)) ≡ Ok (e ∷ book)
  unfolding curve_text curve_records curve_table_of columns_of indices
  book_read e book kept plain names =
      let whole = e ∷ book in
      let records = map (curve_record whole) (range_with_len 0 31) in
      let split = records_read e.0 (keys_of book) records plain (records_plain e book 0 31 kept (omega arith)) in
      let header = trims_stay (codes "nm" ∷ keys_of whole) (((refl, (refl, tt)), plain)) in
      let rows = all_rows whole (keys_of whole) (length-map whole (λ x. x.0)) kept in
      ap (λ table. columns_of curve_rule Ten table >>= (λ columns. Ok (curves_under [] columns.rows columns.names))) split ∙ rw (header, names, rows) (ap Ok (columns_are [] whole kept))
