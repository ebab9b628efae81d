-- The texts of the curve file and of the weights files have at most 1,000,000 bytes.
use Rattle.std.proofs.Common.{◌≡◌, ◌+◌, ◌*◌, ◌/◌, ◌^◌, ◌<◌, ◌≤◌, ℕ, zero, suc, List, [], ◌∷◌, ◌++◌, codes, decimal, length, map, refl, ap, arith}
use Rattle.std.specs.Fmt.{digits}
use Rattle.std.specs.List.{flat_map, range_with_len}
use Rattle.std.specs.Map.{keys_of}
use Rattle.std.specs.Prelude.{slice_index}
use Rattle.std.proofs.lemmas.Fmt.{length-decimal-le}
use Rattle.std.proofs.lemmas.List.{length-append}
use Rattle.dec_text.specs.FixedPoint.{behind_point, fixed_text, last_digits, unsigned_text}
use Rattle.spectral_tables.specs.CurveBook.{Book}
use Rattle.demo_jobs.specs.declared.weights.Light.{Light}
use Rattle.demo_jobs.specs.declared.weights.Light.TheVariants.{First, Second}
use Rattle.demo_jobs.specs.Cloths.{indices}
use Rattle.demo_jobs.specs.CurveText.{curve_record, curve_records, curve_text, dye_book, dye_name, dyeing_name, job_book, percentage}
use Rattle.demo_jobs.specs.Dyes.{drawn_dyes}
use Rattle.demo_jobs.specs.Lines.{after_commas, line, number_field, table_text, wavelength_field}
use Rattle.demo_jobs.specs.WeightsText.{weights_at, weights_records, weights_text, white_of}
use Rattle.demo_jobs.proofs.CurvesRead.{AreCurves, value_at}
use Rattle.demo_jobs.proofs.JobBookRead.{job_curves}

-- ---- the weights

pub weights_short : (light : Light) → length (weights_text light) ≤ 1000000
unfolding weights_text weights_records weights_at white_of indices table_text line after_commas fixed_text unsigned_text behind_point last_digits digits
weights_short First = omega arith
weights_short Second = omega arith

-- ---- the curves

length-last : (k n : ℕ) → length (last_digits k n) ≡ k
unfolding last_digits
length-last zero n = refl
length-last (suc k) n = ap suc (length-last k n)

percentage_short : (m : ℕ) → m ≤ 1000000 → length (number_field 4 m) ≤ 8
unfolding fixed_text unsigned_text behind_point
percentage_short m le =
    omega (arith, length-append (decimal (m / 10 ^ 4)) (46 ∷ last_digits 4 m), length-decimal-le 3 (m / 10 ^ 4) (omega arith) (omega arith) (omega arith), length-last 4 m)

wavelength_short : (index : ℕ) → index < 31 → length (wavelength_field index) ≤ 3
unfolding fixed_text unsigned_text behind_point
wavelength_short index lt =
    let n = (400 + 10 * index) / 10 ^ 0 in
    omega (arith, length-append (decimal n) [], length-decimal-le 3 n (omega arith) (omega arith) (omega arith))

percentages_short : (book : Book) (index : ℕ) → AreCurves book → index < 31 → length (after_commas (map (percentage index) book)) ≤ 9 * length book
unfolding after_commas
percentages_short [] index kept lt = omega arith
percentages_short (e ∷ book) index kept lt =
    let field = percentage index e in
    omega (arith, length-append (44 ∷ field) (after_commas (map (percentage index) book)), percentage_short (slice_index e.1 index) (value_at e.1 index kept.0 lt).1, percentages_short book index kept.1 lt)

record_short : (book : Book) (index : ℕ) → AreCurves book → index < 31 → length (line (curve_record book index)) ≤ 4 + 9 * length book
unfolding line curve_record
record_short book index kept lt =
    let fields = after_commas (map (percentage index) book) in
    omega (arith, length-append (wavelength_field index) (fields ++ 10 ∷ []), length-append fields (10 ∷ []), wavelength_short index lt, percentages_short book index kept lt)

records_short : (book : Book) (most k n : ℕ) → AreCurves book → 4 + 9 * length book ≤ most → k + n ≤ 31 → length (flat_map line (map (curve_record book) (range_with_len k n))) ≤ n * most
records_short book most k zero kept enough le = omega arith
records_short book most k (suc n) kept enough le =
    let rest = flat_map line (map (curve_record book) (range_with_len (k + 1) n)) in
    omega (arith, length-append (line (curve_record book k)) rest, record_short book k kept (omega arith), records_short book most (k + 1) n kept enough (omega arith))

header_short : (draws : List ℕ) → length (line (codes "nm" ∷ keys_of (job_book draws))) ≤ 1000
unfolding line after_commas job_book dye_book drawn_dyes dye_name dyeing_name digits
header_short draws = omega arith

book_short : (draws : List ℕ) → length (job_book draws) ≤ 26
unfolding job_book dye_book drawn_dyes
book_short draws = omega arith

pub curves_short : (draws : List ℕ) → length (curve_text (job_book draws)) ≤ 1000000
unfolding curve_text curve_records table_text indices
curves_short draws =
    let header = line (codes "nm" ∷ keys_of (job_book draws)) in
    let rest = flat_map line (map (curve_record (job_book draws)) (range_with_len 0 31)) in
    omega (arith, length-append header rest, header_short draws, records_short (job_book draws) 238 0 31 (job_curves draws) (omega (arith, book_short draws)) (omega arith))
