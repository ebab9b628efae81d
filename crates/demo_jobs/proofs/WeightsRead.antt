-- The weights files are read: both are the same for all numbers, so reading their records is
-- computed.
use Rattle.std.proofs.Common.{◌≡◌, ◌++◌, ◌∷◌, ◌∙◌, [], Bool, true, false, ℕ, Ok, ap, codes, List, map, refl}
use Rattle.std.specs.Fmt.{digits}
use Rattle.std.specs.List.{list_all}
use Rattle.std.proofs.lemmas.Bool.{and_parts}
use Rattle.dec_text.specs.Decimal.{body_value, decimal_of, magnitude_of, number_of}
use Rattle.dec_text.specs.FixedPoint.{behind_point, fixed_text, last_digits, unsigned_text}
use Rattle.spectral_tables.specs.declared.grid.WaveGrid.TheVariants.{Ten}
use Rattle.spectral_tables.specs.Fold.{fold_of}
use Rattle.spectral_tables.specs.Run.{due_wavelength}
use Rattle.spectral_tables.specs.Trim.{trim_end, trim_start}
use Rattle.spectral_tables.specs.WeightFile.{closed_of, weight_of, weight_table_of, weights_from, weights_of, white_of as read_white, with_row}
use Rattle.spectral_tables.specs.WeightTable.{column_sum, magnitude_sum}
use Rattle.demo_jobs.specs.declared.weights.Light.{Light}
use Rattle.demo_jobs.specs.declared.weights.Light.TheVariants.{First, Second}
use Rattle.demo_jobs.specs.Cloths.{indices}
use Rattle.demo_jobs.specs.Values.{weight_table}
use Rattle.demo_jobs.specs.WeightsText.{wave_record, weights_at, weights_record, weights_records, weights_text, white_of}
use Rattle.demo_jobs.proofs.PlainFields.{all_plain_by, is_plain}
use Rattle.demo_jobs.proofs.RecordsRead.{AreRecords, records_read}

-- ---- the records are plain

abbrev is_record : List (List ℕ) → Bool
is_record [] = false
is_record (x ∷ []) = false
is_record (x ∷ (y ∷ ys)) = list_all (list_all is_plain) (x ∷ y ∷ ys)

records_by : (records : List (List (List ℕ))) → list_all is_record records ≡ true → AreRecords records
records_by [] h = tt
records_by ([] ∷ rs) h = absurd cc
records_by ((x ∷ []) ∷ rs) h = absurd cc
records_by ((x ∷ (y ∷ ys)) ∷ rs) h = let (here, there) = and_parts (is_record (x ∷ y ∷ ys)) (list_all is_record rs) h in (all_plain_by (x ∷ y ∷ ys) here, records_by rs there)

-- the records of a light's file after the header
abbrev after_header : Light → List (List (List ℕ))
after_header light = map (wave_record light) indices ++ weights_record light (codes "white") (white_of light) ∷ []

plain : (light : Light) → list_all is_record (after_header light) ≡ true
unfolding white_of weights_at indices fixed_text unsigned_text behind_point last_digits digits
plain First = refl
plain Second = refl

-- ---- and are read

from_records : (light : Light) → weights_of Ten (weights_records light) ≡ Ok (weight_table light)
unfolding weight_table weights_records weights_at white_of indices fixed_text unsigned_text behind_point last_digits digits weights_of weights_from with_row due_wavelength read_white closed_of weight_of decimal_of body_value number_of magnitude_of trim_start trim_end fold_of column_sum magnitude_sum
from_records First = refl
from_records Second = refl

pub weights_read : (light : Light) → weight_table_of Ten (weights_text light) ≡ Ok (weight_table light)
unfolding weights_text weights_records
weights_read light =
    ap (weights_of Ten) (records_read (codes "X") (codes "Y" ∷ codes "Z" ∷ []) (after_header light) ((refl, tt), ((refl, tt), ((refl, tt), tt))) (records_by (after_header light) (plain light))) ∙ from_records light
