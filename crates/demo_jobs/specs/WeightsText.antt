-- The weights of the two lights, and the texts of their files.
use Rattle.std.specs.Prelude.{ℕ, ◌+◌, ◌*◌, List, [], ◌∷◌, ◌++◌, codes, map, slice_index, sum_by}
use Rattle.demo_jobs.specs.declared.weights.Light.{Light}
use Rattle.demo_jobs.specs.declared.weights.Light.TheVariants.{First, Second}
use Rattle.demo_jobs.specs.Cloths.{indices, triangle}
use Rattle.demo_jobs.specs.Lines.{number_field, table_text, wavelength_field}

-- the weights of the first light at a wavelength index, for X, Y and Z
abbrev pub first_weights : ℕ → List ℕ
first_weights index = (triangle 8 20 index + triangle 3 4 index) ∷ triangle 10 15 index ∷ (2 * triangle 6 5 index) ∷ []

-- the weights of a light at a wavelength index, in units of their last decimal place; as values,
-- those of the second light are those of the first times (10 + index) / 10
unfoldable pub weights_at : Light → ℕ → List ℕ
weights_at First index = first_weights index
weights_at Second index = map (λ weight. weight * (10 + index)) (first_weights index)

abbrev pub decimals_of : Light → ℕ
decimals_of First = 0
decimals_of Second = 1

-- the white values are the sums of the weights
unfoldable pub white_of : Light → List ℕ
white_of light = map (λ column. sum_by (λ index. slice_index (weights_at light index) column) indices) (0 ∷ 1 ∷ 2 ∷ [])

-- a record of a light: its first field and its weights
abbrev pub weights_record : Light → List ℕ → List ℕ → List (List ℕ)
weights_record light first weights = first ∷ map (number_field (decimals_of light)) weights

-- the record of a wavelength
abbrev pub wave_record : Light → ℕ → List (List ℕ)
wave_record light index = weights_record light (wavelength_field index) (weights_at light index)

-- the header, a record for each wavelength, and the white record
unfoldable pub weights_records : Light → List (List (List ℕ))
weights_records light =
    (codes "nm" ∷ codes "X" ∷ codes "Y" ∷ codes "Z" ∷ [])
    ∷ (map (wave_record light) indices ++ weights_record light (codes "white") (white_of light) ∷ [])

-- the weights file of a light
unfoldable pub weights_text : Light → List ℕ
weights_text light = table_text (weights_records light)
