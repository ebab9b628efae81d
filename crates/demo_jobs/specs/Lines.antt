-- The text of a table: its records in order, each on a line, with commas between its fields.
use Rattle.std.specs.Prelude.{ℕ, pos, ◌+◌, ◌*◌, List, [], ◌∷◌, ◌++◌}
use Rattle.std.specs.List.{flat_map}
use Rattle.dec_text.specs.FixedPoint.{fixed_text}

-- fields, each after a comma
unfoldable pub after_commas : List (List ℕ) → List ℕ
after_commas [] = []
after_commas (field ∷ fields) = 44 ∷ field ++ after_commas fields

-- a record, with its line feed
unfoldable pub line : List (List ℕ) → List ℕ
line [] = 10 ∷ []
line (first ∷ fields) = first ++ (after_commas fields ++ 10 ∷ [])

-- the lines of all records
unfoldable pub table_text : List (List (List ℕ)) → List ℕ
table_text records = flat_map line records

-- a natural number that is given in units of its last decimal place
abbrev pub number_field : ℕ → ℕ → List ℕ
number_field decimals number = fixed_text decimals (pos number)

-- the field of a wavelength, in nanometres, from its index
abbrev pub wavelength_field : ℕ → List ℕ
wavelength_field index = number_field 0 (400 + 10 * index)
