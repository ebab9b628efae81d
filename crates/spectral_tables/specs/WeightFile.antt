-- Weights files: a header, a record with three weights for each wavelength, and the white record.
use Rattle.std.specs.Prelude.{◌+◌, ◌*◌, ◌^◌, ℕ, ℤ, pos, ◌<ℤ◌, Bool, true, false, not, ◌&&◌, ◌||◌, ◌==◌, nat_le, if◌then◌else◌, List, [], ◌∷◌, All, length, drop, codes, int_lt, unsigned_abs, Result, Ok, Err}
use Rattle.dec_text.specs.Decimal.{decimal_of}
use Rattle.spectral_tables.specs.declared.fault.TableRule.TheVariants.{NoHeader, BadWavelength, WrongCount, BadNumber, OutOfRange, NoWhite, WhiteNotPositive, Unbalanced}
use Rattle.spectral_tables.specs.declared.fault.TableFault.{TableFault}
use Rattle.spectral_tables.specs.declared.grid.WaveGrid.{WaveGrid}
use Rattle.spectral_tables.specs.Faults.{◌>>=◌, ◌>>◌, fault, ensure, or_fault, each}
use Rattle.spectral_tables.specs.Records.{Table, records_of, trimmed_fields, begins_with, first_field}
use Rattle.spectral_tables.specs.Numbers.{number_read}
use Rattle.spectral_tables.specs.WeightTable.{Triple, WeightTable, IsTriple, at_column, magnitude_sum}
use Rattle.spectral_tables.specs.Fold.{fold_of}
use Rattle.spectral_tables.specs.Run.{Rows, no_rows, following_row, reaches_end, due_wavelength, rows_with}

-- The weight or the white value that a field writes, in units of 0.00001: a number with up to five
-- decimals, of at most 1,000 in magnitude. A white value is above 0.
unfoldable pub weight_of : Bool → ℕ → ℕ → List ℕ → Result ℤ TableFault
weight_of is_white row column field = do
  number ← or_fault row column BadNumber (number_read (decimal_of 5 field))
  ensure row column WhiteNotPositive (not is_white || int_lt (pos 0) number)
      >> ensure row column OutOfRange (nat_le (unsigned_abs number) (10 ^ 8))
      >> Ok number

abbrev pub next_weight : Bool → ℕ → Triple → List ℕ → Result ℤ TableFault
next_weight is_white row before field = weight_of is_white row (length before + 2) field

-- three white values: each is above 0
abbrev pub IsWhite : Triple → Type 0
IsWhite white = IsTriple white × All (λ value. pos 0 <ℤ value) white

-- the rows with the record of the next wavelength added
unfoldable pub with_row : Rows → List (List ℕ) → Result Rows TableFault
with_row rows fields = do
  nm ← or_fault (following_row rows) 1 BadWavelength (due_wavelength rows (first_field fields))
  triple ← each (next_weight false (following_row rows)) [] (drop 1 fields)
  Ok (rows_with rows nm triple)

-- the values of the white record, which may only follow rows that reach the grid's last wavelength
unfoldable pub white_of : Rows → List (List ℕ) → Result Triple TableFault
white_of rows fields =
    ensure (following_row rows) 1 BadWavelength (reaches_end rows)
    >> each (next_weight true (following_row rows)) [] (drop 1 fields)

-- twice the white value of a column is at least the sum of the magnitudes of its weights
abbrev pub ensure_balance : Rows → Triple → ℕ → Result (Unit {0}) TableFault
ensure_balance rows white column =
    ensure (following_row rows) (column + 2) Unbalanced (nat_le (magnitude_sum column rows.triples) (2 * unsigned_abs (at_column column white)))

-- the weights of a file whose white record has been read: no record may follow it
unfoldable pub closed_of : Rows → Triple → Table → Result WeightTable TableFault
closed_of rows white records =
    ensure_balance rows white 0 >> ensure_balance rows white 1 >> ensure_balance rows white 2
    >> ensure (following_row rows + 1) 1 BadWavelength (length records == 0)
    >> Ok (record { weights = fold_of rows.grid rows.first rows.triples; white = white })

-- the weights from the records that follow the rows, up to the white record
unfoldable pub weights_from : Rows → Table → Result WeightTable TableFault
weights_from rows [] = Err (fault (following_row rows) 1 NoWhite)
weights_from rows (line ∷ records) =
    ensure (following_row rows) (length line) WrongCount (length line == 4)
    >> (if begins_with (codes "white") (trimmed_fields line)
    then white_of rows (trimmed_fields line) >>= (λ white. closed_of rows white records)
    else with_row rows (trimmed_fields line) >>= (λ more. weights_from more records))

-- the weights of a table, or its first fault. The header is `nm` and three fields with any text
unfoldable pub weights_of : WaveGrid → Table → Result WeightTable TableFault
weights_of grid [] = Err (fault 1 1 NoHeader)
weights_of grid (header ∷ records) =
    ensure 1 1 NoHeader (begins_with (codes "nm") (trimmed_fields header) && (length header == 4)) >> weights_from (no_rows grid) records

-- the weights of a file, or its first fault
abbrev pub weight_table_of : WaveGrid → List ℕ → Result WeightTable TableFault
weight_table_of grid bytes = weights_of grid (records_of bytes)
