-- Files of columns: a header of names, and for each wavelength of a grid a record with a number
-- under each name.
use Rattle.std.specs.Prelude.{◌≡◌, ℕ, ◌+◌, ◌≤◌, Bool, not, ◌&&◌, ◌==◌, nat_lt, nat_le, List, [], ◌∷◌, ◌++◌, All, length, drop, get_or, map, codes, Result, Ok, Err}
use Rattle.std.specs.Global.{Vec}
use Rattle.std.specs.List.{IsDistinct, list_any}
use Rattle.std.specs.Str.{bytes_eq}
use Rattle.dec_text.specs.Decimal.{decimal_of}
use Rattle.spectral_tables.specs.declared.fault.TableRule.TheVariants.{NoHeader, BadWavelength, WrongCount, BadNumber, OutOfRange, DoubleName}
use Rattle.spectral_tables.specs.declared.fault.TableFault.{TableFault}
use Rattle.spectral_tables.specs.declared.grid.WaveGrid.{WaveGrid}
use Rattle.spectral_tables.specs.declared.columns.Columns.{Columns}
use Rattle.spectral_tables.specs.declared.column_range.ColumnRange.{ColumnRange}
use Rattle.spectral_tables.specs.Faults.{◌>>=◌, ◌>>◌, fault, ensure, or_fault, each}
use Rattle.spectral_tables.specs.Grid.{count_of, wavelength_at}
use Rattle.spectral_tables.specs.Records.{Table, records_of, trimmed_fields, begins_with, first_field}
use Rattle.spectral_tables.specs.Rule.{Rule, IsRow}
use Rattle.spectral_tables.specs.Numbers.{is_wavelength, natural_in, number_read}

-- names, and for each wavelength a number under each name
pub record ColumnTable : Type 0 where
  pub names : List (List ℕ)
  pub rows : List (List ℕ)

-- the numbers of each row
abbrev pub rows_view : Vec (Vec ℕ) → List (List ℕ)
rows_view rows = map (λ row. row.items) rows.items

-- the table of columns that were read
abbrev pub table_view : Columns → ColumnTable
table_view columns = record { names = rows_view columns.names; rows = rows_view columns.rows }

-- a table that keeps a rule, over a grid
pub record IsColumnTable (rule : Rule) (grid : WaveGrid) (table : ColumnTable) : Type 0 where
  pub some : 1 ≤ length table.names
  pub distinct : IsDistinct bytes_eq table.names
  pub waves : length table.rows ≡ count_of grid
  pub rows : All (IsRow rule table.names) table.rows

-- `nm` and 1 to 64 further fields
abbrev pub is_column_header : List (List ℕ) → Bool
is_column_header fields = begins_with (codes "nm") fields && nat_le 2 (length fields) && nat_le (length fields) 65

-- a field of the header is a name that the rule has
abbrev pub next_name : Rule → List (List ℕ) → List ℕ → Result (List ℕ) TableFault
next_name rule before field = ensure 1 (length before + 2) NoHeader (rule.is_column field) >> Ok field

-- no earlier field has the name
abbrev pub next_different : List (List ℕ) → List ℕ → Result (List ℕ) TableFault
next_different before name = ensure 1 (length before + 2) DoubleName (not (list_any (bytes_eq name) before)) >> Ok name

-- Row 1: `nm` and the names of the columns. All fields are checked to be names before any are
-- compared.
unfoldable pub names_of : Rule → List (List ℕ) → Result (List (List ℕ)) TableFault
names_of rule fields =
    ensure 1 1 NoHeader (is_column_header fields) >> (do
      names ← each (next_name rule) [] (drop 1 fields)
      each next_different [] names)

-- The number that a field writes, in units of 0.0001: a decimal number in a range, with up to four
-- decimals.
unfoldable pub number_of : ColumnRange → ℕ → ℕ → List ℕ → Result ℕ TableFault
number_of range row column field = do
  number ← or_fault row column BadNumber (number_read (decimal_of 4 field))
  or_fault row column OutOfRange (natural_in range.least range.most number)

abbrev pub next_number : Rule → List (List ℕ) → ℕ → List ℕ → List ℕ → Result ℕ TableFault
next_number rule names row before field = number_of (rule.range_of (get_or names (length before) [])) row (length before + 2) field

-- The numbers of the record for the wavelength of index `wave`: the record has as many fields as
-- the header, first this wavelength and then a number under each name.
unfoldable pub row_of : Rule → WaveGrid → List (List ℕ) → ℕ → List (List ℕ) → Result (List ℕ) TableFault
row_of rule grid names wave fields =
    ensure (wave + 2) 1 BadWavelength (nat_lt wave (count_of grid))
    >> ensure (wave + 2) (length fields) WrongCount (length fields == length names + 1)
    >> ensure (wave + 2) 1 BadWavelength (is_wavelength (wavelength_at grid wave) (first_field fields))
    >> each (next_number rule names (wave + 2)) [] (drop 1 fields)

abbrev pub next_row : Rule → WaveGrid → List (List ℕ) → List (List ℕ) → List (List ℕ) → Result (List ℕ) TableFault
next_row rule grid names before fields = row_of rule grid names (length before) (trimmed_fields fields)

-- the records after the header: one for each wavelength of the grid
unfoldable pub rows_of : Rule → WaveGrid → List (List ℕ) → Table → Result (List (List ℕ)) TableFault
rows_of rule grid names records = do
  rows ← each (next_row rule grid names) [] records
  ensure (length rows + 2) 1 BadWavelength (length rows == count_of grid) >> Ok rows

-- the columns of a table, or its first fault
unfoldable pub columns_of : Rule → WaveGrid → Table → Result ColumnTable TableFault
columns_of rule grid [] = Err (fault 1 1 NoHeader)
columns_of rule grid (header ∷ records) = do
  names ← names_of rule (trimmed_fields header)
  rows ← rows_of rule grid names records
  Ok (record { names = names; rows = rows })

-- the columns of a file, or its first fault
abbrev pub column_table_of : Rule → WaveGrid → List ℕ → Result ColumnTable TableFault
column_table_of rule grid bytes = columns_of rule grid (records_of bytes)
