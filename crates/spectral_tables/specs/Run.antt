-- The rows of a weights file, by rising wavelength.
use Rattle.std.specs.Prelude.{◌≡◌, ◌+◌, ◌*◌, ◌%◌, ◌≤◌, ℕ, Bool, ◌&&◌, ◌==◌, nat_le, if◌then◌else◌, List, [], ◌∷◌, ◌++◌, All, length, Option, Some, None, option_and_then}
use Rattle.dec_text.specs.Decimal.{decimal_of}
use Rattle.spectral_tables.specs.declared.grid.WaveGrid.{WaveGrid}
use Rattle.spectral_tables.specs.Grid.{first_of, step_of, end_of}
use Rattle.spectral_tables.specs.Numbers.{natural_in, number_read}
use Rattle.spectral_tables.specs.WeightTable.{Triple, IsTriple}

-- the rows that have been read: their grid, the first wavelength, 300 where there is none yet, and
-- the weights of each row
pub record Rows : Type 0 where
  pub grid : WaveGrid
  pub first : ℕ
  pub triples : List Triple

-- no row yet
abbrev pub no_rows : WaveGrid → Rows
no_rows grid = record { grid = grid; first = 300; triples = [] }

-- the number of the record that follows the rows
abbrev pub following_row : Rows → ℕ
following_row rows = length rows.triples + 2

-- the wavelength that follows the last row, 300 where there is none
abbrev pub following_wavelength : Rows → ℕ
following_wavelength rows = rows.first + step_of rows.grid * length rows.triples

-- Do the rows reach the last wavelength of the grid?
abbrev pub reaches_end : Rows → Bool
reaches_end rows = nat_le (end_of rows.grid) (following_wavelength rows)

-- May the next row have this wavelength? The first may have any multiple of the step up to the
-- grid's first wavelength, of which 300 and above are in range, and each further one has one step
-- more than the one before.
abbrev pub is_due : Rows → ℕ → Bool
is_due rows nm = if length rows.triples == 0 then (nm % step_of rows.grid == 0) && nat_le nm (first_of rows.grid) else nm == following_wavelength rows

-- the wavelength, where the next row may have it
abbrev pub only_due : Rows → ℕ → Option ℕ
only_due rows nm = if is_due rows nm then Some nm else None

-- the wavelength that a field writes, if it is a whole number from 300 to 830 and the next row may
-- have it
unfoldable pub due_wavelength : Rows → List ℕ → Option ℕ
due_wavelength rows field = option_and_then (only_due rows) (option_and_then (natural_in 300 830) (number_read (decimal_of 0 field)))

-- the rows with one more
abbrev pub rows_with : Rows → ℕ → Triple → Rows
rows_with rows nm triple = record { grid = rows.grid; first = if length rows.triples == 0 then nm else rows.first; triples = rows.triples ++ triple ∷ [] }

-- the invariant of the rows
pub record IsRun (rows : Rows) : Type 0 where
  pub whole : rows.first % step_of rows.grid ≡ 0
  pub from : 300 ≤ rows.first
  pub start : rows.first ≤ first_of rows.grid
  pub last : following_wavelength rows ≤ 830 + step_of rows.grid
  pub magnitudes : All IsTriple rows.triples
