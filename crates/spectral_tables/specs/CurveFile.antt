-- Curve files: files of columns with a percentage in each.
use Rattle.std.specs.Prelude.{ℕ, List, [], ◌∷◌, ◌++◌, length, map, slice_index, Result, Ok, Err}
use Rattle.spectral_tables.specs.declared.fault.TableFault.{TableFault}
use Rattle.spectral_tables.specs.declared.grid.WaveGrid.{WaveGrid}
use Rattle.spectral_tables.specs.Faults.{◌>>=◌}
use Rattle.spectral_tables.specs.Name.{is_name}
use Rattle.spectral_tables.specs.Rule.{Rule}
use Rattle.spectral_tables.specs.Columns.{column_table_of}
use Rattle.spectral_tables.specs.CurveBook.{Book}

-- any name, and percentages from 0.01 to 100, which are 100 to 1,000,000 millionths
abbrev pub curve_rule : Rule
curve_rule = record { is_column = is_name; range_of = λ name. record { least = 100; most = 1000000 } }

-- the values of a column, by rising wavelength
abbrev pub column_of : ℕ → List (List ℕ) → List ℕ
column_of column rows = map (λ values. slice_index values column) rows

-- each name with the values of its column
abbrev pub curves_under : Book → List (List ℕ) → List (List ℕ) → Book
curves_under before rows [] = before
curves_under before rows (name ∷ names) = curves_under (before ++ (name, column_of (length before) rows) ∷ []) rows names

-- the curves of a file, or its first fault
unfoldable pub curve_table_of : WaveGrid → List ℕ → Result Book TableFault
curve_table_of grid bytes = do
  table ← column_table_of curve_rule grid bytes
  Ok (curves_under [] table.rows table.names)
