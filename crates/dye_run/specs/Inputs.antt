-- The files of a command without a job: a curve file, or a curve file and a weights file.
use Rattle.std.specs.Prelude.{ℕ, List, Option, Some, None, Result, Ok, Err}
use Rattle.spectral_tables.specs.CurveBook.{Book, curve_named}
use Rattle.spectral_tables.specs.declared.grid.WaveGrid.TheVariants.{Ten}
use Rattle.spectral_tables.specs.CurveFile.{curve_table_of}
use Rattle.spectral_tables.specs.WeightTable.{WeightTable}
use Rattle.spectral_tables.specs.WeightFile.{weight_table_of}
use Rattle.spectral_tables.specs.declared.fault.TableFault.{TableFault}
use Rattle.run_core.specs.Asking.{◌>>=◌}
use Rattle.run_core.specs.Outcome.{Fault, no_column, table, too_long}
use Rattle.run_core.specs.Reading.{DueFile, Reading, makes, one_file, then_reads}
use Rattle.spectral_tables.specs.declared.records.TheConstants.{TABLE_LIMIT}

-- the value read from a file, or the fault that refuses the file
abbrev pub unless_faulty : {T : Type 0} → List ℕ → Result T TableFault → Result T Fault
unless_faulty name (Ok value) = Ok value
unless_faulty name (Err fault) = Err (table name fault)

-- the table of a file by its reader, from the bytes read
unfoldable pub table_from : {T : Type 0} → (List ℕ → Result T TableFault) → List ℕ → Option (List ℕ) → Result T Fault
table_from read name None = Err (too_long name)
table_from read name (Some bytes) = unless_faulty name (read bytes)

abbrev pub unless_missing : {T : Type 0} → List ℕ → List ℕ → Option T → Result T Fault
unless_missing name column None = Err (no_column name column)
unless_missing name column (Some value) = Ok value

-- the curve of a column
unfoldable pub curve_from : List ℕ → List ℕ → Book → Result (List ℕ) Fault
curve_from name column book = unless_missing name column (curve_named column book)

-- the curves of one file and the weights of another
pub record Tables : Type 0 where
  pub book : Book
  pub weights : WeightTable

-- both, from the bytes read: a fault of the curves is named before one of the weights
unfoldable pub tables_from : (curves weights : List ℕ) → (curves_bytes weights_bytes : Option (List ℕ)) → Result Tables Fault
tables_from curves weights curves_bytes weights_bytes = do
  book ← table_from (curve_table_of Ten) curves curves_bytes
  weights_of_file ← table_from (weight_table_of Ten) weights weights_bytes
  Ok (record { book = book; weights = weights_of_file })

-- a file of a table that is due
abbrev pub due_table : List ℕ → DueFile
due_table name = record { name = name; limit = TABLE_LIMIT }

-- a curve file is due
abbrev pub reads_book : List ℕ → Reading (Result Book Fault)
reads_book curves = then_reads (one_file (due_table curves)) (λ bytes_read. makes (table_from (curve_table_of Ten) curves bytes_read))

-- a curve file and then a weights file are due
abbrev pub reads_tables : (curves weights : List ℕ) → Reading (Result Tables Fault)
reads_tables curves weights =
    then_reads (one_file (due_table curves)) (λ curves_bytes. then_reads (one_file (due_table weights)) (λ weights_bytes. makes (tables_from curves weights curves_bytes weights_bytes)))
