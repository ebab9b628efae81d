use Rattle.spectral_tables.specs.Columns.{rows_view}
use Rattle.spectral_tables.specs.CurveBook.{book_of}
use Rattle.spectral_tables.proofs.ColumnFacts.{Holds}
use Rattle.spectral_tables.proofs.curve_columns.book_of.Given as goal

abbrev pub invariant-loop-column : goal.invariant-loop-column
invariant-loop-column l = Holds (rows_view l.columns.rows) (rows_view l.columns.names) l.column (book_of l.curves.entries)
