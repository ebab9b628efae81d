use Rattle.std.proofs.Common.{◌≡◌, ◌≤◌, [], map, drop, vec_len, All}
use Rattle.csv.specs.Records.{fields_of}
use Rattle.spectral_tables.specs.Grid.{count_of}
use Rattle.spectral_tables.specs.Rule.{IsRow}
use Rattle.spectral_tables.specs.Faults.{each}
use Rattle.spectral_tables.specs.Columns.{next_row, rows_view}
use Rattle.spectral_tables.proofs.column_rows.rows_of.Given as goal

abbrev pub invariant-loop-line : goal.invariant-loop-line
invariant-loop-line g l = record {
  so_far : each (next_row (g.R.ColumnRule.rule l.rule) l.grid (map (λ n. n.now) l.names)) (rows_view l.rows) (map fields_of (drop l.line-index l.records))
      ≡ each (next_row (g.R.ColumnRule.rule l.rule) l.grid (map (λ n. n.now) l.names)) [] (map fields_of l.records);
  count : vec_len l.rows ≡ l.line-index;
  due : vec_len l.rows ≤ count_of l.grid;
  shape : All (IsRow (g.R.ColumnRule.rule l.rule) (map (λ n. n.now) l.names)) (rows_view l.rows);
}
