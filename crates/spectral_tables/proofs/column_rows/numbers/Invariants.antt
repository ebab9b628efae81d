use Rattle.std.proofs.Common.{◌≡◌, [], map, drop, vec_len}
use Rattle.spectral_tables.specs.Faults.{each}
use Rattle.spectral_tables.specs.Columns.{next_number}
use Rattle.spectral_tables.proofs.RowFacts.{AreInRange}
use Rattle.spectral_tables.proofs.column_rows.numbers.Given as goal

abbrev pub invariant-loop-i : goal.invariant-loop-i
invariant-loop-i g l = record {
  so_far : each (next_number (g.R.ColumnRule.rule l.rule) (map (λ n. n.now) l.names) l.row) l.numbers.items (map (λ f. f.now) (drop l.i l.fields))
      ≡ each (next_number (g.R.ColumnRule.rule l.rule) (map (λ n. n.now) l.names) l.row) [] (map (λ f. f.now) l.fields);
  range : AreInRange (g.R.ColumnRule.rule l.rule) (map (λ n. n.now) l.names) l.numbers.items;
  count : vec_len l.numbers ≡ l.i;
}
