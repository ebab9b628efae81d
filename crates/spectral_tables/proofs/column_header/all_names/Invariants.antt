use Rattle.std.proofs.Common.{◌≡◌, [], map, drop, vec_len}
use Rattle.spectral_tables.specs.Faults.{each}
use Rattle.spectral_tables.specs.Columns.{next_name}
use Rattle.spectral_tables.proofs.column_header.all_names.Given as goal

abbrev pub invariant-loop-field : goal.invariant-loop-field
invariant-loop-field g l = record {
  so_far : each (next_name (g.R.ColumnRule.rule l.rule)) (map (λ f. f.now) l.names.items) (map (λ f. f.now) (drop l.field-index l.fields)) ≡ each (next_name (g.R.ColumnRule.rule l.rule)) [] (map (λ f. f.now) l.fields);
  count : vec_len l.names ≡ l.field-index;
}
