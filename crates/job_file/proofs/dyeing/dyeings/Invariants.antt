use Rattle.std.proofs.Common.{◌≡◌, All, [], drop, length, map}
use Rattle.toml.specs.View.{table_view}
use Rattle.job_keys.specs.Arrays.{each}
use Rattle.job_file.specs.Dyeing.{IsDyeing, next_dyeing}
use Rattle.job_file.proofs.dyeing.dyeings.Given as goal

abbrev pub invariant-loop-table : goal.invariant-loop-table
invariant-loop-table l = record {
  so_far : each (next_dyeing l.dye) l.dyeings.items (map (λ t. table_view t.now) (drop l.table-index l.tables)) ≡ each (next_dyeing l.dye) [] (map (λ t. table_view t.now) l.tables);
  count : length l.dyeings.items ≡ l.table-index;
  range : All IsDyeing l.dyeings.items;
}
