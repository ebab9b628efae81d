use Rattle.std.proofs.Common.{◌≡◌, All, [], drop, length, map}
use Rattle.toml.specs.View.{table_view}
use Rattle.job_keys.specs.Arrays.{each}
use Rattle.job_file.specs.Dye.{IsDye, NamesDiffer, next_dye}
use Rattle.job_file.proofs.dye.dyes.Given as goal

abbrev pub invariant-loop-table : goal.invariant-loop-table
invariant-loop-table l = record {
  so_far : each next_dye l.dyes.items (map (λ t. table_view t.now) (drop l.table-index l.tables)) ≡ each next_dye [] (map (λ t. table_view t.now) l.tables);
  count : length l.dyes.items ≡ l.table-index;
  range : All IsDye l.dyes.items;
  differ : NamesDiffer l.dyes.items;
}
