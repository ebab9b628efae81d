use Rattle.std.proofs.Common.{◌≡◌, All, [], drop, length, map}
use Rattle.toml.specs.View.{table_view}
use Rattle.job_keys.specs.Arrays.{each}
use Rattle.job_keys.specs.Light.{IsLight, next_light}
use Rattle.job_keys.proofs.light.lights.Given as goal

abbrev pub invariant-loop-table : goal.invariant-loop-table
invariant-loop-table l = record {
  so_far : each next_light l.lights.items (map (λ t. table_view t.now) (drop l.table-index l.tables)) ≡ each next_light [] (map (λ t. table_view t.now) l.tables);
  count : length l.lights.items ≡ l.table-index;
  range : All IsLight l.lights.items;
}
