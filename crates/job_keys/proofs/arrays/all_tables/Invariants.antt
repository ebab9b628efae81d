use Rattle.std.proofs.Common.{◌≡◌, [], drop, map}
use Rattle.toml.specs.Data.{as_table}
use Rattle.toml.specs.View.{items_view, table_view}
use Rattle.job_keys.specs.Arrays.{all_after}
use Rattle.job_keys.proofs.arrays.all_tables.Given as goal

abbrev pub invariant-loop-value : goal.invariant-loop-value
invariant-loop-value l =
    all_after as_table (map (λ t. table_view t.now) l.tables.items) (items_view (drop l.value-index l.values)) ≡ all_after as_table [] (items_view l.values)
