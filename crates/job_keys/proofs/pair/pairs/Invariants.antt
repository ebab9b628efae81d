use Rattle.std.proofs.Common.{◌≡◌, All, [], drop, length, map}
use Rattle.toml.specs.View.{table_view}
use Rattle.job_keys.specs.Arrays.{each}
use Rattle.job_keys.specs.Names.{has_named}
use Rattle.job_keys.specs.Pair.{IsPair, next_pair}
use Rattle.job_keys.proofs.pair.pairs.Given as goal

abbrev pub invariant-loop-table : goal.invariant-loop-table
invariant-loop-table g l = record {
  so_far : each (next_pair (has_named g.N.Named.name_of l.dyes)) l.pairs.items (map (λ t. table_view t.now) (drop l.table-index l.tables)) ≡ each (next_pair (has_named g.N.Named.name_of l.dyes)) [] (map (λ t. table_view t.now) l.tables);
  count : length l.pairs.items ≡ l.table-index;
  names : All (IsPair (has_named g.N.Named.name_of l.dyes)) l.pairs.items;
}
