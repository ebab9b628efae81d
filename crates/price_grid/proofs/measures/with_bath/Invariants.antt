use Rattle.std.proofs.Common.{◌≡◌, ◌++◌, length, drop}
use Rattle.price_grid.specs.Limits.{with_bath}
use Rattle.price_grid.proofs.measures.with_bath.Given as goal

abbrev pub invariant-loop-i : goal.invariant-loop-i
invariant-loop-i l = record {
  so_far : l.sums.items ++ with_bath (drop l.i l.bath) (drop l.i l.steps) ≡ with_bath l.bath l.steps;
  count : length l.sums.items ≡ l.i;
}
