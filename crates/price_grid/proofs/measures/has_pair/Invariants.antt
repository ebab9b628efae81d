use Rattle.std.proofs.Common.{◌≡◌, drop}
use Rattle.std.specs.List.{list_any}
use Rattle.price_grid.specs.Limits.{has_both}
use Rattle.price_grid.proofs.measures.has_pair.Given as goal

abbrev pub invariant-loop-first : goal.invariant-loop-first
invariant-loop-first l = list_any (has_both l.steps) (drop l.first-index l.pairs) ≡ list_any (has_both l.steps) l.pairs
