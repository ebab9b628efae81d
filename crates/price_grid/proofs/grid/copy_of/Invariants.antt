use Rattle.std.proofs.Common.{◌≡◌, take}
use Rattle.price_grid.proofs.grid.copy_of.Given as goal

abbrev pub invariant-loop-n : goal.invariant-loop-n
invariant-loop-n l = l.copy.items ≡ take l.n-index l.n-items
