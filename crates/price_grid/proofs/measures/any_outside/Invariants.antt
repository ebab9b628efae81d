use Rattle.std.proofs.Common.{◌≡◌, drop}
use Rattle.price_grid.specs.Limits.{any_outside}
use Rattle.price_grid.proofs.measures.any_outside.Given as goal

abbrev pub invariant-loop-i : goal.invariant-loop-i
invariant-loop-i l = any_outside (drop l.i l.dyes) (drop l.i l.low) (drop l.i l.high) ≡ any_outside l.dyes l.low l.high
