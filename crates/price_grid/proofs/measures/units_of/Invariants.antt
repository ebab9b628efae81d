use Rattle.std.proofs.Common.{◌≡◌, ◌+◌, ◌*◌, ◌^◌, ◌≤◌, drop}
use Rattle.price_grid.specs.Limits.{units_of}
use Rattle.price_grid.proofs.measures.units_of.Given as goal

abbrev pub invariant-loop-i : goal.invariant-loop-i
invariant-loop-i l = record {
  so_far : l.units + units_of (drop l.i l.dyes) (drop l.i l.steps) ≡ units_of l.dyes l.steps;
  small : l.units ≤ l.i * 2 ^ 48;
}
