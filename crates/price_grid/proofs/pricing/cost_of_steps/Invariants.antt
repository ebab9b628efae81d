use Rattle.std.proofs.Common.{◌≡◌, ◌+◌, ◌*◌, ◌^◌, ◌≤◌, drop}
use Rattle.price_grid.specs.Cost.{cost_of}
use Rattle.price_grid.proofs.pricing.cost_of_steps.Given as goal

abbrev pub invariant-loop-i : goal.invariant-loop-i
invariant-loop-i l = record {
  so_far : l.total + cost_of (drop l.i l.dyes) (drop l.i l.steps) ≡ cost_of l.dyes l.steps;
  small : l.total ≤ l.i * (2 * 10 ^ 10 + 10 ^ 12);
}
