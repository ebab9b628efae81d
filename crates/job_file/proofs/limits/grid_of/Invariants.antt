use Rattle.std.proofs.Common.{◌≡◌, map, take, All}
use Rattle.price_grid.specs.Grid.{IsDyeCost}
use Rattle.job_file.specs.Resolve.{cost_of_dye}
use Rattle.job_file.proofs.limits.grid_of.Given as goal

abbrev pub invariant-loop-dye : goal.invariant-loop-dye
invariant-loop-dye l = record {
  so_far : l.costs.items ≡ map cost_of_dye (take l.dye-index l.dyes);
  range : All IsDyeCost l.costs.items;
}
