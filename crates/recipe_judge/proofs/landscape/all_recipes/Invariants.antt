use Rattle.std.proofs.Common.{◌≡◌, map, take}
use Rattle.price_grid.specs.declared.dye_cost.DyeCost.{DyeCost}
use Rattle.recipe_judge.proofs.landscape.all_recipes.Given as goal

abbrev pub invariant-loop-dye : goal.invariant-loop-dye
invariant-loop-dye l = record {
  low : l.lo.items ≡ map (λ (d : DyeCost). 0) (take l.dye-index l.grid);
  high : l.hi.items ≡ map (λ (d : DyeCost). d.most) (take l.dye-index l.grid);
}
