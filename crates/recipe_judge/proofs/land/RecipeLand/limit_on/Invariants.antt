use Rattle.std.proofs.Common.{◌≡◌, ◌-◌, ◌≤◌}
use Rattle.box_specs.specs.Landscape.{first_from, limit_of}
use Rattle.recipe_judge.specs.Recipes.{recipe_land}
use Rattle.recipe_judge.proofs.land.RecipeLand.limit_on.Given as goal

abbrev pub invariant-loop-limit : goal.invariant-loop-limit
invariant-loop-limit l = record {
  first : 1 ≤ l.limit;
  last : l.limit ≤ 6;
  rest : first_from (recipe_land l.self) (λ k. (recipe_land l.self).excluded k l.part) l.limit (6 - l.limit) ≡ limit_of (recipe_land l.self) l.part;
}
