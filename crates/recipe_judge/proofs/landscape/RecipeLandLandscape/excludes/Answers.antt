use Rattle.std.proofs.Common.{sym, subst}
use Rattle.box_specs.specs.Span.{IsInside, Span}
use Rattle.recipe_judge.specs.Recipes.{all_recipes}
use Rattle.recipe_judge.proofs.GridBoxes.{high_recipe, low_recipe}
use Rattle.recipe_judge.proofs.landscape.RecipeLandLandscape.excludes.Goals as goal

pub excludes-requires-clause-low : goal.excludes-requires-clause-low
excludes-requires-clause-low c =
    let grid = c.args.self.now.grid in
    let b : Span = record { lo = c.part.inside.lo.items; hi = c.part.inside.hi.items } in
    rw c.grid.ensures (low_recipe grid b c.part.invariant.0 (subst (λ (p : Span). IsInside p (all_recipes grid)) (sym c.part.view_is) c.requires))

pub excludes-requires-clause-high : goal.excludes-requires-clause-high
excludes-requires-clause-high c =
    let grid = c.args.self.now.grid in
    let b : Span = record { lo = c.part.inside.lo.items; hi = c.part.inside.hi.items } in
    rw c.grid.ensures (high_recipe grid b (subst (λ (p : Span). IsInside p (all_recipes grid)) (sym c.part.view_is) c.requires))
