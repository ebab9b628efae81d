use Rattle.std.proofs.Common.{◌≡◌, ◌∙◌, ap, sym, map, take}
use Rattle.std.proofs.lemmas.List.{take_all}
use Rattle.price_grid.specs.declared.dye_cost.DyeCost.{DyeCost}
use Rattle.recipe_judge.proofs.GridBoxes.{all_has_dyes, all_is_box}
use Rattle.recipe_judge.proofs.landscape.all_recipes.Goals as goal

pub invariant_of-result : goal.invariant_of-result
invariant_of-result c =
    let grid = c.grid.inside.dyes.items in
    let seen : c.args.grid.now ≡ grid = sym c.grid.view_is in
    let whole : take c.loop-dye.dye-index c.args.grid.now ≡ grid = ap (take c.loop-dye.dye-index) seen ∙ take_all c.loop-dye.dye-index grid (rw c.as_slice-dye-items.ensures.value at c.loop-dye-test.false) in
    let low = c.loop-dye.invariant.low ∙ ap (map (λ (d : DyeCost). 0)) whole in
    let high = c.loop-dye.invariant.high ∙ ap (map (λ (d : DyeCost). d.most)) whole in
    rw (low, high) (all_is_box grid, all_has_dyes grid c.grid.invariant)
