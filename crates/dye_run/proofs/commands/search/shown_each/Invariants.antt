-- The recipes so far are shown.
use Rattle.std.proofs.Common.{◌≡◌, map, take}
use Rattle.shade_report.specs.Recipes.{shown_view}
use Rattle.dye_run.specs.Show.{recipe_values}
use Rattle.dye_run.proofs.commands.search.shown_each.Given as goal

abbrev pub invariant-loop-steps : goal.invariant-loop-steps
invariant-loop-steps l = map shown_view l.each.items ≡ map (λ s. recipe_values l.land s.items) (take l.steps-index l.recipes)
