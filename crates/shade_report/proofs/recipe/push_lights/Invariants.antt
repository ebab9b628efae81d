-- The text so far with the lines of the other lights is the whole text.
use Rattle.std.proofs.Common.{◌≡◌, ◌+◌, ◌++◌, drop}
use Rattle.shade_report.specs.Recipes.{lights_text}
use Rattle.shade_report.proofs.recipe.push_lights.Given as goal

abbrev pub invariant-loop-i : goal.invariant-loop-i
invariant-loop-i l = l.text.items ++ lights_text (1 + l.i) (drop l.i l.deltas) (drop l.i l.verdicts) ≡ l.fn.text.items ++ lights_text 1 l.deltas l.verdicts
