-- The text so far with the lines of the other dyes is the whole text.
use Rattle.std.proofs.Common.{◌≡◌, ◌++◌, drop}
use Rattle.shade_report.specs.Recipes.{dyes_text}
use Rattle.shade_report.proofs.recipe.push_dyes.Given as goal

abbrev pub invariant-loop-i : goal.invariant-loop-i
invariant-loop-i l = l.text.items ++ dyes_text l.load (drop l.i l.dyes) (drop l.i l.steps) ≡ l.fn.text.items ++ dyes_text l.load l.dyes l.steps
