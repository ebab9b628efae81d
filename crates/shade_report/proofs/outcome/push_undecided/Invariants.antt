-- The text so far with the lines of the other recipes is the whole text.
use Rattle.std.proofs.Common.{◌≡◌, ◌++◌, drop, flat_map, map}
use Rattle.shade_report.specs.Outcomes.{listed_text, undecided_text}
use Rattle.shade_report.specs.Recipes.{shown_view}
use Rattle.shade_report.specs.declared.shown.Shown.{Shown}
use Rattle.shade_report.proofs.outcome.push_undecided.Given as goal

abbrev pub invariant-loop-shown : goal.invariant-loop-shown
invariant-loop-shown l = l.text.items ++ flat_map (λ (s : Shown). listed_text (shown_view s)) (drop l.shown-index l.undecided) ≡ l.fn.text.items ++ undecided_text (map shown_view l.undecided)
