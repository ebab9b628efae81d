-- The text so far with the other numbers is the whole text.
use Rattle.std.proofs.Common.{◌≡◌, ◌∷◌, ◌++◌, decimal, drop, flat_map}
use Rattle.shade_report.specs.Outcomes.{commas_text}
use Rattle.shade_report.proofs.outcome.push_commas.Given as goal

abbrev pub invariant-loop-number : goal.invariant-loop-number
invariant-loop-number l = l.text.items ++ flat_map (λ m. 44 ∷ decimal m) (drop l.number-index l.more) ≡ l.fn.text.items ++ commas_text l.fn.numbers
