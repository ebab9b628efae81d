use Rattle.std.proofs.Common.{◌≡◌, ◌+◌, ◌-◌, ◌++◌, length}
use Rattle.std.specs.Prelude.{option_map}
use Rattle.box_core.specs.Ranges.{StepsFit}
use Rattle.box_cert.specs.Lines.{numbers_at}
use Rattle.box_cert.proofs.line.recipe_line.Given as goal

abbrev pub invariant-loop : goal.invariant-loop
invariant-loop l = record {
  so_far : option_map (λ more. l.steps.items ++ more) (numbers_at (l.dims - l.counter) l.rest) ≡ numbers_at (l.dims - 1) l.fn.line;
  count : length l.steps.items + 1 ≡ l.counter;
  fits : StepsFit l.steps.items;
}
