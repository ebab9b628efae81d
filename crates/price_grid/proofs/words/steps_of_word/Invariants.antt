use Rattle.std.proofs.Common.{◌≡◌, ◌++◌, drop, take}
use Rattle.std.specs.Prelude.{option_map}
use Rattle.price_grid.specs.Grid.{IsRecipe}
use Rattle.price_grid.specs.Words.{remaining_parts, steps_of_texts, steps_of_word}
use Rattle.price_grid.proofs.words.steps_of_word.Given as goal

abbrev pub invariant-loop-dye : goal.invariant-loop-dye
invariant-loop-dye l = record {
  so_far : option_map (λ more. l.steps.items ++ more) (steps_of_texts (drop l.dye-index l.dyes) (remaining_parts (option_map (λ text. text.now) l.rest)))
      ≡ steps_of_word l.dyes l.word;
  recipe : IsRecipe (take l.dye-index l.dyes) l.steps.items;
}
