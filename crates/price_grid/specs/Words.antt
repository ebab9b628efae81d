-- Recipes as words of the command line.
use Rattle.std.specs.Prelude.{◌==◌, ℕ, Bool, nat_le, Option, Some, None, option_and_then, option_map, List, [], ◌∷◌, if◌then◌else◌}
use Rattle.std.specs.List.{slice_split}
use Rattle.dec_text.specs.Whole.{whole_number}
use Rattle.price_grid.specs.declared.dye_cost.DyeCost.{DyeCost}

abbrev pub is_comma : ℕ → Bool
is_comma byte = byte == 44

-- the steps of a dye that a text spells: one to four digits, leading zeros allowed, and up to the
-- most steps of the dye
abbrev pub steps_of_dye : DyeCost → List ℕ → Option ℕ
steps_of_dye dye text = option_and_then (λ n. if nat_le n dye.most then Some n else None) (whole_number 4 text)

-- a recipe with this number of steps of one more dye before the others, if both are there
abbrev pub with_first : Option ℕ → Option (List ℕ) → Option (List ℕ)
with_first None steps = None
with_first (Some n) steps = option_map (λ rest. n ∷ rest) steps

-- the recipe that texts spell, one for each dye
abbrev pub steps_of_texts : List DyeCost → List (List ℕ) → Option (List ℕ)
steps_of_texts [] [] = Some []
steps_of_texts [] (text ∷ texts) = None
steps_of_texts (dye ∷ dyes) [] = None
steps_of_texts (dye ∷ dyes) (text ∷ texts) = with_first (steps_of_dye dye text) (steps_of_texts dyes texts)

-- the recipe that a word spells: the numbers of its dyes, with commas between them
abbrev pub steps_of_word : List DyeCost → List ℕ → Option (List ℕ)
steps_of_word dyes word = steps_of_texts dyes (slice_split is_comma word)

-- the parts of the text after a comma, and none where there was no comma
abbrev pub remaining_parts : Option (List ℕ) → List (List ℕ)
remaining_parts None = []
remaining_parts (Some text) = slice_split is_comma text
