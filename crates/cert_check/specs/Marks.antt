-- A mark for each recipe of a list: whether it has its line.
use Rattle.std.specs.Prelude.{◌≡◌, ◌<◌, ◌+◌, ◌||◌, ℕ, Bool, false, Option, Some, None, List, [], ◌∷◌, length, slice_index_or, if◌then◌else◌}
use Rattle.box_specs.specs.declared.certificate.Why.{Why}
use Rattle.box_specs.specs.declared.certificate.Why.TheVariants.{WrongList}
use Rattle.box_specs.specs.Validity.{is_listed}

-- new is old with the marks of these recipes added
pub record MarksMore (old new : List Bool) (recipes listed : List (List ℕ)) : Type 0 where
  pub long : length new ≡ length old
  pub each : (k : ℕ) → k < length listed
      → slice_index_or new k false ≡ slice_index_or old k false || is_listed recipes (slice_index_or listed k [])

-- the marks so far, with those of the recipes to come, are the marks of all recipes
pub record HasMarks (marks : List Bool) (coming listed all : List (List ℕ)) : Type 0 where
  pub long : length marks ≡ length listed
  pub each : (k : ℕ) → k < length listed
      → slice_index_or marks k false || is_listed coming (slice_index_or listed k []) ≡ is_listed all (slice_index_or listed k [])

-- the first recipe of a list without a mark, from the line of this number on
abbrev pub first_unmarked : ℕ → List Bool → Option (ℕ × Why)
first_unmarked number [] = None
first_unmarked number (mark ∷ marks) = if mark then first_unmarked (number + 1) marks else Some (number, WrongList)
