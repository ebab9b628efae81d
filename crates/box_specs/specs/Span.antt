-- Boxes of recipes.
use Rattle.std.specs.Prelude.{◌≤◌, ℕ, Bool, List, length, map}
use Rattle.std.specs.Str.{bytes_eq}
use Rattle.arrayvec.specs.ArrayVec.{ArrayVec}
use Rattle.price_grid.specs.Grid.{IsUpTo}

-- all recipes from a lower corner to an upper one, dye by dye
pub record Span : Type 0 where
  pub lo : List ℕ
  pub hi : List ℕ

-- the corners have equally many numbers, and each of the lower corner is at most that of the upper
-- one
abbrev pub IsBox : Span → Type 0
IsBox b = IsUpTo b.lo b.hi

-- one to twelve dyes
abbrev pub HasDyes : Span → Type 0
HasDyes b = (1 ≤ length b.lo) × (length b.lo ≤ 12)

-- a recipe lies in a box
abbrev pub IsWithin : List ℕ → Span → Type 0
IsWithin steps b = IsUpTo b.lo steps × IsUpTo steps b.hi

-- a box lies in another
abbrev pub IsInside : Span → Span → Type 0
IsInside b c = IsUpTo c.lo b.lo × IsUpTo b.hi c.hi

-- two recipes are the same
abbrev pub same_steps : List ℕ → List ℕ → Bool
same_steps a b = bytes_eq a b

-- a box of one recipe
abbrev pub is_single : Span → Bool
is_single b = same_steps b.lo b.hi

abbrev pub single : List ℕ → Span
single steps = record { lo = steps; hi = steps }

-- recipes of the code as lists
abbrev pub lists : List (ArrayVec ℕ) → List (List ℕ)
lists recipes = map (λ steps. steps.items) recipes
