-- Recipes in their order.
use Rattle.std.specs.Prelude.{◌≡◌, ℕ, true, List, [], ◌∷◌, if◌then◌else◌}
use Rattle.std.specs.List.{AllPairs}
use Rattle.box_specs.specs.Landscape.{Land, is_before}

module _ (l : Land) where
  -- the recipes are in rising order
  abbrev pub IsRising : List (List ℕ) → Type 0
  IsRising recipes = AllPairs (λ a b. is_before l a b ≡ true) recipes

  -- a rising list with one more recipe, in its order; unchanged where it already has that recipe
  abbrev pub put_in : List ℕ → List (List ℕ) → List (List ℕ)
  put_in steps [] = steps ∷ []
  put_in steps (next ∷ rest) =
      if is_before l steps next then steps ∷ next ∷ rest
      else if is_before l next steps then next ∷ put_in steps rest
      else next ∷ rest

  -- recipes in their order, each of them once
  abbrev pub in_order : List (List ℕ) → List (List ℕ)
  in_order [] = []
  in_order (steps ∷ rest) = put_in steps (in_order rest)
