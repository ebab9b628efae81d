-- The answer: the first recipe, by cost and then by steps, that is admitted and passes, found in
-- the plain list of all; and the k-th such recipe.
use Rattle.std.specs.Prelude.{◌≡◌, ◌+◌, ◌-◌, ◌++◌, ◌&&◌, ℕ, zero, suc, Bool, true, false, Option, Some, None, List, [], ◌∷◌, map, if◌then◌else◌}
use Rattle.std.specs.List.{filter, slice_get}
use Rattle.box_specs.specs.Order.{in_order}
use Rattle.box_specs.specs.Span.{IsBox, IsWithin}
use Rattle.box_specs.specs.Landscape.{Grade, Land, fails, is_admitted, is_before, passes, unsure}

-- consecutive numbers from n on, as many as the last argument says
abbrev pub numbers_from : ℕ → ℕ → List ℕ
numbers_from n zero = []
numbers_from n (suc more) = n ∷ numbers_from (n + 1) more

-- each list with each number put before it
abbrev pub each_before : List ℕ → List (List ℕ) → List (List ℕ)
each_before [] rest = []
each_before (n ∷ ns) rest = map (λ steps. n ∷ steps) rest ++ each_before ns rest

-- the plain list of all recipes from a lower to an upper corner
abbrev pub recipes_between : (low high : List ℕ) → List (List ℕ)
recipes_between [] high = [] ∷ []
recipes_between (l ∷ low) [] = []
recipes_between (l ∷ low) (h ∷ high) = each_before (numbers_from l (h + 1 - l)) (recipes_between low high)

abbrev pub is_pass : Grade → Bool
is_pass passes = true
is_pass fails = false
is_pass unsure = false

module _ (l : Land) where
  -- all recipes
  abbrev pub all_recipes : List (List ℕ)
  all_recipes = recipes_between l.top.lo l.top.hi

  -- a recipe that is admitted and passes
  abbrev pub is_match : List ℕ → Bool
  is_match steps = is_admitted l steps && is_pass (l.grade steps)

  -- the earlier of a recipe and the first of others
  abbrev pub earlier : List ℕ → Option (List ℕ) → Option (List ℕ)
  earlier a None = Some a
  earlier a (Some b) = if is_before l b a then Some b else Some a

  -- the first of a list that is admitted and passes
  abbrev pub first_match : List (List ℕ) → Option (List ℕ)
  first_match [] = None
  first_match (steps ∷ rest) = if is_match steps then earlier steps (first_match rest) else first_match rest

  abbrev pub answer_of : Option (List ℕ)
  answer_of = first_match all_recipes

  -- a recipe of the grid that is admitted and passes, and no other such recipe comes before it
  pub record IsFirstMatch (steps : List ℕ) : Type 0 where
    pub grid : IsWithin steps l.top
    pub matches : is_match steps ≡ true
    pub first : (other : List ℕ) → IsWithin other l.top → is_match other ≡ true → is_before l other steps ≡ false

  abbrev pub IsAnswer : Option (List ℕ) → Type 0
  IsAnswer None = (steps : List ℕ) → IsWithin steps l.top → is_match steps ≡ false
  IsAnswer (Some steps) = IsFirstMatch steps

  -- the answer is the first recipe of the grid that is admitted and passes, and None where there is
  -- no such recipe
  abbrev pub AnswerIsFirst : Type 0
  AnswerIsFirst = IsBox l.top → IsAnswer answer_of

  -- all recipes that are admitted and pass, in their order
  abbrev pub matches : List (List ℕ)
  matches = in_order l (filter is_match all_recipes)

  -- the k-th of them, counted from 1
  abbrev pub kth_match : ℕ → Option (List ℕ)
  kth_match k = slice_get matches (k - 1)

  -- the first of them is the answer
  abbrev pub FirstIsAnswer : Type 0
  FirstIsAnswer = kth_match 1 ≡ answer_of
