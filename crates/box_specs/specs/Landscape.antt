-- A landscape of recipes: all that a search and a check know of them.
use Rattle.std.specs.Prelude.{◌≡◌, ◌⊎◌, ◌↔◌, ◌+◌, ◌<◌, ◌≤◌, ◌^◌, ◌||◌, ℕ, zero, suc, Bool, true, false, is_some, is_none, Option, Some, None, List, All, if◌then◌else◌}
use Rattle.std.specs.Ordering.{is_lt}
use Rattle.price_grid.specs.Grid.{IsUpTo}
use Rattle.price_grid.specs.Order.{KeyView, key_cmp}
use Rattle.box_specs.specs.declared.judged.Judged.{Judged}
use Rattle.box_specs.specs.declared.judged.Judged.TheVariants.{Fail, Limit, Pass, StillOpen, Undecided}
use Rattle.box_specs.specs.Span.{HasDyes, IsBox, IsInside, IsWithin, Span, is_single, single}

-- the verdict on a recipe
pub data Grade : Type 0 where
  passes : Grade
  fails : Grade
  unsure : Grade

-- The box of all recipes; how many lights there are; the cost of a recipe and its verdict; which
-- limits exclude a box, and which lights fail on it
pub record Land : Type 0 where
  pub top : Span
  pub lights : ℕ
  pub cost : List ℕ → ℕ
  pub grade : List ℕ → Grade
  pub excluded : ℕ → Span → Bool
  pub failing : ℕ → Span → Bool

module _ (l : Land) where
  -- recipes are ordered by cost and then by steps, the first dye first
  abbrev pub key_of : List ℕ → KeyView
  key_of steps = record { cost = l.cost steps; steps = steps }

  -- the key of the first comes before that of the second
  abbrev pub is_before : List ℕ → List ℕ → Bool
  is_before a b = is_lt (key_cmp (key_of a) (key_of b))

  -- the first number from `number` on that passes a test; the last argument says how many are tried
  abbrev pub first_from : (ℕ → Bool) → ℕ → ℕ → Option ℕ
  first_from test number zero = None
  first_from test number (suc more) = if test number then Some number else first_from test (number + 1) more

  -- the lowest limit that excludes a box, and the lowest light that fails on it
  abbrev pub limit_of : Span → Option ℕ
  limit_of b = first_from (λ k. l.excluded k b) 1 5

  abbrev pub light_of : Span → Option ℕ
  light_of b = first_from (λ j. l.failing j b) 1 l.lights

  -- a box is shut where a limit excludes it or a light fails on it
  abbrev pub is_shut : Span → Bool
  is_shut b = is_some (limit_of b) || is_some (light_of b)

  -- a box that is shut, or has a single recipe, is not split
  abbrev pub is_final : Span → Bool
  is_final b = is_shut b || is_single b

  -- no limit excludes the box that has only this recipe
  abbrev pub is_admitted : List ℕ → Bool
  is_admitted steps = is_none (limit_of (single steps))

  -- the result of judging a box: the lowest limit, else the lowest light, else open where it has
  -- more than one recipe, else the verdict on its recipe; a fail is then given as undecided, which
  -- does not occur in a lawful landscape
  abbrev pub judged_by : (limit light : Option ℕ) → Bool → Grade → Judged
  judged_by (Some k) light alone grade = Limit k
  judged_by None (Some j) alone grade = Fail j
  judged_by None None false grade = StillOpen
  judged_by None None true passes = Pass
  judged_by None None true fails = Undecided
  judged_by None None true unsure = Undecided

  abbrev pub judgement : Span → Judged
  judgement b = judged_by (limit_of b) (light_of b) (is_single b) (l.grade b.lo)

  -- a box of recipes of the landscape
  pub record IsSound (b : Span) : Type 0 where
    pub box : IsBox b
    pub inside : IsInside b l.top

  -- The laws of a landscape. A box that is shut has no admitted recipe that passes or is undecided;
  -- a recipe with more steps costs no less; and on the box of one admitted recipe some light fails
  -- exactly where the verdict is a fail
  pub record IsLawful : Type 0 where
    pub top : IsBox l.top
    pub dyes : HasDyes l.top
    pub small : All (λ n. n ≤ 4000) l.top.hi
    pub some_light : 1 ≤ l.lights
    pub few_lights : l.lights ≤ 4
    pub cheap : (steps : List ℕ) → IsWithin steps l.top → l.cost steps ≤ 10 ^ 15
    pub no_limit : (k : ℕ) (b : Span) → (k ≡ 0) ⊎ (5 < k) → l.excluded k b ≡ false
    pub no_light : (j : ℕ) (b : Span) → (j ≡ 0) ⊎ (l.lights < j) → l.failing j b ≡ false
    pub shut : (b : Span) → IsBox b → IsInside b l.top → is_shut b ≡ true
        → (steps : List ℕ) → IsWithin steps b → is_admitted steps ≡ true → l.grade steps ≡ fails
    pub grows : (low high : List ℕ) → IsWithin low l.top → IsWithin high l.top → IsUpTo low high → l.cost low ≤ l.cost high
    pub own : (steps : List ℕ) → IsWithin steps l.top → is_admitted steps ≡ true
        → (is_some (light_of (single steps)) ≡ true) ↔ (l.grade steps ≡ fails)
