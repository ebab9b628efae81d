-- The limits of a job, and which recipes and boxes of recipes break them.
use Rattle.std.specs.Prelude.{◌≢◌, ◌≤◌, ◌+◌, ◌*◌, ◌-◌, ◌==◌, ◌&&◌, ◌||◌, ℕ, Bool, false, nat_lt, Option, Some, None, Result, Ok, Err, List, [], ◌∷◌, length, All, slice_index, if◌then◌else◌}
use Rattle.std.specs.List.{count_by, list_any}
use Rattle.price_grid.specs.declared.dye_cost.DyeCost.{DyeCost}
use Rattle.price_grid.specs.declared.limit.Limit.{Limit}
use Rattle.price_grid.specs.declared.limit.LimitNo.{LimitNo}
use Rattle.price_grid.specs.declared.limits.Limits.{Limits}
use Rattle.price_grid.specs.declared.limit.Limit.TheVariants.{Range, Count, Total, Pair, Ceiling}
use Rattle.price_grid.specs.Cost.{cost_of}
use Rattle.price_grid.specs.Grid.{IsRecipe}
use Rattle.price_grid.specs.Sums.{zip_sum}

-- the limits of a job: the most dyes, the most units of all dyes together, the highest cost, if
-- there is a ceiling, and the pairs of dyes that a recipe may not have together, each dye by its
-- number from 1; and the steps already in the bath
pub record LimitsView : Type 0 where
  pub max_dyes : ℕ
  pub max_total : ℕ
  pub max_cost : Option ℕ
  pub pairs : List (ℕ × ℕ)
  pub bath : List ℕ

-- this is the number of a dye, counted from 1
abbrev pub IsDyeNumber : List DyeCost → ℕ → Type 0
IsDyeNumber dyes number = (1 ≤ number) × (number ≤ length dyes)

-- a pair names two different dyes of the grid
abbrev pub IsPair : List DyeCost → ℕ × ℕ → Type 0
IsPair dyes pair = IsDyeNumber dyes pair.0 × IsDyeNumber dyes pair.1 × (pair.0 ≢ pair.1)

-- limits that fit a grid: the bath is one of its recipes, and the pairs are of its dyes
pub record FitGrid (dyes : List DyeCost) (limits : LimitsView) : Type 0 where
  pub bath : IsRecipe dyes limits.bath
  pub pairs : All (IsPair dyes) limits.pairs

-- the steps of a recipe plus those in the bath
abbrev pub with_bath : List ℕ → List ℕ → List ℕ
with_bath [] steps = []
with_bath (b ∷ bath) [] = []
with_bath (b ∷ bath) (n ∷ steps) = (b + n) ∷ with_bath bath steps

-- all numbers of steps from low to high are above the most steps of the dye, or all are above 0 and
-- below its fewest
abbrev pub is_outside : DyeCost → ℕ → ℕ → Bool
is_outside dye low high = nat_lt dye.most low || (nat_lt 0 low && nat_lt high dye.least)

-- some dye is above its most steps for all its numbers of steps from low to high, or is used with
-- fewer than its least for all of them
abbrev pub any_outside : List DyeCost → (low high : List ℕ) → Bool
any_outside [] low high = false
any_outside (dye ∷ dyes) [] high = false
any_outside (dye ∷ dyes) (l ∷ low) [] = false
any_outside (dye ∷ dyes) (l ∷ low) (h ∷ high) = is_outside dye l h || any_outside dyes low high

-- how many dyes have any steps
abbrev pub dyes_used : List ℕ → ℕ
dyes_used steps = count_by (λ n. nat_lt 0 n) steps

-- the units of all dyes together
abbrev pub units_of : List DyeCost → List ℕ → ℕ
units_of dyes steps = zip_sum (λ dye n. n * dye.step) dyes steps

-- there are steps of both dyes of the pair
abbrev pub has_both : List ℕ → ℕ × ℕ → Bool
has_both steps pair = nat_lt 0 (slice_index steps (pair.0 - 1)) && nat_lt 0 (slice_index steps (pair.1 - 1))

-- the cost is above the ceiling, if there is one
abbrev pub is_above : Option ℕ → ℕ → Bool
is_above None cost = false
is_above (Some most) cost = nat_lt most cost

-- whether a recipe breaks a limit. The range, the count, the total and the pairs are judged on the
-- recipe plus the bath, the cost on the recipe alone
abbrev pub breaks : List DyeCost → LimitsView → Limit → List ℕ → Bool
breaks dyes limits Range steps = any_outside dyes (with_bath limits.bath steps) (with_bath limits.bath steps)
breaks dyes limits Count steps = nat_lt limits.max_dyes (dyes_used (with_bath limits.bath steps))
breaks dyes limits Total steps = nat_lt limits.max_total (units_of dyes (with_bath limits.bath steps))
breaks dyes limits Pair steps = list_any (has_both (with_bath limits.bath steps)) limits.pairs
breaks dyes limits Ceiling steps = is_above limits.max_cost (cost_of dyes steps)

-- whether a limit excludes all recipes of the box from low to high: the range does where it is
-- broken in one way throughout (see `is_outside`), and each other limit where the lowest recipe of
-- the box breaks it
abbrev pub excludes_box : List DyeCost → LimitsView → Limit → (low high : List ℕ) → Bool
excludes_box dyes limits Range low high = any_outside dyes (with_bath limits.bath low) (with_bath limits.bath high)
excludes_box dyes limits Count low high = breaks dyes limits Count low
excludes_box dyes limits Total low high = breaks dyes limits Total low
excludes_box dyes limits Pair low high = breaks dyes limits Pair low
excludes_box dyes limits Ceiling low high = breaks dyes limits Ceiling low

-- the number of the first limit that satisfies the test
abbrev pub first_limit : (Limit → Bool) → Option ℕ
first_limit test =
    if test Range then Some 1
    else (if test Count then Some 2
    else (if test Total then Some 3
    else (if test Pair then Some 4
    else (if test Ceiling then Some 5
    else None))))

-- the limit of this number satisfies the test. There is no limit with a number outside 1 to 5
abbrev pub limit_passes : (Limit → Bool) → ℕ → Bool
limit_passes test number =
    if number == 1 then test Range
    else (if number == 2 then test Count
    else (if number == 3 then test Total
    else (if number == 4 then test Pair
    else (if number == 5 then test Ceiling
    else false))))

-- the lowest limit that a recipe breaks, if it breaks any: a recipe that breaks none is admitted
abbrev pub broken_limit : List DyeCost → LimitsView → List ℕ → Option ℕ
broken_limit dyes limits steps = first_limit (λ limit. breaks dyes limits limit steps)

-- the limit of this number excludes the box from low to high
abbrev pub is_excluded : List DyeCost → LimitsView → ℕ → (low high : List ℕ) → Bool
is_excluded dyes limits number low high = limit_passes (λ limit. excludes_box dyes limits limit low high) number

-- the limits that a value of the code stands for
abbrev pub limits_view : Limits → LimitsView
limits_view l = record { max_dyes = l.max_dyes; max_total = l.max_total; max_cost = l.max_cost; pairs = l.pairs.items; bath = l.bath.items }

-- the answer to a recipe: it is admitted, or this is the lowest limit that it breaks
abbrev pub admission : Option ℕ → Result Unit LimitNo
admission None = Ok tt
admission (Some number) = Err (record { 0 = number })
