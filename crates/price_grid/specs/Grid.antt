-- The grid of recipes.
use Rattle.std.specs.Prelude.{◌≤◌, ◌*◌, ◌^◌, ℕ, List, length, All}
use Rattle.std.specs.List.{AllZip}
use Rattle.price_grid.specs.declared.dye_cost.DyeCost.{DyeCost}

-- the ranges of a dye's numbers. Its steps together weigh at most 20,000 units, a fifth of the
-- cloth
pub record IsDyeCost (dye : DyeCost) : Type 0 where
  pub some_step : 1 ≤ dye.step
  pub small_step : dye.step ≤ 20000
  pub some_least : 1 ≤ dye.least
  pub small_least : dye.least ≤ 4000
  pub some_most : 1 ≤ dye.most
  pub small_most : dye.most ≤ 4000
  pub small_price : dye.price ≤ 1000000
  pub small_fee : dye.fee ≤ 10 ^ 12
  pub narrow : dye.step * dye.most ≤ 20000

-- the invariant of a grid
pub record IsGrid (dyes : List DyeCost) : Type 0 where
  pub some : 1 ≤ length dyes
  pub few : length dyes ≤ 12
  pub ranges : All IsDyeCost dyes

-- a recipe of the grid: for each dye a number of steps up to the most of the dye
abbrev pub IsRecipe : List DyeCost → List ℕ → Type 0
IsRecipe dyes steps = AllZip (λ dye n. n ≤ dye.most) dyes steps

-- each dye has at least as many steps in the second list as in the first
abbrev pub IsUpTo : List ℕ → List ℕ → Type 0
IsUpTo low high = AllZip (λ l h. l ≤ h) low high
