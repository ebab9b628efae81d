-- What a recipe costs, in the cost units of the prices.
use Rattle.std.specs.Prelude.{◌+◌, ◌*◌, ◌==◌, ℕ, List, if◌then◌else◌}
use Rattle.price_grid.specs.declared.dye_cost.DyeCost.{DyeCost}
use Rattle.price_grid.specs.Sums.{zip_sum}

-- what n steps of one dye cost: the price of their units, and the fee where there is any step
abbrev pub dye_cost : DyeCost → ℕ → ℕ
dye_cost dye n = n * dye.step * dye.price + (if n == 0 then 0 else dye.fee)

-- the cost of a recipe: that of all its dyes together
abbrev pub cost_of : List DyeCost → List ℕ → ℕ
cost_of dyes steps = zip_sum dye_cost dyes steps
