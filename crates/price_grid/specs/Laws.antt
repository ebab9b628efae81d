-- The laws of costs, keys and limits.
use Rattle.std.specs.Prelude.{◌≡◌, ◌≤◌, ℕ, List, true}
use Rattle.std.specs.Cmp.{IsTotalOrder}
use Rattle.std.specs.declared.cmp.Ordering.TheVariants.{Equal}
use Rattle.price_grid.specs.declared.dye_cost.DyeCost.{DyeCost}
use Rattle.price_grid.specs.declared.limit.Limit.{Limit}
use Rattle.price_grid.specs.Cost.{cost_of}
use Rattle.price_grid.specs.Grid.{IsUpTo}
use Rattle.price_grid.specs.Limits.{LimitsView, breaks, excludes_box}
use Rattle.price_grid.specs.Order.{key_cmp, key_of}

-- a recipe with at least as many steps of each dye costs no less
abbrev pub CostGrows : Type 0
CostGrows = (dyes : List DyeCost) (low high : List ℕ) → IsUpTo low high → cost_of dyes low ≤ cost_of dyes high

-- the order of keys is total
abbrev pub KeysAreOrdered : Type 0
KeysAreOrdered = IsTotalOrder key_cmp

-- different recipes have different keys
abbrev pub KeysDiffer : Type 0
KeysDiffer = (dyes : List DyeCost) (a b : List ℕ) → key_cmp (key_of dyes a) (key_of dyes b) ≡ Equal → a ≡ b

-- a limit that excludes a box is broken by each recipe in it
abbrev pub ExcludedIsBroken : Type 0
ExcludedIsBroken =
    (dyes : List DyeCost) (limits : LimitsView) (limit : Limit) (low steps high : List ℕ) → IsUpTo low steps → IsUpTo steps high
    → excludes_box dyes limits limit low high ≡ true → breaks dyes limits limit steps ≡ true

-- a limit excludes the box of one recipe exactly where that recipe breaks it
abbrev pub SingleIsBroken : Type 0
SingleIsBroken =
    (dyes : List DyeCost) (limits : LimitsView) (limit : Limit) (steps : List ℕ) → excludes_box dyes limits limit steps steps ≡ breaks dyes limits limit steps
