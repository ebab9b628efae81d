-- The order of recipes: by cost, and then by steps, from the first dye on.
use Rattle.std.specs.Prelude.{ℕ, List}
use Rattle.std.specs.Cmp.Lexicographic.{slice_cmp}
use Rattle.std.specs.Ordering.{nat_cmp, ordering_then}
use Rattle.std.specs.declared.cmp.Ordering.{Ordering}
use Rattle.price_grid.specs.declared.dye_cost.DyeCost.{DyeCost}
use Rattle.price_grid.specs.declared.order.Key.{Key}
use Rattle.price_grid.specs.Cost.{cost_of}

-- the cost of a recipe with its steps
pub record KeyView : Type 0 where
  pub cost : ℕ
  pub steps : List ℕ

-- the cheaper recipe is first, and of two with the same cost the one with fewer steps of the first
-- dye in which they differ
abbrev pub key_cmp : KeyView → KeyView → Ordering
key_cmp a b = ordering_then (nat_cmp a.cost b.cost) (slice_cmp nat_cmp a.steps b.steps)

-- the key of a recipe
abbrev pub key_of : List DyeCost → List ℕ → KeyView
key_of dyes steps = record { cost = cost_of dyes steps; steps = steps }

-- the key that a value of the code stands for
abbrev pub key_view : Key → KeyView
key_view key = record { cost = key.cost; steps = key.steps.items }
