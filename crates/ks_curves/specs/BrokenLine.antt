-- A broken line that joins the origin and nodes in rising order of their units. Past the last node
-- it goes on along the straight line from the origin through that node.
use Rattle.std.specs.Prelude.{ℕ, ◌-◌, ◌+ℤ◌, ◌*ℤ◌, pos, List, [], ◌∷◌, nat_le, nat_lt, ◌&&◌, if◌then◌else◌}
use Rattle.interval_specs.specs.Ends.{Ends, nothing}
use Rattle.interval_specs.specs.Operations.{fraction_of, hull_of}
use Rattle.interval_specs.specs.Rounding.{floor_over, ceil_over}

-- an amount of dye, and what it adds to K/S
pub record Node : Type 0 where
  pub units : ℕ
  pub value : Ends

-- no dye adds nothing
abbrev pub origin : Node
origin = record { units = 0; value = nothing }

-- the value at x units between two nodes, a before b: their mean, each weighted by the distance of
-- the other
abbrev pub between_at : Node → Node → ℕ → Ends
between_at a b x =
    record {
      lo = floor_over (a.value.lo *ℤ pos (b.units - x) +ℤ b.value.lo *ℤ pos (x - a.units)) (b.units - a.units);
      hi = ceil_over (a.value.hi *ℤ pos (b.units - x) +ℤ b.value.hi *ℤ pos (x - a.units)) (b.units - a.units);
    }

-- the value at x units, not below those of node a, on the line that goes on from a over `nodes`
unfoldable pub value_from : Node → List Node → ℕ → Ends
value_from a [] x = fraction_of x a.units a.value
value_from a (b ∷ nodes) x = if nat_le b.units x then value_from b nodes x else between_at a b x

-- the least interval that holds `ends` and the values of the nodes strictly between x0 and x1
unfoldable pub widened : ℕ → ℕ → Ends → List Node → Ends
widened x0 x1 ends [] = ends
widened x0 x1 ends (a ∷ nodes) = widened x0 x1 (if nat_lt x0 a.units && nat_lt a.units x1 then hull_of ends a.value else ends) nodes

-- the values over units from x0 to x1: those at both and at each node strictly between
unfoldable pub broken_over : List Node → ℕ → ℕ → Ends
broken_over nodes x0 x1 = widened x0 x1 (hull_of (value_from origin nodes x0) (value_from origin nodes x1)) nodes
