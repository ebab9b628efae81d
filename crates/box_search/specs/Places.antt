-- The places of boxes, as the code keeps them.
use Rattle.std.specs.Prelude.{Option}
use Rattle.std.specs.BTreeMap.{BTreeMap, get}
use Rattle.std.specs.declared.cmp.Ordering.{Ordering}
use Rattle.box_specs.specs.Tree.{Spot, spot_cmp}
use Rattle.box_search.specs.declared.place.Place.{Place}

-- a place as the code keeps it, and back
abbrev pub place : Spot → Place
place z = record { key = record { cost = z.key.cost; steps = record { items = z.key.steps } }; depth = z.depth }

abbrev pub spot : Place → Spot
spot p = record { key = record { cost = p.key.cost; steps = p.key.steps.items }; depth = p.depth }

abbrev pub place_cmp : Place → Place → Ordering
place_cmp a b = spot_cmp (spot a) (spot b)

-- what a map has at a place
abbrev pub at : {X : Type 0} → BTreeMap Place X → Spot → Option X
at m z = get place_cmp m (place z)
