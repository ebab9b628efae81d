-- A node of a broken line as it is stored.
use Rattle.std.specs.Prelude.{◌≡◌, ◌<◌, ◌≤ℤ◌, ⊤, ℕ, pos, List, [], ◌∷◌, All, length, slice_index_or}
use Rattle.interval_specs.specs.Ends.{Ends}
use Rattle.interval_specs.specs.Operations.{fraction_of}
use Rattle.spectral_tables.specs.Spectrum.{ends_of}
use Rattle.ks_curves.specs.declared.node.StoredNode.{StoredNode}
use Rattle.ks_curves.specs.BrokenLine.{Node}

-- the node with these stored ends
abbrev pub node_of : StoredNode → Node
node_of stored = record { units = stored.units; value = ends_of (stored.low, stored.high) }

-- the node of index i has the given units
abbrev pub HasUnits : ℕ → ℕ → List StoredNode → Type 0
HasUnits units i nodes = (i < length nodes) × ((slice_index_or nodes i (record { units = 0; low = 0; high = 0 })).units ≡ units)

-- the values over units from x0 to x1 on the line from the origin through a node: it does not fall
abbrev pub past_over : Node → ℕ → ℕ → Ends
past_over a x0 x1 = record { lo = (fraction_of x0 a.units a.value).lo; hi = (fraction_of x1 a.units a.value).hi }

-- nodes that rise from u units on
abbrev pub RiseFrom : ℕ → List Node → Type 0
RiseFrom u [] = ⊤
RiseFrom u (a ∷ nodes) = (u < a.units) × RiseFrom a.units nodes

-- neither end of the values falls from node a on
abbrev pub Climb : Node → List Node → Type 0
Climb a [] = ⊤
Climb a (b ∷ nodes) = ((a.value.lo ≤ℤ b.value.lo) × (a.value.hi ≤ℤ b.value.hi)) × Climb b nodes

-- a value in order that is not below 0
pub record IsAdded (value : Ends) : Type 0 where
  pub not_negative : pos 0 ≤ℤ value.lo
  pub ordered : value.lo ≤ℤ value.hi

-- the nodes of a dye: at least one, each beyond the one before and the origin
pub record AreNodes (nodes : List Node) : Type 0 where
  pub some : 0 < length nodes
  pub rise : RiseFrom 0 nodes
  pub added : All (λ a. IsAdded a.value) nodes
