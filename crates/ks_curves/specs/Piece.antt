-- A piece of a broken line, as the code finds it.
use Rattle.std.specs.Prelude.{◌≡◌, ◌<◌, ◌≤◌, ℕ, List}
use Rattle.interval_specs.specs.Operations.{fraction_of}
use Rattle.ks_curves.specs.declared.piece.Piece.{Piece}
use Rattle.ks_curves.specs.declared.piece.Piece.TheVariants.{Between, Past}
use Rattle.ks_curves.specs.BrokenLine.{Node, origin, between_at, value_from}
use Rattle.ks_curves.specs.StoredNode.{node_of}

-- x units lie between nodes a and b
pub record LiesBetween (nodes : List Node) (x : ℕ) (a b : Node) : Type 0 where
  pub rising : a.units < b.units
  pub from : a.units ≤ x
  pub to : x ≤ b.units
  pub is : value_from origin nodes x ≡ between_at a b x

-- x units lie past the last node a
pub record LiesPast (nodes : List Node) (x : ℕ) (a : Node) : Type 0 where
  pub some : 0 < a.units
  pub is : value_from origin nodes x ≡ fraction_of x a.units a.value

-- x units lie on a piece of the line through nodes
abbrev pub IsPiece : List Node → ℕ → Piece → Type 0
IsPiece nodes x (Between a b) = LiesBetween nodes x (node_of a) (node_of b)
IsPiece nodes x (Past a) = LiesPast nodes x (node_of a)
