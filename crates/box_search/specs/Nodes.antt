-- The tree of judged boxes, as a list of nodes.
use Rattle.std.specs.Prelude.{◌≡◌, ◌+◌, ◌<◌, ◌++◌, ℕ, Bool, true, false, Option, Some, None, List, [], ◌∷◌, length, slice_index_or, if◌then◌else◌}
use Rattle.std.specs.List.{slice_set}
use Rattle.box_specs.specs.declared.certificate.CertLine.{CertLine}
use Rattle.box_specs.specs.declared.certificate.CertLine.TheVariants.{Dear}
use Rattle.box_specs.specs.Canonical.{IsPart, line_of, lines}
use Rattle.box_specs.specs.Landscape.{Land, is_final}
use Rattle.box_specs.specs.Splits.{cut_of, lower_half, upper_half}
use Rattle.box_specs.specs.Span.{Span}
use Rattle.box_specs.specs.Tree.{Spot, Tree, fork, leaf, root, spot_of, tree_of}
use Rattle.box_search.specs.Trees.{IsSoundTree, is_split_line}
use Rattle.box_search.specs.Waiting.{WaitingBox}
use Rattle.box_search.specs.declared.nodes.Node.{Node}

-- the node of a box that is not judged
abbrev pub blank : Node
blank = record { line = Dear; next = 0 }

abbrev pub node_at : List Node → ℕ → Node
node_at nodes i = slice_index_or nodes i blank

-- the nodes once a box is judged: its own has its line, and those of its halves are added if it is
-- split
abbrev pub with_nodes : Bool → List Node → List Node
with_nodes split nodes = if split then (nodes ++ blank ∷ []) ++ blank ∷ [] else nodes

abbrev pub write_at : ℕ → CertLine → Bool → List Node → List Node
write_at node line split nodes = slice_set (with_nodes split nodes) node (record { line = line; next = length nodes })

-- the nodes whose trees are still to be written, once the line of this node is
abbrev pub below : Node → List ℕ → List ℕ
below node rest = if is_split_line node.line then node.next ∷ (node.next + 1) ∷ rest else rest

module _ (l : Land) (nodes : List Node) (judged : ℕ → Span → Bool) where
  -- a node shows a tree: it has the line of the root, too dear where that is not judged, and the
  -- nodes of its halves show these
  abbrev pub Shows : ℕ → Tree → ℕ → Type 0
  Shows depth (leaf b) i = (i < length nodes) × ((node_at nodes i).line ≡ (if judged depth b then line_of l b else Dear))
  Shows depth (fork b lower upper) i =
      (i < length nodes) × ((node_at nodes i).line ≡ (if judged depth b then line_of l b else Dear))
      × (judged depth b ≡ true → Shows (depth + 1) lower (node_at nodes i).next × Shows (depth + 1) upper ((node_at nodes i).next + 1))

  -- the lines of the trees that nodes show, one after the other
  abbrev pub Owes : List ℕ → List CertLine → Type 0
  Owes [] xs = xs ≡ []
  Owes (i ∷ is) xs =
      (d : ℕ) × (t : Tree) × (ys : List CertLine) × IsSoundTree l t × Shows d t i × (xs ≡ lines l judged d t ++ ys) × Owes is ys

-- the boxes that wait, without the numbers of their nodes
abbrev pub part_of : Option WaitingBox → Option Span
part_of None = None
part_of (Some waiting) = Some waiting.part

abbrev pub parts : (Spot → Option WaitingBox) → Spot → Option Span
parts m z = part_of (m z)

-- How the nodes stand for the boxes, where m has those that wait and g the lines of those that are
-- judged: each of them has a node of its own, and no other box has one; the nodes of the halves of
-- a judged box follow each other
pub record Arena (l : Land) (m : Spot → Option WaitingBox) (g : Spot → Option CertLine) (nodes : List Node) : Type 0 where
  pub ix : Spot → Option ℕ
  pub top : ix (spot_of l 0 l.top) ≡ Some 0
  pub one : (z y : Spot) (i : ℕ) → ix z ≡ Some i → ix y ≡ Some i → z ≡ y
  pub there : (z : Spot) (i : ℕ) → ix z ≡ Some i → i < length nodes
  pub known : (z : Spot) → m z ≡ None → g z ≡ None → ix z ≡ None
  pub waits : (z : Spot) (w : WaitingBox) → m z ≡ Some w → (ix z ≡ Some w.node) × ((node_at nodes w.node).line ≡ Dear)
  pub kept : (z : Spot) (x : CertLine) → g z ≡ Some x → (i : ℕ) × (ix z ≡ Some i) × ((node_at nodes i).line ≡ x)
  pub links : (e : ℕ) (v : Tree) → IsPart l (tree_of l) 0 e v → is_final l (root v) ≡ false → (x : CertLine) → g (spot_of l e (root v)) ≡ Some x
      → (i : ℕ) → ix (spot_of l e (root v)) ≡ Some i
      → (ix (spot_of l (e + 1) (lower_half (root v) (cut_of (root v)))) ≡ Some (node_at nodes i).next)
      × (ix (spot_of l (e + 1) (upper_half (root v) (cut_of (root v)))) ≡ Some ((node_at nodes i).next + 1))
