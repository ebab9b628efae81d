-- The boxes that wait: those of the map, and the one in hand.
use Rattle.std.specs.Prelude.{◌≡◌, ◌+◌, ◌*◌, ◌≤◌, length, ℕ, true, false, Option, Some, None, IsSome, List}
use Rattle.std.specs.Ordering.{is_gt, is_lt}
use Rattle.box_specs.specs.declared.certificate.CertLine.{CertLine}
use Rattle.box_specs.specs.Landscape.{Land}
use Rattle.box_specs.specs.Span.{Span}
use Rattle.box_specs.specs.Splits.{cut_of, lower_half, upper_half}
use Rattle.box_specs.specs.Tree.{Spot, spot_cmp, spot_of}
use Rattle.box_search.specs.State.{State, with_entry, without}
use Rattle.box_search.specs.Places.{at, place, spot}
use Rattle.box_search.specs.Nodes.{Arena, parts}
use Rattle.box_search.specs.declared.frontier.Frontier.{Frontier}
use Rattle.box_search.specs.declared.frontier.Halves.{Halves}
use Rattle.box_search.specs.declared.waiting.Waiting.{Waiting}
use Rattle.box_search.specs.Waiting.{AllHeld, WaitingBox, seen}
use Rattle.box_search.specs.declared.nodes.Node.{Node}
use Rattle.box_search.specs.declared.place.Place.{Place}

-- all boxes that wait: those of the map f, and the one in hand, if there is one
abbrev pub with_hand : {X : Type 0} → Option (Place × X) → (Spot → Option X) → Spot → Option X
with_hand None f = f
with_hand (Some hand) f = with_entry (spot hand.0) hand.1 f

-- the box in hand stands before each box of the map
abbrev pub IsAhead : {X : Type 0} → Option (Place × X) → (Spot → Option X) → Type 0
IsAhead None f = Unit {0}
IsAhead {X} (Some hand) f = (z : Spot) (b : X) → f z ≡ Some b → is_lt (spot_cmp (spot hand.0) z) ≡ true

abbrev pub waits_in : {X : Type 0} → Frontier X → Spot → Option X
waits_in frontier = with_hand frontier.hand (at frontier.map)

abbrev pub IsOrdered : {X : Type 0} → Frontier X → Type 0
IsOrdered frontier = IsAhead frontier.hand (at frontier.map)

-- a box that waits, before which none stands, and the others that wait
pub record IsFirst {X : Type 0} (f : Spot → Option X) (q : Spot) (b : X) (others : Spot → Option X) : Type 0 where
  pub waits : f q ≡ Some b
  pub least : (z : Spot) → IsSome (f z) → is_gt (spot_cmp q z) ≡ false
  pub taken : (z : Spot) → others z ≡ without q f z

-- the lower half is the next in hand
abbrev pub lower_of : {X : Type 0} → Option (Halves X) → Option (Place × X)
lower_of None = None
lower_of (Some halves) = Some halves.lower

-- the upper half joins the map
abbrev pub with_upper : {X : Type 0} → Option (Halves X) → (Spot → Option X) → Spot → Option X
with_upper None f = f
with_upper (Some halves) f = with_entry (spot halves.upper.0) halves.upper.1 f

module _ (l : Land) where
  -- a half of a box with its place and its node; the depth is that of the box, so the half is one
  -- deeper
  abbrev pub half_at : ℕ → Span → ℕ → Place × WaitingBox
  half_at depth b node = (place (spot_of l (depth + 1) b), record { part = b; node = node })

  -- the halves of a box, with nodes from this number on
  abbrev pub halves_of : ℕ → Span → ℕ → Halves WaitingBox
  halves_of depth b next = record { lower = half_at depth (lower_half b (cut_of b)) next; upper = half_at depth (upper_half b (cut_of b)) (next + 1) }

-- the invariant of the loop of the search: a box in hand stands before the map, the nodes have the
-- lines of the judged boxes, and what is held for each box that waits stands for it
pub record Going {H : Type 0} (l : Land) (stands : H → Span → Type 0) (frontier : Frontier (Waiting H)) (nodes : List Node) (n : ℕ) (matched listed : List (List ℕ)) : Type 0 where
  pub last : Option Spot
  pub g : Spot → Option CertLine
  pub state : State l (parts (seen (waits_in frontier))) g last n matched listed
  pub ordered : IsOrdered frontier
  pub arena : Arena l (seen (waits_in frontier)) g nodes
  pub held : AllHeld stands (waits_in frontier)
  pub few : length nodes ≤ 2 * n + 1
