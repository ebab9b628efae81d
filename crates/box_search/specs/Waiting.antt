-- Boxes that wait: what is held for them, and the boxes without it.
use Rattle.std.specs.Prelude.{◌≡◌, ℕ, Option, Some, None}
use Rattle.box_specs.specs.Span.{Span}
use Rattle.box_specs.specs.Tree.{Spot}
use Rattle.box_search.specs.declared.frontier.Halves.{Halves}
use Rattle.box_search.specs.declared.place.Place.{Place}
use Rattle.box_search.specs.declared.waiting.Waiting.{Waiting}

-- a box that waits, and the index of its node
pub record WaitingBox : Type 0 where
  pub part : Span
  pub node : ℕ

module _ {H : Type 0} where
  -- what waits, without what is held for it
  abbrev pub box_of : Waiting H → WaitingBox
  box_of waiting = record { part = waiting.carried.part; node = waiting.node }

  abbrev pub seen_box : Option (Waiting H) → Option WaitingBox
  seen_box None = None
  seen_box (Some waiting) = Some (box_of waiting)

  abbrev pub seen : (Spot → Option (Waiting H)) → Spot → Option WaitingBox
  seen m z = seen_box (m z)

  abbrev pub seen_hand : Option (Place × Waiting H) → Option (Place × WaitingBox)
  seen_hand None = None
  seen_hand (Some hand) = Some (hand.0, box_of hand.1)

  abbrev pub seen_halves : Halves (Waiting H) → Halves WaitingBox
  seen_halves halves = record { lower = (halves.lower.0, box_of halves.lower.1); upper = (halves.upper.0, box_of halves.upper.1) }

  abbrev pub seen_cut : Option (Halves (Waiting H)) → Option (Halves WaitingBox)
  seen_cut None = None
  seen_cut (Some halves) = Some (seen_halves halves)

  module _ (stands : H → Span → Type 0) where
    -- what is held stands for the box
    abbrev pub IsHeld : Waiting H → Type 0
    IsHeld waiting = stands waiting.carried.held waiting.carried.part

    abbrev pub AllHeld : (Spot → Option (Waiting H)) → Type 0
    AllHeld m = (z : Spot) (waiting : Waiting H) → m z ≡ Some waiting → IsHeld waiting

    abbrev pub AreHeld : Halves (Waiting H) → Type 0
    AreHeld halves = IsHeld halves.lower.1 × IsHeld halves.upper.1

    abbrev pub HalvesAreHeld : Option (Halves (Waiting H)) → Type 0
    HalvesAreHeld None = Unit {0}
    HalvesAreHeld (Some halves) = AreHeld halves
