-- Boxes that wait for their lines: what is held for them, and the boxes without it.
use Rattle.std.specs.Prelude.{Option, Some, None, List, map}
use Rattle.std.specs.List.{AllByRecursion}
use Rattle.box_specs.specs.Span.{Span}
use Rattle.box_core.specs.declared.carried.Carried.{Carried}

module _ {H : Type 0} where
  -- the boxes without what is held for them
  abbrev pub boxes : List (Carried H) → List Span
  boxes waiting = map (λ carried. carried.part) waiting

  abbrev pub both_boxes : Option (Carried H × Carried H) → Option (Span × Span)
  both_boxes None = None
  both_boxes (Some halves) = Some (halves.0.part, halves.1.part)

  module _ (stands : H → Span → Type 0) where
    -- what is held stands for the box
    abbrev pub IsHeld : Carried H → Type 0
    IsHeld carried = stands carried.held carried.part

    abbrev pub AllHeld : List (Carried H) → Type 0
    AllHeld waiting = AllByRecursion IsHeld waiting

    abbrev pub HalvesAreHeld : Option (Carried H × Carried H) → Type 0
    HalvesAreHeld None = Unit {0}
    HalvesAreHeld (Some halves) = IsHeld halves.0 × IsHeld halves.1
