-- Boxes in two halves.
use Rattle.std.specs.Prelude.{◌≡◌, ◌+◌, Bool, if◌then◌else◌}
use Rattle.box_core.specs.declared.part.Cut.{Cut}
use Rattle.box_specs.specs.Span.{Span}
use Rattle.box_specs.specs.Splits.{CutAt, lower_half, upper_half}

-- the box is split at this cut, and the number of the dye counts from 1
pub record CutsAt (b : Span) (at : CutAt) (cut : Cut) : Type 0 where
  pub dye : cut.dye ≡ at.dye + 1
  pub mid : cut.mid ≡ at.mid
  pub left : cut.left ≡ lower_half b at
  pub right : cut.right ≡ upper_half b at

-- the upper half of a box, or the lower one
abbrev pub half_of : Bool → Span → CutAt → Span
half_of upper b at = if upper then upper_half b at else lower_half b at
