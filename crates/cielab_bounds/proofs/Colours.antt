-- Coordinates that are in range make a colour.
use Rattle.std.proofs.Common.{ℕ, ◌*◌}
use Rattle.interval_specs.specs.Ends.{Ends}
use Rattle.interval_specs.specs.Ranges.{MagnitudeUpTo}
use Rattle.cielab_bounds.specs.Formula.{IsColour}

pub colour : (n : ℕ) (l a b : Ends) → MagnitudeUpTo (1000 * n) l → MagnitudeUpTo (1000 * n) a → MagnitudeUpTo (1000 * n) b → IsColour n (record { l = l; a = a; b = b })
colour n l a b p q r = record { l = p; a = q; b = r }
