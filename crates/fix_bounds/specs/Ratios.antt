-- The tristimulus ratios as their intervals, which is all that contracts see of them.
use Rattle.std.specs.Prelude.{ℕ}
use Rattle.interval_specs.specs.Ends.{Ends}
use Rattle.interval_specs.specs.Encloses.{Encloses}
use Rattle.fix_bounds.specs.declared.ratios.Ratios.{Ratios}
use Rattle.fix_bounds.specs.declared.scale.Scale.{Ghosts}

-- X/Xn, Y/Yn and Z/Zn
pub record RatioEnds : Type 0 where
  pub x : Ends
  pub y : Ends
  pub z : Ends

-- the intervals of a value of the code
abbrev pub ratio_ends : {S : Type 0} {g : Ghosts S} → Ratios S g → RatioEnds
ratio_ends r = record { x = r.x; y = r.y; z = r.z }

-- each ratio encloses the finer one
pub record EnclosesRatios (m : ℕ) (a b : RatioEnds) : Type 0 where
  pub x : Encloses m a.x b.x
  pub y : Encloses m a.y b.y
  pub z : Encloses m a.z b.z
