-- One contribution in place of another, in a sum.
use Rattle.std.specs.Prelude.{◌+◌, ◌*◌, ◌<◌, ◌≤◌, ◌+ℤ◌, ◌-ℤ◌, ℕ, length}
use Rattle.interval_specs.specs.Ends.{Ends}
use Rattle.interval_specs.specs.Encloses.{Encloses}
use Rattle.ks_curves.specs.Calibration.{addition_range_at}
use Rattle.ks_curves.specs.Dye.{DyeData}

-- the sum with the ends of the old contribution taken away and those of the new one added
unfoldable pub replaced : (sum old new : Ends) → Ends
replaced sum old new = record { lo = (sum.lo -ℤ old.lo) +ℤ new.lo; hi = (sum.hi -ℤ old.hi) +ℤ new.hi }

-- the sum at a wavelength with a new range of steps of a dye in place of an old one
abbrev pub narrowed_at : ℕ → Ends → DyeData → (wave bath : ℕ) → (old new : ℕ × ℕ) → Ends
narrowed_at n sum dye wave bath old new = replaced sum (addition_range_at n dye wave bath old.0 old.1) (addition_range_at n dye wave bath new.0 new.1)

-- a range of steps of a dye can be added to a bath
pub record IsAddition (dye : DyeData) (bath : ℕ) (range : ℕ × ℕ) : Type 0 where
  pub ordered : range.0 ≤ range.1
  pub units : (bath + range.1) * dye.step ≤ 40000

-- both ranges can be added, and the sum with the new one lies within that with the old one
pub record CanNarrow (n : ℕ) (sum : Ends) (dye : DyeData) (wave bath : ℕ) (old new : ℕ × ℕ) : Type 0 where
  pub waves : wave < length dye.substrate
  pub old_adds : IsAddition dye bath old
  pub new_adds : IsAddition dye bath new
  pub within : Encloses 1 sum (narrowed_at n sum dye wave bath old new)
