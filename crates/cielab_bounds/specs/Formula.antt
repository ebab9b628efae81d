-- The law that every colour difference must obey: narrower colours at a finer scale have an
-- interval within the coarse one.
use Rattle.std.specs.Prelude.{ℕ, ◌*◌, ◌^◌, ◌<◌, ◌≤◌}
use Rattle.interval_specs.specs.Ends.{Ends}
use Rattle.interval_specs.specs.Ranges.{MagnitudeUpTo}
use Rattle.interval_specs.specs.Encloses.{Encloses}
use Rattle.cielab_bounds.specs.Cielab.{LabEnds}
use Rattle.cielab_bounds.specs.Laws.{EnclosesLab}

-- a colour at scale n: each coordinate is at most 1000 in magnitude
pub record IsColour (n : ℕ) (p : LabEnds) : Type 0 where
  pub l : MagnitudeUpTo (1000 * n) p.l
  pub a : MagnitudeUpTo (1000 * n) p.a
  pub b : MagnitudeUpTo (1000 * n) p.b

-- the value of a standard and a sample, in this order, encloses that of narrower colours where the
-- scale grows from n to m * n
abbrev pub KeepsEnclosing : (ℕ → LabEnds → LabEnds → Ends) → Type 0
KeepsEnclosing value =
    (n m : ℕ) (p q p' q' : LabEnds) → 10 ^ 6 ≤ n → 0 < m → IsColour n p → IsColour n q → IsColour (m * n) p' → IsColour (m * n) q'
    → EnclosesLab m p p' → EnclosesLab m q q' → Encloses m (value n p q) (value (m * n) p' q')
