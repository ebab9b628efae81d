-- The laws: f and the coordinates enclose those of narrower ratios where the scale grows from n to
-- m * n.
use Rattle.std.specs.Prelude.{ℕ, pos, ◌*◌, ◌<◌, ◌≤ℤ◌}
use Rattle.interval_specs.specs.Ends.{Ends}
use Rattle.interval_specs.specs.Encloses.{Encloses}
use Rattle.fix_bounds.specs.Ratios.{RatioEnds, EnclosesRatios}
use Rattle.cielab_bounds.specs.Cielab.{f_at, LabEnds, lab_at}

-- each coordinate encloses the finer one
pub record EnclosesLab (m : ℕ) (p q : LabEnds) : Type 0 where
  pub l : Encloses m p.l q.l
  pub a : Encloses m p.a q.a
  pub b : Encloses m p.b q.b

abbrev pub FEncloses : Type 0
FEncloses = (n m : ℕ) (t t' : Ends) → 0 < m → pos 0 ≤ℤ t.lo → Encloses m t t' → Encloses m (f_at n t) (f_at (m * n) t')

abbrev pub LabEncloses : Type 0
LabEncloses =
    (n m : ℕ) (r r' : RatioEnds) → 0 < m → pos 0 ≤ℤ r.x.lo → pos 0 ≤ℤ r.y.lo → pos 0 ≤ℤ r.z.lo
    → EnclosesRatios m r r' → EnclosesLab m (lab_at n r) (lab_at (m * n) r')
