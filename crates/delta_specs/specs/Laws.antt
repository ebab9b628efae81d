-- The laws of CIE94: the values of a standard and the difference enclose those of narrower colours
-- where the scale grows from n to m * n. The colours may be of any magnitude, and the constants any
-- numbers.
use Rattle.std.specs.Prelude.{ℕ, ◌*◌, ◌^◌, ◌<◌, ◌≤◌}
use Rattle.interval_specs.specs.Encloses.{Encloses}
use Rattle.cielab_bounds.specs.Cielab.{LabEnds}
use Rattle.cielab_bounds.specs.Laws.{EnclosesLab}
use Rattle.delta_specs.specs.Cie94.{Application, Standard94Ends, cie94_at, standard_at}

-- each value of a standard encloses the finer one
pub record EnclosesStandard94 (m : ℕ) (s s' : Standard94Ends) : Type 0 where
  pub l1 : Encloses m s.l1 s'.l1
  pub a1 : Encloses m s.a1 s'.a1
  pub b1 : Encloses m s.b1 s'.b1
  pub c1 : Encloses m s.c1 s'.c1
  pub sc : Encloses m s.sc s'.sc
  pub sh : Encloses m s.sh s'.sh
  pub sh_square : Encloses m s.sh_square s'.sh_square

abbrev pub Standard94Encloses : Application → Type 0
Standard94Encloses x = (n m : ℕ) (p p' : LabEnds) → 0 < n → 0 < m → EnclosesLab m p p' → EnclosesStandard94 m (standard_at x n p) (standard_at x (m * n) p')

abbrev pub Cie94Encloses : Application → Type 0
Cie94Encloses x =
    (n m : ℕ) (p q p' q' : LabEnds) → 10 ^ 6 ≤ n → 0 < m → EnclosesLab m p p' → EnclosesLab m q q' → Encloses m (cie94_at x n p q) (cie94_at x (m * n) p' q')
