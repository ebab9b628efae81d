-- The laws: the values of a standard and the difference enclose those of narrower colours where the
-- scale grows from n to m * n. The colours may be of any magnitude.
use Rattle.std.specs.Prelude.{ℕ, ◌*◌, ◌^◌, ◌<◌, ◌≤◌}
use Rattle.interval_specs.specs.Encloses.{Encloses}
use Rattle.cielab_bounds.specs.Cielab.{LabEnds}
use Rattle.cielab_bounds.specs.Laws.{EnclosesLab}
use Rattle.cmc_specs.specs.Cmc.{StandardEnds, standard_at, cmc_at}

-- each value of a standard encloses the finer one
pub record EnclosesStandard (m : ℕ) (s s' : StandardEnds) : Type 0 where
  pub l1 : Encloses m s.l1 s'.l1
  pub a1 : Encloses m s.a1 s'.a1
  pub b1 : Encloses m s.b1 s'.b1
  pub c1 : Encloses m s.c1 s'.c1
  pub sl : Encloses m s.sl s'.sl
  pub sc : Encloses m s.sc s'.sc
  pub sh : Encloses m s.sh s'.sh

abbrev pub StandardEncloses : Type 0
StandardEncloses = (n m : ℕ) (p p' : LabEnds) → 10 ^ 6 ≤ n → 0 < m → EnclosesLab m p p' → EnclosesStandard m (standard_at n p) (standard_at (m * n) p')

abbrev pub CmcEncloses : (l10 c10 : ℕ) → Type 0
CmcEncloses l10 c10 =
    (n m : ℕ) (p q p' q' : LabEnds) → 10 ^ 6 ≤ n → 0 < m → EnclosesLab m p p' → EnclosesLab m q q' → Encloses m (cmc_at l10 c10 n p q) (cmc_at l10 c10 (m * n) p' q')
