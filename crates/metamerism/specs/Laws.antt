-- The laws of differences and verdicts.
use Rattle.std.specs.Prelude.{◌≡◌, ◌*◌, ◌^◌, ◌<◌, ◌≤◌, ℕ, pos, ◌≤ℤ◌, Option, List, All, length}
use Rattle.interval_specs.specs.Ends.{Ends, IsOrdered}
use Rattle.interval_specs.specs.Encloses.{Encloses}
use Rattle.interval_specs.specs.Ranges.{UpTo}
use Rattle.cielab_bounds.specs.Cielab.{LabEnds}
use Rattle.cielab_bounds.specs.Formula.{IsColour}
use Rattle.spectral_tables.specs.Laws.{EnclosesWaves}
use Rattle.spectral_tables.specs.WeightTable.{IsWeightTable, WeightTable}
use Rattle.fix_bounds.specs.Ratios.{EnclosesRatios, RatioEnds}
use Rattle.tristimulus.specs.Laws.{AreRatios}
use Rattle.metamerism.specs.Correction.{corrected_ratios}
use Rattle.metamerism.specs.Difference.{colour_under, light_difference}
use Rattle.metamerism.specs.Verdicts.{VerdictHolds, light_verdict, verdict_at}
use Rattle.metamerism.specs.declared.outcomes.Verdict.TheVariants.{Fail, Pass}

-- the coordinates of the colour of reflectances from 0 to 1 are at most 1000 in magnitude, under
-- any weights that a file may have
abbrev pub ColourInRange : Type 0
ColourInRange = (n : ℕ) (weights : WeightTable) (spectrum : List Ends) → IsWeightTable weights → All (UpTo n) spectrum → IsColour n (colour_under weights n spectrum)

-- no number of the interval is below 0, and its ends are in order
pub record IsAtLeast0 (a : Ends) : Type 0 where
  pub low : pos 0 ≤ℤ a.lo
  pub ordered : IsOrdered a

-- no ratio is below 0, and the ends of each are in order
pub record AreAtLeast0 (r : RatioEnds) : Type 0 where
  pub x : IsAtLeast0 r.x
  pub y : IsAtLeast0 r.y
  pub z : IsAtLeast0 r.z

-- corrected ratios lie from 0 to 3
abbrev pub CorrectedInRange : Type 0
CorrectedInRange =
    (n : ℕ) (sample standard_first sample_first : RatioEnds) → 0 < n → AreAtLeast0 sample → AreAtLeast0 standard_first → AreAtLeast0 sample_first
    → AreRatios n (corrected_ratios n sample standard_first sample_first)

-- corrected ratios enclose those of narrower ratios where the scale grows from n to m * n, and so,
-- at m = 1, where the ratios narrow at one scale
abbrev pub CorrectedEnclose : Type 0
CorrectedEnclose =
    (n m : ℕ) (a b c a' b' c' : RatioEnds) → 0 < n → 0 < m → AreAtLeast0 a → AreAtLeast0 b → AreAtLeast0 c
    → EnclosesRatios m a a' → EnclosesRatios m b b' → EnclosesRatios m c c'
    → EnclosesRatios m (corrected_ratios n a b c) (corrected_ratios (m * n) a' b' c')

-- from scale n = 10^6 on, the difference by a formula's value encloses the one at scale m * n of
-- two spectra that these enclose, whether samples are corrected by a first light or not
abbrev pub EnclosesFiner : (ℕ → LabEnds → LabEnds → Ends) → Type 0
EnclosesFiner value =
    (first : Option WeightTable) (n m : ℕ) (weights : WeightTable) (standard sample standard' sample' : List Ends) → 10 ^ 6 ≤ n → 0 < m → IsWeightTable weights
    → All (UpTo n) standard → All (UpTo n) sample → All (UpTo (m * n)) standard' → All (UpTo (m * n)) sample'
    → EnclosesWaves m standard standard' → EnclosesWaves m sample sample'
    → Encloses m (light_difference value first weights n standard sample) (light_difference value first weights (m * n) standard' sample')

-- the same where both spectra narrow at one scale
abbrev pub EnclosesNarrower : (ℕ → LabEnds → LabEnds → Ends) → Type 0
EnclosesNarrower value =
    (first : Option WeightTable) (n : ℕ) (weights : WeightTable) (standard sample standard' sample' : List Ends) → 10 ^ 6 ≤ n → IsWeightTable weights
    → All (UpTo n) standard → All (UpTo n) sample → All (UpTo n) standard' → All (UpTo n) sample'
    → EnclosesWaves 1 standard standard' → EnclosesWaves 1 sample sample'
    → Encloses 1 (light_difference value first weights n standard sample) (light_difference value first weights n standard' sample')

-- the differences of samples under a light at scale n, from a standard that encloses a finer one,
-- enclose those at every finer scale of the samples that they enclose
abbrev pub LightEnclosesFiner : (ℕ → LabEnds → LabEnds → Ends) → (first : Option WeightTable) → WeightTable → ℕ → (standard : List Ends) → (delta : List Ends → Ends) → Type 0
LightEnclosesFiner value first weights n standard delta =
    (m : ℕ) (sample standard' sample' : List Ends) → 0 < m → All (UpTo n) sample → All (UpTo (m * n)) standard' → All (UpTo (m * n)) sample'
    → EnclosesWaves m standard standard' → EnclosesWaves m sample sample' → Encloses m (delta sample) (light_difference value first weights (m * n) standard' sample')

-- they enclose those of narrower samples at the same scale
abbrev pub LightEnclosesNarrower : ℕ → (delta : List Ends → Ends) → Type 0
LightEnclosesNarrower n delta = (sample sample' : List Ends) → All (UpTo n) sample → All (UpTo n) sample' → EnclosesWaves 1 sample sample' → Encloses 1 (delta sample) (delta sample')

-- the meaning of the verdict holds, for as many differences as lights, each with its ends in order
abbrev pub VerdictIsTrue : Type 0
VerdictIsTrue = (n : ℕ) (tolerances : List ℕ) (deltas : List Ends) → length tolerances ≡ length deltas → All IsOrdered deltas → VerdictHolds n tolerances deltas (verdict_at n tolerances deltas)

-- a pass or a fail of a light stays one where the scale grows from n to m * n and the difference
-- narrows
abbrev pub VerdictStays : Type 0
VerdictStays =
    (n m tolerance number : ℕ) (delta finer : Ends) → 0 < m → Encloses m delta finer
    → (light_verdict n tolerance number delta ≡ Pass → light_verdict (m * n) tolerance number finer ≡ Pass)
    × (light_verdict n tolerance number delta ≡ Fail number → light_verdict (m * n) tolerance number finer ≡ Fail number)
