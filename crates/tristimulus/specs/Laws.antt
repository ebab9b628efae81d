-- The laws of the ratios: they enclose those of a narrower spectrum where the scale grows from n to
-- m * n, and they lie in their range.
use Rattle.std.specs.Prelude.{◌*◌, ℕ, List, All}
use Rattle.interval_specs.specs.Ends.{Ends}
use Rattle.interval_specs.specs.Ranges.{UpTo}
use Rattle.spectral_tables.specs.Laws.{EnclosesWaves}
use Rattle.spectral_tables.specs.WeightTable.{WeightTable, IsWeightTable}
use Rattle.fix_bounds.specs.Ratios.{EnclosesRatios, RatioEnds}
use Rattle.tristimulus.specs.Ratios.{ratios_at}

-- the ratios of a spectrum at a scale n enclose those of a narrower one at each scale m * n, with
-- weights of either sign and any white
abbrev pub RatiosEnclose : Type 0
RatiosEnclose =
    (n m : ℕ) (spectrum finer : List Ends) (w : WeightTable) → EnclosesWaves m spectrum finer
    → EnclosesRatios m (ratios_at n spectrum w) (ratios_at (m * n) finer w)

-- ratios from 0 to 3 at scale n
pub record AreRatios (n : ℕ) (r : RatioEnds) : Type 0 where
  pub x : UpTo (3 * n) r.x
  pub y : UpTo (3 * n) r.y
  pub z : UpTo (3 * n) r.z

-- the ratios of reflectances from 0 to 1 are in range, under weights that satisfy the invariant
abbrev pub RatiosInRange : Type 0
RatiosInRange = (n : ℕ) (spectrum : List Ends) (w : WeightTable) → IsWeightTable w → All (UpTo n) spectrum → AreRatios n (ratios_at n spectrum w)
