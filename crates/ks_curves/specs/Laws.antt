-- The laws of K/S and of a dye's contribution. They hold of any reflectances, dyeings, units and
-- wavelengths.
use Rattle.std.specs.Prelude.{◌≡◌, ◌*◌, ◌≤◌, ◌≤ℤ◌, ℕ, pos}
use Rattle.interval_specs.specs.Encloses.{Encloses}
use Rattle.ks_curves.specs.KubelkaMunk.{ks_at}
use Rattle.ks_curves.specs.Dye.{DyeData}
use Rattle.ks_curves.specs.Calibration.{value_over, addition_over, contribution_range_at}

-- K/S keeps enclosing where the scale grows from n to m * n
abbrev pub KsEncloses : Type 0
KsEncloses = (n m millionths : ℕ) → Encloses m (ks_at n millionths) (ks_at (m * n) millionths)

-- ---- units

-- the value over units keeps enclosing, too
abbrev pub ValueEncloses : Type 0
ValueEncloses = (n m : ℕ) (dye : DyeData) (wave x0 x1 : ℕ) → x0 ≤ x1 → Encloses m (value_over n dye wave x0 x1) (value_over (m * n) dye wave x0 x1)

-- the value over a range of units encloses that over any range within it, and so that at each number
-- of units
abbrev pub ValueNarrows : Type 0
ValueNarrows =
    (n : ℕ) (dye : DyeData) (wave x0 x1 y0 y1 : ℕ) → x0 ≤ y0 → y0 ≤ y1 → y1 ≤ x1
    → Encloses 1 (value_over n dye wave x0 x1) (value_over n dye wave y0 y1)

-- a value is not below 0
abbrev pub ValueNotNegative : Type 0
ValueNotNegative = (n : ℕ) (dye : DyeData) (wave x0 x1 : ℕ) → pos 0 ≤ℤ (value_over n dye wave x0 x1).lo

-- ---- steps

-- a contribution keeps enclosing
abbrev pub ContributionEncloses : Type 0
ContributionEncloses =
    (n m : ℕ) (dye : DyeData) (wave n0 n1 : ℕ) → n0 ≤ n1
    → Encloses m (contribution_range_at n dye wave n0 n1) (contribution_range_at (m * n) dye wave n0 n1)

-- a contribution over a range of steps encloses that over any range within it, and so that of each
-- number of steps
abbrev pub ContributionNarrows : Type 0
ContributionNarrows =
    (n : ℕ) (dye : DyeData) (wave n0 n1 k0 k1 : ℕ) → n0 ≤ k0 → k0 ≤ k1 → k1 ≤ n1
    → Encloses 1 (contribution_range_at n dye wave n0 n1) (contribution_range_at n dye wave k0 k1)

-- a contribution is not below 0
abbrev pub ContributionNotNegative : Type 0
ContributionNotNegative = (n : ℕ) (dye : DyeData) (wave n0 n1 : ℕ) → pos 0 ≤ℤ (contribution_range_at n dye wave n0 n1).lo

-- ---- additions to a bath, in units

-- an addition keeps enclosing
abbrev pub AdditionEncloses : Type 0
AdditionEncloses =
    (n m : ℕ) (dye : DyeData) (wave bath x0 x1 : ℕ) → x0 ≤ x1
    → Encloses m (addition_over n dye wave bath x0 x1) (addition_over (m * n) dye wave bath x0 x1)

-- an addition over a range of units encloses that over any range within it onto the same bath
abbrev pub AdditionNarrows : Type 0
AdditionNarrows =
    (n : ℕ) (dye : DyeData) (wave bath x0 x1 y0 y1 : ℕ) → x0 ≤ y0 → y0 ≤ y1 → y1 ≤ x1
    → Encloses 1 (addition_over n dye wave bath x0 x1) (addition_over n dye wave bath y0 y1)

-- an addition where no dye is on the cloth is the value over its units
abbrev pub AdditionAlone : Type 0
AdditionAlone = (n : ℕ) (dye : DyeData) (wave x0 x1 : ℕ) → x0 ≤ x1 → addition_over n dye wave 0 x0 x1 ≡ value_over n dye wave x0 x1
