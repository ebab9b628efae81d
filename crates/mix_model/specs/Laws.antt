-- The laws of the reflectance and of mixing.
use Rattle.std.specs.Prelude.{◌≡◌, ◌*◌, ◌^◌, ◌<◌, ◌≤◌, ◌<ℤ◌, ◌≤ℤ◌, ◌+ℤ◌, ◌*ℤ◌, ℕ, pos, false, List, All, length}
use Rattle.std.specs.List.{AllZip}
use Rattle.interval_specs.specs.Ends.{Ends}
use Rattle.interval_specs.specs.Encloses.{Encloses}
use Rattle.spectral_tables.specs.Curve.{IsCurve}
use Rattle.spectral_tables.specs.Laws.{EnclosesWaves}
use Rattle.ks_curves.specs.declared.kind.Calibration.TheVariants.{Line}
use Rattle.ks_curves.specs.Dye.{DyeData, IsDye}
use Rattle.mix_model.specs.Reflectance.{reflectance_at}
use Rattle.mix_model.specs.Base.{base_at, IsBase}
use Rattle.mix_model.specs.Mixture.{CanReflect, IsPortion, Portion, mixed_at, mixture_ks_at, portions, strengths_of}
use Rattle.mix_model.specs.Strength.{is_too_strong}
use Rattle.fix_bounds.specs.Scales.{base_unit}

-- the reflectance keeps enclosing where the scale grows from n to m * n and its K/S narrows
abbrev pub ReflectanceEncloses : Type 0
ReflectanceEncloses = (n m : ℕ) (q finer : Ends) → 0 < n → 0 < m → pos 0 ≤ℤ q.lo → Encloses m q finer → Encloses m (reflectance_at n q) (reflectance_at (m * n) finer)

-- at one scale, the reflectance over a range of K/S encloses that over any range within it
abbrev pub ReflectanceNarrows : Type 0
ReflectanceNarrows = (n : ℕ) (q narrower : Ends) → 0 < n → pos 0 ≤ℤ q.lo → Encloses 1 q narrower → Encloses 1 (reflectance_at n q) (reflectance_at n narrower)

-- the base keeps enclosing
abbrev pub BaseEncloses : Type 0
BaseEncloses = (n m : ℕ) (curve : List ℕ) → EnclosesWaves m (base_at n curve) (base_at (m * n) curve)

-- a portion within another, of the same dye onto the same bath
pub record IsWithin (wide narrow : Portion) : Type 0 where
  pub dye : narrow.dye ≡ wide.dye
  pub bath : narrow.bath ≡ wide.bath
  pub from : wide.from ≤ narrow.from
  pub ordered : narrow.from ≤ narrow.upto
  pub upto : narrow.upto ≤ wide.upto

-- a mixture keeps enclosing where the scale grows
abbrev pub MixtureEncloses : Type 0
MixtureEncloses =
    (n m : ℕ) (base finer : List Ends) (ps : List Portion) → 0 < n → 0 < m → EnclosesWaves m base finer → All (λ p. p.from ≤ p.upto) ps
    → EnclosesWaves m (mixed_at n base ps) (mixed_at (m * n) finer ps)

-- at one scale, a mixture over ranges of units encloses that over any ranges within them, and so
-- that of each recipe
abbrev pub MixtureNarrows : Type 0
MixtureNarrows =
    (n : ℕ) (base : List Ends) (wide narrow : List Portion) → 0 < n → IsBase n base → AllZip IsWithin wide narrow
    → EnclosesWaves 1 (mixed_at n base wide) (mixed_at n base narrow)

-- what lies within a mixture that is not too strong can be turned into reflectances
abbrev pub WeakReflects : Type 0
WeakReflects =
    (base : List Ends) (wide narrow : List Portion) → is_too_strong base wide ≡ false → AllZip IsWithin wide narrow
    → CanReflect base_unit (mixture_ks_at base_unit base narrow)

-- whether dyes with straight lines are too strong depends on the most steps of each alone
abbrev pub LineStrength : Type 0
LineStrength =
    (base : List Ends) (dyes : List DyeData) (bath lo other hi : List ℕ) → All (λ dye. dye.kind ≡ Line) dyes → length lo ≡ length other
    → is_too_strong base (portions dyes bath lo hi) ≡ is_too_strong base (portions dyes bath other hi)

-- the upper end of K/S at scale 10^8, as a number, is less than 1 above that at scale 10^12
abbrev pub IsNear : Ends → Ends → Type 0
IsNear quick base = (pos (10 ^ 4) *ℤ quick.hi) <ℤ (base.hi +ℤ pos base_unit)

-- the sums of a mixture on a measured curve, at scale n
abbrev pub curve_sums : ℕ → List ℕ → List Portion → List Ends
curve_sums n curve ps = mixture_ks_at n (base_at n curve) ps

-- for up to 12 dyes, with units that can be mixed, this holds at each wavelength, of the sums and of
-- q
abbrev pub QuickIsNear : Type 0
QuickIsNear =
    (curve : List ℕ) (ps : List Portion) → IsCurve curve → length ps ≤ 12 → All (λ p. IsDye p.dye) ps → All (IsPortion (length curve)) ps
    → AllZip IsNear (curve_sums (10 ^ 8) curve ps) (curve_sums base_unit curve ps)
    × AllZip IsNear (strengths_of (10 ^ 8) (curve_sums (10 ^ 8) curve ps)) (strengths_of base_unit (curve_sums base_unit curve ps))
