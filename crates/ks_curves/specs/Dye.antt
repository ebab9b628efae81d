-- A dye, described by the cloths that were dyed with it to calibrate it.
use Rattle.std.specs.Prelude.{◌≡◌, ◌≤◌, ⊤, ℕ, eqb, List, All, length, map}
use Rattle.std.specs.List.{IsDistinct}
use Rattle.spectral_tables.specs.Curve.{IsCurve}
use Rattle.ks_curves.specs.declared.kind.Calibration.{Calibration}
use Rattle.ks_curves.specs.declared.kind.Calibration.TheVariants.{Line, Broken}

-- an amount of dye: a unit is 0.001 percent of the weight of the cloth
abbrev pub IsUnits : ℕ → Type 0
IsUnits units = (1 ≤ units) × (units ≤ 20000)

-- the units with which a cloth was dyed, and its reflectances in millionths
abbrev pub Dyeing : Type 0
Dyeing = ℕ × List ℕ

-- a dye: how it is calibrated, the units of a step of a recipe, the reflectances of the undyed
-- cloth, and its dyeings
pub record DyeData : Type 0 where
  pub kind : Calibration
  pub step : ℕ
  pub substrate : List ℕ
  pub dyeings : List Dyeing

-- a dyeing whose curve has `count` wavelengths
pub record IsDyeing (count : ℕ) (dyeing : Dyeing) : Type 0 where
  pub units : IsUnits dyeing.0
  pub waves : length dyeing.1 ≡ count

-- dyeings that a calibration can join: a broken line has one node for each number of units, so no
-- two of its dyeings have equal units
abbrev pub CanJoin : Calibration → List Dyeing → Type 0
CanJoin Line dyeings = ⊤
CanJoin Broken dyeings = IsDistinct eqb (map (λ d. d.0) dyeings)

-- the data of which a dye can be made
pub record CanCalibrate (dye : DyeData) : Type 0 where
  pub step : IsUnits dye.step
  pub some : 1 ≤ length dye.dyeings
  pub dyeings : All (IsDyeing (length dye.substrate)) dye.dyeings
  pub joins : CanJoin dye.kind dye.dyeings

-- what holds of every dye
pub record IsDye (dye : DyeData) : Type 0 where
  pub calibrates : CanCalibrate dye
  pub few : length dye.dyeings ≤ 8
  pub substrate : IsCurve dye.substrate
  pub curves : All (λ d. IsCurve d.1) dye.dyeings
