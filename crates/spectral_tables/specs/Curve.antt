-- The reflectances of one cloth.
use Rattle.std.specs.Prelude.{◌≤◌, ℕ, List, All, length, replicate}
use Rattle.spectral_tables.specs.declared.grid.TheConstants.{MOST_WAVES}
use Rattle.spectral_tables.specs.Grid.{IsWaveCount}

-- a reflectance in millionths: 0.01 to 100 percent
abbrev pub IsReflectance : ℕ → Type 0
IsReflectance m = (100 ≤ m) × (m ≤ 1000000)

-- the invariant of a curve
pub record IsCurve (reflectances : List ℕ) : Type 0 where
  pub count : IsWaveCount (length reflectances)
  pub range : All IsReflectance reflectances

-- the curve of a cloth that reflects all light
abbrev pub full_curve : List ℕ
full_curve = replicate MOST_WAVES 1000000
