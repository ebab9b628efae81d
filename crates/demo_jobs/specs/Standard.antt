-- The calibration of the drawn dyes, and the curve that is to be matched.
use Rattle.std.specs.Prelude.{ℕ, ◌/◌, ◌^◌, max, List, [], ◌∷◌, map, unsigned_abs}
use Rattle.interval_specs.specs.Ends.{Ends}
use Rattle.ks_curves.specs.declared.kind.Calibration.TheVariants.{Line}
use Rattle.ks_curves.specs.Dye.{Dyeing, DyeData}
use Rattle.mix_model.specs.Base.{base_at}
use Rattle.mix_model.specs.Mixture.{mixed_at, no_steps, portions}
use Rattle.demo_jobs.specs.declared.dyes.DrawnDye.{DrawnDye}
use Rattle.demo_jobs.specs.Cloths.{dyed, substrate}
use Rattle.fix_bounds.specs.Scales.{base_unit}

-- the dyeings of each dye: their numbers, and the units of dye on the cloth
abbrev pub dyeing_units : List (ℕ × ℕ)
dyeing_units = (1, 200) ∷ (2, 500) ∷ (3, 1000) ∷ (4, 2000) ∷ []

-- a dyeing with a dye, by its units: the units and its curve
abbrev pub measured : DrawnDye → ℕ → Dyeing
measured dye units = (units, dyed dye units)

-- a dye, calibrated by a straight line through its dyeings of the undyed cloth, in steps of 10 units
unfoldable pub dye_data : DrawnDye → DyeData
dye_data dye = record { kind = Line; step = 10; substrate = substrate; dyeings = map (λ d. measured dye d.1) dyeing_units }

-- the lower end of a reflectance at scale 10^12, in millionths: at least 100
abbrev pub standard_at : Ends → ℕ
standard_at reflectance = max 100 (unsigned_abs reflectance.lo / 10 ^ 6)

-- the curve of the undyed cloth dyed with these steps of each dye
unfoldable pub standard : List DrawnDye → List ℕ → List ℕ
standard dyes steps = map standard_at (mixed_at base_unit (base_at base_unit substrate) (portions (map dye_data dyes) (no_steps (map dye_data dyes)) steps steps))
