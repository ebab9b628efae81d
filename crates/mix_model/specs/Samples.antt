-- A dye for the tests.
use Rattle.std.specs.Prelude.{[], ◌∷◌, replicate}
use Rattle.ks_curves.specs.declared.kind.Calibration.TheVariants.{Line}
use Rattle.ks_curves.specs.Dye.{DyeData}

-- a dye of one dyeing
unfoldable pub rust : DyeData
rust = record { kind = Line; step = 10; substrate = replicate 31 500000; dyeings = (1000, replicate 31 300000) ∷ [] }
