-- What a dye stores of its calibration, by its kind.
use Rattle.std.specs.Prelude.{ℕ, List}
use Rattle.ks_curves.specs.declared.kind.Calibration.{Calibration}
use Rattle.ks_curves.specs.declared.kind.Calibration.TheVariants as kind
use Rattle.ks_curves.specs.declared.shape.Shape.{Shape}
use Rattle.ks_curves.specs.declared.shape.Shape.TheVariants.{Straight, Broken}
use Rattle.ks_curves.specs.Dye.{Dyeing, DyeData, IsDye}
use Rattle.ks_curves.specs.Slope.{KeepsSlope}
use Rattle.ks_curves.specs.Nodes.{KeepsLine}

abbrev pub kind_of : Shape → Calibration
kind_of (Straight slope) = kind.Line
kind_of (Broken line) = kind.Broken

abbrev pub Keeps : List ℕ → List Dyeing → Shape → Type 0
Keeps substrate dyeings (Straight slope) = KeepsSlope substrate dyeings slope
Keeps substrate dyeings (Broken line) = KeepsLine substrate dyeings line

-- what holds of a dye and of what it stores
pub record KeepsDye (dye : DyeData) (shape : Shape) : Type 0 where
  pub is_dye : IsDye dye
  pub keeps : Keeps dye.substrate dye.dyeings shape
