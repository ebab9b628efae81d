-- The value of a dye from what it stores.
use Rattle.std.proofs.Common.{◌≡◌, ◌∙◌, ℕ, List, sym, ap}
use Rattle.ks_curves.specs.declared.shape.Shape.{Shape}
use Rattle.ks_curves.specs.declared.shape.Shape.TheVariants.{Straight, Broken}
use Rattle.ks_curves.specs.declared.slope.Slope.{Slope}
use Rattle.ks_curves.specs.declared.broken.BrokenLine.{BrokenLine}
use Rattle.ks_curves.specs.BrokenLine.{broken_over}
use Rattle.ks_curves.specs.Calibration.{line_at, nodes_at, value_over, value_over_by}
use Rattle.ks_curves.specs.Dye.{Dyeing, DyeData}
use Rattle.ks_curves.specs.Shape.{kind_of}
use Rattle.ks_curves.specs.Slope.{line_over}

-- what is seen of a dye
abbrev pub seen : Shape → ℕ → List ℕ → List Dyeing → DyeData
seen shape step substrate dyeings = record { kind = kind_of shape; step = step; substrate = substrate; dyeings = dyeings }

module _ (n : ℕ) (shape : Shape) (step : ℕ) (substrate : List ℕ) (dyeings slice : List Dyeing) (dye : DyeData) (wave x0 x1 : ℕ) (view : seen shape step substrate dyeings ≡ dye) (same : slice ≡ dyeings) where
  by_shape : (s : Shape) → shape ≡ s → value_over_by (kind_of s) n (seen s step substrate dyeings) wave x0 x1 ≡ value_over n dye wave x0 x1
  by_shape s is = ap (λ t. value_over_by (kind_of t) n (seen t step substrate dyeings) wave x0 x1) (sym is) ∙ ap (λ d. value_over n d wave x0 x1) view

  pub straight_is : (slope : Slope) → shape ≡ Straight slope → line_over n substrate slice wave x0 x1 ≡ value_over n dye wave x0 x1
  unfolding value_over_by line_at
  straight_is slope is = ap (λ (ds : List Dyeing). line_over n substrate ds wave x0 x1) same ∙ by_shape (Straight slope) is

  pub broken_is : (line : BrokenLine) → shape ≡ Broken line → broken_over (nodes_at n substrate wave slice) x0 x1 ≡ value_over n dye wave x0 x1
  unfolding value_over_by
  broken_is line is = ap (λ (ds : List Dyeing). broken_over (nodes_at n substrate wave ds) x0 x1) same ∙ by_shape (Broken line) is
