-- What a dye stores of its broken line.
use Rattle.std.specs.Prelude.{◌≡◌, ◌<◌, ◌^◌, ℕ, List, [], length, slice_index_or}
use Rattle.ks_curves.specs.declared.broken.BrokenLine.{BrokenLine}
use Rattle.ks_curves.specs.BrokenLine.{Node}
use Rattle.ks_curves.specs.Dye.{Dyeing}
use Rattle.ks_curves.specs.Calibration.{nodes_at}
use Rattle.fix_bounds.specs.Scales.{base_unit}

-- the nodes at each wavelength, at scale n
pub record KeepsNodes (n : ℕ) (substrate : List ℕ) (dyeings : List Dyeing) (kept : List (List Node)) : Type 0 where
  pub count : length kept ≡ length substrate
  pub is : (wave : ℕ) → wave < length substrate → slice_index_or kept wave [] ≡ nodes_at n substrate wave dyeings

-- the nodes at both scales
pub record KeepsLine (substrate : List ℕ) (dyeings : List Dyeing) (line : BrokenLine) : Type 0 where
  pub at_base : KeepsNodes base_unit substrate dyeings line.base.items
  pub at_quick : KeepsNodes (10 ^ 8) substrate dyeings line.quick.items
