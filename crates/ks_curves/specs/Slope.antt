-- What a dye stores of the slope of its straight line.
use Rattle.std.specs.Prelude.{◌≡◌, ◌<◌, ◌≤◌, ◌*◌, ◌^◌, ℕ, List, All, length, slice_index_or, sum_by}
use Rattle.interval_specs.specs.Ends.{Ends}
use Rattle.interval_specs.specs.Operations.{fraction_of}
use Rattle.interval_specs.specs.Ranges.{UpTo}
use Rattle.spectral_tables.specs.Spectrum.{ends_of}
use Rattle.ks_curves.specs.declared.slope.Slope.{Slope}
use Rattle.ks_curves.specs.Dye.{Dyeing, IsDyeing}
use Rattle.ks_curves.specs.Calibration.{numerator_at, square_sum}
use Rattle.fix_bounds.specs.Scales.{base_unit}

-- the sum of the units of the dyeings
abbrev pub unit_sum : List Dyeing → ℕ
unit_sum dyeings = sum_by (λ dyeing. dyeing.0) dyeings

-- dyeings of a dye: from 1 to 8, with curves of as many wavelengths as the substrate's
pub record CanFit (substrate : List ℕ) (dyeings : List Dyeing) : Type 0 where
  pub some : 1 ≤ length dyeings
  pub few : length dyeings ≤ 8
  pub each : All (IsDyeing (length substrate)) dyeings

-- the values of the straight line over units from x0 to x1
abbrev pub line_over : ℕ → List ℕ → List Dyeing → ℕ → ℕ → ℕ → Ends
line_over n substrate dyeings wave x0 x1 =
    record {
      lo = (fraction_of x0 (square_sum dyeings) (numerator_at n substrate wave dyeings)).lo;
      hi = (fraction_of x1 (square_sum dyeings) (numerator_at n substrate wave dyeings)).hi;
    }

-- the ends of the numerator at each wavelength, at scale n
pub record KeepsNumerators (n : ℕ) (substrate : List ℕ) (dyeings : List Dyeing) (kept : List (ℕ × ℕ)) : Type 0 where
  pub count : length kept ≡ length substrate
  pub is : (wave : ℕ) → wave < length substrate → ends_of (slice_index_or kept wave (0, 0)) ≡ numerator_at n substrate wave dyeings
  pub range : (wave : ℕ) → wave < length substrate → UpTo (unit_sum dyeings * (10 ^ 4 * n)) (ends_of (slice_index_or kept wave (0, 0)))

-- the denominator, and the numerators at both scales
pub record KeepsSlope (substrate : List ℕ) (dyeings : List Dyeing) (slope : Slope) : Type 0 where
  pub denominator_is : slope.square_sum ≡ square_sum dyeings
  pub at_base : KeepsNumerators base_unit substrate dyeings slope.base.items
  pub at_quick : KeepsNumerators (10 ^ 8) substrate dyeings slope.quick.items
