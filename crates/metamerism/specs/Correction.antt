-- The correction of a sample under a light by what it has under the first one: a sample that does
-- not match the standard there is taken to another light as one that does. Its ratio under the
-- light is multiplied by the standard's ratio under the first light over its own there. The rule is
-- this project's own; it is that of a multiplicative correction of tristimulus values. The standard
-- is not corrected.
use Rattle.std.specs.Prelude.{ℕ, ◌*◌, pos, List, int_lt, if◌then◌else◌}
use Rattle.interval_specs.specs.Ends.{Ends}
use Rattle.interval_specs.specs.Operations.{cut_high_at, product_at, quotient_at}
use Rattle.fix_bounds.specs.Ratios.{RatioEnds}
use Rattle.cielab_bounds.specs.Cielab.{LabEnds, lab_at}
use Rattle.spectral_tables.specs.WeightTable.{WeightTable}
use Rattle.tristimulus.specs.Ratios.{ratios_at}

-- any ratio, at scale n: from 0 to 3
abbrev pub any_ratio : ℕ → Ends
any_ratio n = record { lo = pos 0; hi = pos (3 * n) }

-- The corrected ratio of a sample, at most 3: the sample's ratio times the standard's ratio under
-- the first light, over the sample's ratio there. Where this divisor may be 0, since its lower end
-- is, the corrected ratio may be any.
unfoldable pub corrected_ratio : ℕ → (sample standard_first sample_first : Ends) → Ends
corrected_ratio n sample standard_first sample_first =
    if int_lt (pos 0) sample_first.lo then cut_high_at n (pos 3) (quotient_at n (product_at n sample standard_first) sample_first) else any_ratio n

-- each of the three ratios, by its own divisor
abbrev pub corrected_ratios : ℕ → (sample standard_first sample_first : RatioEnds) → RatioEnds
corrected_ratios n sample standard_first sample_first = record {
  x = corrected_ratio n sample.x standard_first.x sample_first.x;
  y = corrected_ratio n sample.y standard_first.y sample_first.y;
  z = corrected_ratio n sample.z standard_first.z sample_first.z;
}

-- the corrected coordinates of a sample under the weights of a light, by the weights of the first
-- light and the ratios that the standard has there
unfoldable pub corrected_colour : (weights first : WeightTable) → (standard_first : RatioEnds) → ℕ → (sample : List Ends) → LabEnds
corrected_colour weights first standard_first n sample = lab_at n (corrected_ratios n (ratios_at n sample weights) standard_first (ratios_at n sample first))
