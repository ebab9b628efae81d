use Rattle.std.proofs.Common.{◌≡◌, ◌*◌, ◌^◌, ◌<◌, ℕ, length, get_or}
use Rattle.interval_specs.specs.Ranges.{UpTo}
use Rattle.spectral_tables.specs.Spectrum.{ends_of}
use Rattle.ks_curves.specs.Calibration.{numerator_at}
use Rattle.ks_curves.specs.Slope.{unit_sum}
use Rattle.ks_curves.proofs.slope.numerators.Given as goal

abbrev pub invariant-loop-wave : goal.invariant-loop-wave
invariant-loop-wave g l = record {
  count : length l.kept.items ≡ l.wave;
  is : (k : ℕ) → k < l.wave → ends_of (get_or l.kept.items k (0, 0)) ≡ numerator_at g.S.Scale.unit l.substrate k l.dyeings;
  range : (k : ℕ) → k < l.wave → UpTo (unit_sum l.dyeings * (10 ^ 4 * g.S.Scale.unit)) (ends_of (get_or l.kept.items k (0, 0)));
}
