use Rattle.std.proofs.Common.{◌≡◌, ◌*◌, take, drop}
use Rattle.interval_specs.specs.Operations.{sum_of}
use Rattle.interval_specs.specs.Ranges.{MagnitudeUpTo}
use Rattle.spectral_tables.specs.WeightTable.{magnitude_sum}
use Rattle.tristimulus.specs.Ratios.{weighted_sum}
use Rattle.tristimulus.proofs.white_ratios.weighted_sum.Given as goal

abbrev pub invariant-loop-wave : goal.invariant-loop-wave
invariant-loop-wave g l = record {
  so_far : sum_of l.sum (weighted_sum l.column (drop l.wave l.weights.weights) (drop l.wave l.sample)) ≡ weighted_sum l.column l.weights.weights l.sample;
  magnitude : MagnitudeUpTo (magnitude_sum l.column (take l.wave l.weights.weights) * g.S.Scale.unit) l.sum;
}
