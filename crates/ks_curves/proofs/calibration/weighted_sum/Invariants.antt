use Rattle.std.proofs.Common.{◌≡◌, ◌*◌, ◌^◌, take, drop}
use Rattle.ks_curves.specs.Slope.{unit_sum}
use Rattle.interval_specs.specs.Operations.{sum_of}
use Rattle.interval_specs.specs.Ranges.{MagnitudeUpTo}
use Rattle.ks_curves.specs.Calibration.{weighted_sum}
use Rattle.ks_curves.proofs.calibration.weighted_sum.Given as goal

abbrev pub invariant-loop-units : goal.invariant-loop-units
invariant-loop-units g l = record {
  so_far : sum_of l.sum (weighted_sum g.S.Scale.unit l.substrate l.wave (drop l.units-index l.dyeings)) ≡ weighted_sum g.S.Scale.unit l.substrate l.wave l.dyeings;
  magnitude : MagnitudeUpTo (unit_sum (take l.units-index l.dyeings) * (10 ^ 4 * g.S.Scale.unit)) l.sum;
}
