use Rattle.std.proofs.Common.{◌≡◌, ◌*◌, ◌≤◌, ◌^◌, take}
use Rattle.ks_curves.specs.Calibration.{square_sum}
use Rattle.ks_curves.proofs.calibration.square_sum.Given as goal

abbrev pub invariant-loop-units : goal.invariant-loop-units
invariant-loop-units l = record {
  so_far : l.sum ≡ square_sum (take l.units-index l.dyeings);
  small : l.sum ≤ 4 * 10 ^ 8 * l.units-index;
}
