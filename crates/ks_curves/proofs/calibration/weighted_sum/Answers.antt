use Rattle.std.proofs.Common.{◌≡◌, ◌*◌, ◌^◌, length, arith}
use Rattle.interval_specs.specs.Ends.{nothing}
use Rattle.ks_curves.specs.Calibration.{weighted_sum}
use Rattle.ks_curves.proofs.Sums.{Step, step, sum-more, sum-end, nothing-magnitude}
use Rattle.interval_specs.proofs.Additions.{nothing-sum}
use Rattle.ks_curves.proofs.calibration.weighted_sum.Given as given
use Rattle.ks_curves.proofs.calibration.weighted_sum.Goals as goal
use Rattle.ks_curves.proofs.calibration.weighted_sum.Goals.{After-weighted_addition}

stepped : (g : given.Over) (c : After-weighted_addition g) → Step g.S.Scale.unit c.args.dyeings.now c.loop-units.units-index c.loop-units.sum c.weighted_addition.result
stepped g c =
    step g.S.Scale.unit (length c.args.substrate.now) c.args.dyeings.now c.loop-units.units-index c.loop-units-item.result c.loop-units.sum c.weighted_addition.result
    g.S.Scale.most c.requires.few c.requires.dyeings c.loop-units-test.true c.loop-units-item.is c.loop-units.invariant.magnitude c.weighted_addition.ensures.range

pub loop-units-init : goal.loop-units-init
loop-units-init g c =
    let empty : c.default-sum.result ≡ nothing = c.default-sum.ensures in
    record { so_far = rw empty (nothing-sum (weighted_sum g.S.Scale.unit c.args.substrate.now c.args.wave c.args.dyeings.now)); magnitude = rw empty (nothing-magnitude (0 * (10 ^ 4 * g.S.Scale.unit))) }

pub add-sum-requires : goal.add-sum-requires
add-sum-requires g c = (stepped g c).room

pub loop-units-preserved : goal.loop-units-preserved
loop-units-preserved g c =
    let d = (goal.at.loop-units-preserved g c).After-weighted_addition in
    record {
      so_far = rw c.add-sum.ensures.is (sum-more g.S.Scale.unit c.args.substrate.now c.args.wave c.args.dyeings.now c.loop-units.units-index c.loop-units-item.result c.loop-units.sum c.weighted_addition.result _ c.loop-units-test.true c.loop-units-item.is c.weighted_addition.ensures.is c.loop-units.invariant.so_far);
      magnitude = rw c.add-sum.ensures.is (stepped g d).magnitude;
    }

pub returns-clause-is : goal.returns-clause-is
returns-clause-is g c =
    sum-end g.S.Scale.unit c.args.substrate.now c.args.wave c.args.dyeings.now c.loop-units.units-index c.loop-units.sum _ (omega arith) c.loop-units.invariant.so_far
