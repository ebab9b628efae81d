use Rattle.std.proofs.Common.{◌≡◌, ◌*◌, arith}
use Rattle.ks_curves.proofs.Sums.{square_sum-more, square_small, no_squares}
use Rattle.ks_curves.proofs.calibration.square_sum.Goals as goal

pub loop-units-init : goal.loop-units-init
loop-units-init c = record { so_far = no_squares; small = omega arith }

pub loop-units-preserved : goal.loop-units-preserved
loop-units-preserved c =
    let d = c.loop-units-item.result in
    let square : c.from.result * c.from-in-loop-units.result ≡ d.0 * d.0 = λ i. c.from.ensures i * c.from-in-loop-units.ensures i in
    let more = square_sum-more c.args.dyeings.now c.loop-units.units-index d c.loop-units-test.true c.loop-units-item.is in
    let small = square_small c.args.dyeings.now c.loop-units.units-index d c.requires.units c.loop-units-test.true c.loop-units-item.is in
    record {
      so_far = omega (arith, square, more, c.loop-units.invariant.so_far);
      small = omega (arith, square, small, c.loop-units.invariant.small);
    }
