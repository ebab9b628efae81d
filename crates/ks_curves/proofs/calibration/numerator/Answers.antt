use Rattle.std.proofs.Common.{◌*◌, ◌^◌, pos, arith}
use Rattle.ks_curves.specs.Slope.{unit_sum}
use Rattle.interval_specs.specs.Operations.{cut_low_at}
use Rattle.interval_specs.proofs.Ranges.{carry_up_to, cut_low_up_to}
use Rattle.ks_curves.proofs.calibration.numerator.Goals as goal

pub returns-clause-range : goal.returns-clause-range
returns-clause-range g c =
    carry_up_to (unit_sum c.args.dyeings.now * (10 ^ 4 * g.S.Scale.unit)) c.cut_low.result (cut_low_at g.S.Scale.unit (pos 0) c.weighted_sum.result) c.cut_low.ensures.is
    (cut_low_up_to g.S.Scale.unit (unit_sum c.args.dyeings.now * (10 ^ 4 * g.S.Scale.unit)) 0 c.weighted_sum.result (omega arith) c.weighted_sum.ensures.range)
