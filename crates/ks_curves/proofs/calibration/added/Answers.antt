use Rattle.std.proofs.Common.{◌*◌, ◌^◌}
use Rattle.interval_specs.specs.Operations.{difference_of}
use Rattle.interval_specs.proofs.Ranges.{carry_magnitude}
use Rattle.ks_curves.proofs.Ranges.{addition_magnitude}
use Rattle.ks_curves.proofs.calibration.added.Goals as goal

pub returns-clause-range : goal.returns-clause-range
returns-clause-range g c =
    carry_magnitude (10 ^ 4 * g.S.Scale.unit) c.sub.result (difference_of c.ks.result c.ks-2.result) c.sub.ensures.is
    (addition_magnitude g.S.Scale.unit c.ks.result c.ks-2.result c.ks.ensures.range c.ks-2.ensures.range)
