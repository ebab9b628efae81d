use Rattle.interval_specs.proofs.Ranges.{carry_up_to}
use Rattle.std.proofs.Common.{◌*◌}
use Rattle.cmc_specs.specs.Cmc.{low_weight}
use Rattle.cmc_specs.proofs.Ranges.{low_weight_up_to}
use Rattle.cmc_bounds.proofs.lightness.low_weight.Goals as goal

pub returns-clause-range : goal.returns-clause-range
returns-clause-range g c = carry_up_to (3 * g.S.Scale.unit) c.of_ratio.result (low_weight g.S.Scale.unit) c.of_ratio.ensures.is (low_weight_up_to g.S.Scale.unit)
