use Rattle.box_specs.proofs.Cuts.{halves_partition, rule_fits}
use Rattle.box_core.proofs.laws.halves.Goals as goal

pub returns-clause-fits : goal.returns-clause-fits
returns-clause-fits c = rule_fits

pub returns-clause-partition : goal.returns-clause-partition
returns-clause-partition c = halves_partition
