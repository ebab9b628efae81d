use Rattle.interval_specs.proofs.Laws.{absolute_encloses}
use Rattle.fix_bounds.proofs.laws.abs.Goals as goal

pub returns : goal.returns
returns c = absolute_encloses
