use Rattle.interval_specs.proofs.Laws.{sum_encloses}
use Rattle.fix_bounds.proofs.laws.add.Goals as goal

pub returns : goal.returns
returns c = sum_encloses
