use Rattle.interval_specs.proofs.Laws.{difference_encloses}
use Rattle.fix_bounds.proofs.laws.sub.Goals as goal

pub returns : goal.returns
returns c = difference_encloses
