use Rattle.interval_specs.proofs.Laws.{multiple_encloses}
use Rattle.fix_bounds.proofs.laws.scale_by.Goals as goal

pub returns : goal.returns
returns c = multiple_encloses
