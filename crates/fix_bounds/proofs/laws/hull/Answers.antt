use Rattle.interval_specs.proofs.Laws.{hull_encloses}
use Rattle.fix_bounds.proofs.laws.hull.Goals as goal

pub returns : goal.returns
returns c = hull_encloses
