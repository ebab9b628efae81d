use Rattle.interval_specs.proofs.Laws.{square_encloses}
use Rattle.fix_bounds.proofs.laws.square.Goals as goal

pub returns : goal.returns
returns c = square_encloses
