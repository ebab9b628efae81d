use Rattle.interval_specs.proofs.Laws.{sqrt_encloses}
use Rattle.root_bounds.proofs.laws.sqrt_iv.Goals as goal

pub returns : goal.returns
returns c = sqrt_encloses
