use Rattle.interval_specs.proofs.Laws.{cbrt_encloses}
use Rattle.root_bounds.proofs.laws.cbrt_iv.Goals as goal

pub returns : goal.returns
returns c = cbrt_encloses
