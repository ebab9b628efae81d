use Rattle.interval_specs.proofs.Laws.{product_encloses}
use Rattle.fix_bounds.proofs.laws.mul.Goals as goal

pub returns : goal.returns
returns c = product_encloses
