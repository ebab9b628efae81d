use Rattle.interval_specs.proofs.Laws.{quotient_encloses}
use Rattle.fix_bounds.proofs.laws.div.Goals as goal

pub returns : goal.returns
returns c = quotient_encloses
