use Rattle.interval_specs.proofs.Laws.{fraction_encloses}
use Rattle.fix_bounds.proofs.laws.ratio_up.Goals as goal

pub returns : goal.returns
returns c = fraction_encloses
