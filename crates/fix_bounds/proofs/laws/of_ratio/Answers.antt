use Rattle.interval_specs.proofs.Laws.{ratio_encloses}
use Rattle.fix_bounds.proofs.laws.of_ratio.Goals as goal

pub returns : goal.returns
returns c = ratio_encloses
