use Rattle.interval_specs.proofs.Laws.{cut_low_encloses}
use Rattle.fix_bounds.proofs.laws.cut_low.Goals as goal

pub returns : goal.returns
returns c = cut_low_encloses
