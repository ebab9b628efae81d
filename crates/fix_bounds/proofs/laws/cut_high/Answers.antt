use Rattle.interval_specs.proofs.Laws.{cut_high_encloses}
use Rattle.fix_bounds.proofs.laws.cut_high.Goals as goal

pub returns : goal.returns
returns c = cut_high_encloses
