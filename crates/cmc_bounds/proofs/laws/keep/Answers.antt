use Rattle.cmc_specs.proofs.Law.{standard_encloses}
use Rattle.cmc_bounds.proofs.laws.keep.Goals as goal

pub returns : goal.returns
returns c = standard_encloses
