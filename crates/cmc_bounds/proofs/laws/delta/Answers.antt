use Rattle.cmc_specs.proofs.Law.{any_colours_enclose}
use Rattle.cmc_bounds.proofs.laws.delta.Goals as goal

pub returns : goal.returns
returns c = any_colours_enclose
