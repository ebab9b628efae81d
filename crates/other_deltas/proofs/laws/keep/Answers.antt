use Rattle.delta_specs.proofs.Law.{standard_encloses}
use Rattle.other_deltas.proofs.laws.keep.Goals as goal

pub returns : goal.returns
returns c = standard_encloses
