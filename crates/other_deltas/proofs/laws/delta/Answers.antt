use Rattle.delta_specs.proofs.Law.{any_colours_enclose}
use Rattle.other_deltas.proofs.laws.delta.Goals as goal

pub returns : goal.returns
returns c = any_colours_enclose
