use Rattle.metamerism.proofs.DifferenceLaws.{colour_in_range}
use Rattle.metamerism.proofs.laws.colour.Goals as goal

pub returns : goal.returns
returns c = colour_in_range
