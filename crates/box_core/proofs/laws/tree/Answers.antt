use Rattle.box_specs.proofs.Bounds.{tree_is_small}
use Rattle.box_core.proofs.laws.tree.Goals as goal

pub returns : goal.returns
returns c = λ l. tree_is_small l
