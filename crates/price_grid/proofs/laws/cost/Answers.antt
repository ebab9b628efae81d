use Rattle.price_grid.proofs.CostLaws.{cost_grows}
use Rattle.price_grid.proofs.laws.cost.Goals as goal

pub returns : goal.returns
returns c = cost_grows
