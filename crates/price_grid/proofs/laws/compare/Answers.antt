use Rattle.price_grid.proofs.CostLaws.{keys_are_ordered, keys_differ}
use Rattle.price_grid.proofs.laws.compare.Goals as goal

pub returns-clause-ordered : goal.returns-clause-ordered
returns-clause-ordered c = keys_are_ordered

pub returns-clause-different : goal.returns-clause-different
returns-clause-different c = keys_differ
