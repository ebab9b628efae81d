use Rattle.price_grid.proofs.LimitLaws.{excluded_is_broken, single_is_broken}
use Rattle.price_grid.proofs.laws.excludes.Goals as goal

pub returns-clause-broken : goal.returns-clause-broken
returns-clause-broken c = excluded_is_broken

pub returns-clause-single : goal.returns-clause-single
returns-clause-single c = single_is_broken
