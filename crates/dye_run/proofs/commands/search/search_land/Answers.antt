use Rattle.dye_run.proofs.SearchFacts.{found_claims, found_lists}
use Rattle.dye_run.proofs.commands.search.search_land.Goals as goal

pub returns-clause-claimed : goal.returns-clause-claimed
returns-clause-claimed c = found_claims c.args.land.now c.budget_of.ensures.searchable.lawful c.search.result c.search.ensures.valid

pub returns-clause-listed : goal.returns-clause-listed
returns-clause-listed c = found_lists c.args.land.now c.budget_of.ensures.searchable.lawful c.search.result c.search.ensures.valid
