use Rattle.job_laws.proofs.Accepted.{budget_fits}
use Rattle.job_laws.proofs.laws.budget.Goals as goal

pub returns : goal.returns
returns c = budget_fits
