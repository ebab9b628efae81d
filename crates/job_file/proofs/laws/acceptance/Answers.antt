use Rattle.job_file.proofs.JobJudged.{accepts_by_rules}
use Rattle.job_file.proofs.laws.acceptance.Goals as goal

pub returns : goal.returns
returns c = accepts_by_rules
