use Rattle.job_file.proofs.JobJudged.{reports_first_broken}
use Rattle.job_file.proofs.laws.first_fault.Goals as goal

pub returns : goal.returns
returns c = reports_first_broken
