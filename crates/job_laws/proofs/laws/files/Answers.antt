use Rattle.job_laws.proofs.Accepted.{files_are_no_certs}
use Rattle.job_laws.proofs.laws.files.Goals as goal

pub returns : goal.returns
returns c = files_are_no_certs
