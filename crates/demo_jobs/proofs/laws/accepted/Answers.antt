use Rattle.demo_jobs.proofs.Accepted.{accepted}
use Rattle.demo_jobs.proofs.laws.accepted.Goals as goal

pub returns : goal.returns
returns c = accepted c.reads_back.ensures
