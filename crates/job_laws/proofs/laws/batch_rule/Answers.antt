use Rattle.job_laws.proofs.Either.{accepts_either, table_accepts_either}
use Rattle.job_laws.proofs.laws.batch_rule.Goals as goal

pub returns : goal.returns
returns c = record { text = accepts_either; table = table_accepts_either }
