use Rattle.metamerism.proofs.VerdictMeaning.{verdict_says}
use Rattle.metamerism.proofs.laws.verdict.Goals as goal

pub returns : goal.returns
returns c = verdict_says
