use Rattle.metamerism.proofs.VerdictLaws.{verdict_stays}
use Rattle.metamerism.proofs.laws.judge_light.Goals as goal

pub returns : goal.returns
returns c = verdict_stays
