use Rattle.metamerism.proofs.VerdictLaws.{decides}
use Rattle.metamerism.proofs.judging.decide.Goals as goal

pub returns-clause-fails : goal.returns-clause-fails
returns-clause-fails g c =
    (decides g.S.Scale.unit c.args.light.now.tolerance c.args.delta c.judge_at.result c.certain_fail.result c.judge_at.ensures.ordered c.judge_at.ensures.is c.certain_fail.ensures).0

pub returns-clause-passes : goal.returns-clause-passes
returns-clause-passes g c =
    (decides g.S.Scale.unit c.args.light.now.tolerance c.args.delta c.judge_at.result c.certain_fail.result c.judge_at.ensures.ordered c.judge_at.ensures.is c.certain_fail.ensures).1
