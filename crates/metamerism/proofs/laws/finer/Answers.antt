use Rattle.metamerism.proofs.DifferenceLaws.{encloses_finer}
use Rattle.metamerism.proofs.laws.finer.Goals as goal

pub returns : goal.returns
returns g c = encloses_finer (g.D.Formula.value c.args.rule.now) (g.D.Formula.keeps_enclosing c.args.rule.now)
