use Rattle.metamerism.proofs.DifferenceLaws.{encloses_narrower}
use Rattle.metamerism.proofs.laws.narrower.Goals as goal

pub returns : goal.returns
returns g c = encloses_narrower (g.D.Formula.value c.args.rule.now) (g.D.Formula.keeps_enclosing c.args.rule.now)
