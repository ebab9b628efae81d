use Rattle.ks_curves.proofs.Pieces.{hull_is}
use Rattle.ks_curves.proofs.nodes.hull.Goals as goal

pub returns : goal.returns
returns c = hull_is c.args.a c.args.b c.min.result c.max.result c.min.ensures c.max.ensures
