use Rattle.interval_specs.proofs.Held.{same_ends}
use Rattle.ks_curves.specs.StoredNode.{node_of, past_over}
use Rattle.ks_curves.proofs.node.StoredNode.past.Goals as goal

pub returns : goal.returns
returns c = same_ends _ _ (past_over (node_of c.args.self.now) c.args.x0 c.args.x1) c.low_past.ensures c.high_past.ensures
