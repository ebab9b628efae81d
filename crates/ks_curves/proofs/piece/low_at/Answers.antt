use Rattle.ks_curves.proofs.PieceFacts.{low_at_none}
use Rattle.ks_curves.proofs.piece.low_at.Goals as goal

pub returns-then-x-eq0 : goal.returns-then-x-eq0
returns-then-x-eq0 c = low_at_none c.args.nodes.now c.args.x c.requires c.if-x-eq0.true
