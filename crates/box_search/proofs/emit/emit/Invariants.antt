use Rattle.box_search.proofs.Emitting.{Left}
use Rattle.box_search.proofs.emit.emit.Given as goal

abbrev pub invariant-loop-turn : goal.invariant-loop-turn
invariant-loop-turn g l = Left (g.L.Landscape.land l.land) l.nodes l.boxes l.stack l.out.items l._turn
