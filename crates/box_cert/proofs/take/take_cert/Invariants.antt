use Rattle.std.proofs.Common.{◌-◌}
use Rattle.box_cert.proofs.Coming.{Came}
use Rattle.box_cert.proofs.take.take_cert.Given as goal

abbrev pub invariant-loop-size : goal.invariant-loop-size
invariant-loop-size g l = Came l.dims l.name (g.H.Shelf.view l.fn.shelf) (g.H.Shelf.view l.shelf) l.offset l.feed

abbrev pub decreases-loop-size : goal.decreases-loop-size
decreases-loop-size g l = 64000001 - l.offset
