use Rattle.std.proofs.Common.{Ok, take}
use Rattle.shelf_io.specs.Taking.{Puts}
use Rattle.shelf_io.specs.declared.failed.Failed.{Failed}
use Rattle.shade_report.proofs.Puts.{joined}
use Rattle.shade_report.proofs.pieces.put_all.Given as goal

abbrev pub invariant-loop-piece : goal.invariant-loop-piece
invariant-loop-piece g l = Puts {T = Unit {0}} {E = Failed} (joined (take l.piece-index l.pieces)) (Ok tt) (g.O.Sink.view l.fn.out) (g.O.Sink.view l.out)
