use Rattle.std.proofs.Common.{arith}
use Rattle.shade_report.proofs.Puts.{put_failed, put_next, put_whole, puts_nothing}
use Rattle.shade_report.proofs.pieces.put_all.Goals as goal

pub loop-piece-init : goal.loop-piece-init
loop-piece-init g c = puts_nothing tt (g.O.Sink.view c.args.out.now)

pub returns-in_default : goal.returns-in_default
returns-in_default g c =
    put_failed c.args.pieces.now c.loop-piece.piece-index _ tt (g.O.Sink.view c.args.out.now) (g.O.Sink.view c.loop-piece.out) (g.O.Sink.view c.put.new.self) (omega arith) c.loop-piece.invariant _ c.in_default.ensures

pub loop-piece-preserved : goal.loop-piece-preserved
loop-piece-preserved g c =
    put_next c.args.pieces.now c.loop-piece.piece-index _ tt (g.O.Sink.view c.args.out.now) (g.O.Sink.view c.loop-piece.out) (g.O.Sink.view c.put.new.self) (omega arith) c.loop-piece.invariant tt c.in-Ok.ensures

pub returns : goal.returns
returns g c = put_whole c.args.pieces.now c.loop-piece.piece-index tt (g.O.Sink.view c.args.out.now) (g.O.Sink.view c.loop-piece.out) (omega arith) c.loop-piece.invariant
