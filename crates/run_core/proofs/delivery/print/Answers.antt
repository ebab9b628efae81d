use Rattle.run_core.proofs.Ends.{prints_by}
use Rattle.run_core.proofs.delivery.print.Goals as goal

pub returns : goal.returns
returns g c = prints_by c.args.text.now c.args.status c.status_after.result c.put-put.result (g.O.Sink.view c.args.out.now) (g.O.Sink.view c.put-put.new.self) c.put-put.ensures c.status_after.ensures
