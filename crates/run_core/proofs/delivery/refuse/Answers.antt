use Rattle.run_core.proofs.Ends.{refusal_printed}
use Rattle.run_core.proofs.delivery.refuse.Goals as goal

pub returns : goal.returns
returns g c = refusal_printed c.args.refusal.now c.refusal_status.result c.status_after.result c.put_refusal-put.result (g.O.Sink.view c.args.out.now) (g.O.Sink.view c.put_refusal-put.new.out) c.put_refusal-put.ensures c.refusal_status.ensures c.status_after.ensures
