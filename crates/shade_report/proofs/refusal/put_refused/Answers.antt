use Rattle.shade_report.proofs.Refused.{refused_cut, refused_then}
use Rattle.shade_report.proofs.refusal.put_refused.Goals as goal

pub returns-in_default : goal.returns-in_default
returns-in_default g c =
    refused_cut c.args.name.now c.args.why.now (g.O.Sink.view c.args.out.now) (g.O.Sink.view c.put_all.new.out) _ (rw c.as_bytes.ensures.value at c.in_default.ensures)

pub returns : goal.returns
returns g c =
    refused_then c.args.name.now c.args.why.now (g.O.Sink.view c.args.out.now) (g.O.Sink.view c.put_all-2.new.out) tt c.put_all-2.result (g.O.Sink.view c.put_all.new.out)
    (rw c.as_bytes.ensures.value at c.in-Ok.ensures) c.put_all-2.ensures
