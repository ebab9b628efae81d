use Rattle.shade_report.proofs.Refused.{refused_column}
use Rattle.shade_report.proofs.refusal.put_refusal.Goals as goal

pub returns-in-Usage : goal.returns-in-Usage
returns-in-Usage g c = rw c.in-Usage.is (rw c.as_bytes.ensures.value at c.put_all.ensures)

pub returns-in-NoColumn : goal.returns-in-NoColumn
returns-in-NoColumn g c =
    rw c.in-NoColumn.is
    (refused_column c.in-NoColumn.name.now c.in-NoColumn.column.now c.put_all-in-NoColumn.result (g.O.Sink.view c.args.out.now) (g.O.Sink.view c.put_all-in-NoColumn.new.out)
    (rw (c.as_bytes-in-NoColumn.ensures.value, c.as_bytes-in-NoColumn-2.ensures.value) at c.put_all-in-NoColumn.ensures))
