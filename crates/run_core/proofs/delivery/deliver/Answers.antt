use Rattle.std.proofs.Common.{sym, subst}
use Rattle.box_cert.specs.Spelling.{cert_text, content}
use Rattle.run_core.specs.Delivery.{Delivers}
use Rattle.run_core.specs.Endings.{world}
use Rattle.run_core.specs.Judging.{file_view}
use Rattle.run_core.specs.Outcome.{conclusion_status}
use Rattle.run_core.proofs.Ends.{spoiled_by}
use Rattle.run_core.proofs.delivery.deliver.Goals as goal

pub returns-in-Err : goal.returns-in-Err
returns-in-Err g c =
    let text = c.args.report.now.text.items in
    let status = conclusion_status c.args.report.now.conclusion in
    let before = world (g.H.Shelf.view c.args.shelf.now) (g.O.Sink.view c.args.out.now) in
    let after = world (g.H.Shelf.view c.write_cert.new.shelf) (g.O.Sink.view c.refuse.new.out) in
    let file = c.in-Some.file in
    subst (λ w. Delivers (file_view w) text status before after c.refuse.result) (sym c.in-Some.is)
    (spoiled_by file.name.text.now (cert_text (content file.cert)) text status c.refuse.result before after c.write_cert.result c.in-Err.field-0 c.in-Err.is c.write_cert.ensures c.refuse.ensures)
