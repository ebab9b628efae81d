use Rattle.dye_run.specs.Commands.{plan_of}
use Rattle.dye_run.specs.Views.{form_view}
use Rattle.run_core.proofs.Proper.{own_judged}
use Rattle.dye_run.proofs.FormsProper.{form_proper}
use Rattle.dye_run.proofs.command.CommandPlanned.carry_out.Goals as goal

pub returns-clause-own : goal.returns-clause-own
returns-clause-own g c =
    let form = form_view c.args.self in
    own_judged (plan_of form) (g.H.Shelf.view c.args.shelf.now) (g.H.Shelf.view c.report_by.new.shelf) c.report_by.result (form_proper _ form) c.report_by.ensures.judged
