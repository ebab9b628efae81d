use Rattle.std.proofs.Common.{option_map, sym, ap, ◌∙◌}
use Rattle.run_core.specs.Plan.{asking_for, name_of}
use Rattle.run_core.specs.Endings.{world}
use Rattle.run_core.specs.Judging.{file_view}
use Rattle.run_core.specs.Outcome.{conclusion_status, refusal_outcome}
use Rattle.run_core.proofs.Ends.{changes_by, changes_nothing, changes_report, ended_by, ended_report, refusal_searched, refusal_writes}
use Rattle.run_core.proofs.Judged.{reached_by}
use Rattle.run_core.proofs.top.speak.Goals as goal

pub returns-in-Ok-clause-ended : goal.returns-in-Ok-clause-ended
returns-in-Ok-clause-ended g c =
    let judged = c.in-Ok.ensures.judged in
    ended_report (option_map g.C.Planned.plan c.args.command) (world (g.H.Shelf.view c.args.shelf.now) (g.O.Sink.view c.args.out.now)) (world (g.H.Shelf.view c.deliver.new.shelf) (g.O.Sink.view c.deliver.new.out)) (g.H.Shelf.view c.report_of.new.shelf)
    judged.0 (file_view c.in-Ok.report.written) c.in-Ok.report.text.items (conclusion_status c.in-Ok.report.conclusion) c.deliver.result
    judged.1 c.in-Ok.ensures.reads judged.2.written judged.2.text (ap conclusion_status judged.2.conclusion) judged.2.searched c.deliver.ensures

pub returns-in-Ok-clause-changes : goal.returns-in-Ok-clause-changes
returns-in-Ok-clause-changes g c =
    let judged = c.in-Ok.ensures.judged in
    let plan = option_map g.C.Planned.plan c.args.command in
    changes_report plan (world (g.H.Shelf.view c.args.shelf.now) (g.O.Sink.view c.args.out.now)) (world (g.H.Shelf.view c.deliver.new.shelf) (g.O.Sink.view c.deliver.new.out)) (g.H.Shelf.view c.report_of.new.shelf)
    c.in-Ok.ensures.reads judged.0 judged.1 (file_view c.in-Ok.report.written) c.in-Ok.report.text.items (conclusion_status c.in-Ok.report.conclusion) c.deliver.result judged.2.written
    (λ name bytes e. ap name_of (sym e) ∙ c.in-Ok.ensures.own) c.deliver.ensures

pub returns-in-Some-clause-ended : goal.returns-in-Some-clause-ended
returns-in-Some-clause-ended g c =
    let refusal = c.in-Some.refusal in
    ended_by (option_map g.C.Planned.plan c.args.command) (world (g.H.Shelf.view c.args.shelf.now) (g.O.Sink.view c.args.out.now)) (world (g.H.Shelf.view c.report_of.new.shelf) (g.O.Sink.view c.refuse.new.out))
    (refusal_outcome refusal) c.refuse.result
    (reached_by (asking_for (option_map g.C.Planned.plan c.args.command)) (g.H.Shelf.view c.args.shelf.now) (g.H.Shelf.view c.report_of.new.shelf) c.in-Err.stop refusal c.in-Some.ensures c.in-Err.ensures.judged)
    (refusal_writes refusal) c.in-Err.ensures.reads.effect.contents c.refuse.ensures (refusal_searched refusal)

pub returns-in-Some-clause-changes : goal.returns-in-Some-clause-changes
returns-in-Some-clause-changes g c =
    changes_by (option_map g.C.Planned.plan c.args.command) (world (g.H.Shelf.view c.args.shelf.now) (g.O.Sink.view c.args.out.now)) (world (g.H.Shelf.view c.report_of.new.shelf) (g.O.Sink.view c.refuse.new.out)) c.in-Err.ensures.reads c.refuse.ensures

pub returns-clause-changes : goal.returns-clause-changes
returns-clause-changes g c =
    changes_nothing (option_map g.C.Planned.plan c.args.command) (g.H.Shelf.view c.args.shelf.now) (g.H.Shelf.view c.report_of.new.shelf) (g.O.Sink.view c.args.out.now) c.in-Err.ensures.reads
