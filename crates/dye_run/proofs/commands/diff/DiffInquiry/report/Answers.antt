use Rattle.std.proofs.Common.{refl, sym}
use Rattle.dye_run.specs.Diff.{diff_report, difference_evaluation, difference_report}
use Rattle.dye_run.specs.Views.{diff_view, tolerance_view}
use Rattle.dye_run.proofs.commands.diff.DiffInquiry.report.Goals as goal

pub returns : goal.returns
unfolding diff_report
returns c =
    let e = difference_evaluation (diff_view c.args.self) c.args.tables.now.weights c.in_ok-standard.standard.now c.in_ok-sample.sample.now in
    (difference_report (tolerance_view c.args.self.tolerance) e, rw (c.in_ok-standard.ensures.is, c.in_ok-sample.ensures.is), c.in_ok-report.ensures e (sym c.difference-found.ensures.is) refl)
