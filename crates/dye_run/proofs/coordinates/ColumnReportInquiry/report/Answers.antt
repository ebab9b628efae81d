use Rattle.std.proofs.Common.{refl, ◌∙◌, ap}
use Rattle.run_core.specs.Answers.{plain_report}
use Rattle.dye_run.specs.Coordinates.{coordinates_report}
use Rattle.dye_run.proofs.coordinates.ColumnReportInquiry.report.Goals as goal

pub returns : goal.returns
unfolding coordinates_report
returns g c =
    (plain_report (g.C.Coordinates.evaluations c.args.self.1 c.args.tables.now.weights c.in_ok-curve.curve.now), rw c.in_ok-curve.ensures.is refl, record { conclusion = c.plain_report.ensures.conclusion; text = ap (λ t. t.items) c.plain_report.ensures.text ∙ c.in_ok-text.ensures; written = c.plain_report.ensures.written; searched = tt })
