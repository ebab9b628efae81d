use Rattle.std.proofs.Common.{refl, ◌∙◌, ap}
use Rattle.run_core.specs.Answers.{plain_report}
use Rattle.dye_run.specs.Ks.{ks_evaluations, ks_report}
use Rattle.dye_run.proofs.commands.ks.KsInquiry.report.Goals as goal

pub returns : goal.returns
unfolding ks_report
returns c =
    (plain_report (ks_evaluations 400 c.in_ok-curve.curve.now), rw c.in_ok-curve.ensures.is refl, record { conclusion = c.plain_report.ensures.conclusion; text = ap (λ t. t.items) c.plain_report.ensures.text ∙ c.in_ok-text.ensures; written = c.plain_report.ensures.written; searched = tt })
