use Rattle.std.proofs.Common.{sym, ap, ◌∙◌}
use Rattle.dye_run.specs.Check.{accepted_report, check_report}
use Rattle.dye_run.proofs.commands.check.CheckInquiry.report.Goals as goal

pub returns : goal.returns
unfolding check_report
returns c = (
  accepted_report c.args.input.now.land c.in_ok-valid.valid.claim,
  rw (sym c.as_slice.ensures.value, c.in_ok-cert.ensures, c.in_ok-valid.ensures),
  record {
    conclusion = c.plain_report.ensures.conclusion;
    text = ap (λ t. t.items) c.plain_report.ensures.text ∙ (c.in_ok-extend_from_slice.ensures.items ∙ rw (c.new-text.ensures.items, c.as_bytes.ensures.value) c.accepted_text.ensures);
    written = c.plain_report.ensures.written;
    searched = c.budget_of.ensures.searchable;
  },
)
