use Rattle.std.proofs.Common.{Some, refl, ap, ◌∙◌}
use Rattle.box_cert.specs.Spelling.{cert_text}
use Rattle.cert_laws.specs.Laws.{content_of}
use Rattle.dye_run.specs.Search.{conclusion_of, result_for, result_report, search_report}
use Rattle.dye_run.proofs.SearchFacts.{result_text_is}
use Rattle.dye_run.proofs.commands.search.SearchInquiry.report.Goals as goal

pub returns : goal.returns
unfolding search_report
returns c =
    let r = c.args.land.now in
    let cert = c.args.self.0.cert.text.now in (
      result_report cert r (result_for r),
      refl,
      record {
        conclusion = c.conclusion_of-conclusion.ensures ∙ ap (λ s. conclusion_of s.claim) c.in_ok-found.ensures.is;
        text = c.in_ok-text.ensures ∙ ap (result_text_is r) c.in_ok-found.ensures.is;
        written = ap (λ s. Some (cert, cert_text (content_of s))) c.in_ok-found.ensures.is;
        searched = c.in_ok-found.ensures.searchable;
      },
    )
