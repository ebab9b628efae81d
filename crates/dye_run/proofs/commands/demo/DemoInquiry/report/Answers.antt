use Rattle.std.proofs.Common.{length, refl, sym, ap, ◌∙◌, subst, rules}
use Rattle.box_cert.specs.Spelling.{content}
use Rattle.cert_laws.specs.Laws.{content_of}
use Rattle.shade_report.specs.Outcomes.{GoesWith, demo_text}
use Rattle.dye_run.specs.Demo.{demo_report, matched_cost}
use Rattle.run_core.specs.Judging.{stop_outcome}
use Rattle.dye_run.specs.Search.{conclusion_of, result_for}
use Rattle.dye_run.proofs.DemoFacts.{cost_goes, demo_report_is, never_refused, not_refused, same_content}
use Rattle.dye_run.proofs.commands.demo.DemoInquiry.report.Goals as goal

pub demo_text-requires : goal.demo_text-requires
demo_text-requires c =
    let r = c.args.land.now in
    let s = result_for r in
    let same = same_content r (content c.in_ok-found.found.cert) (content c.in_ok-valid.valid) c.in_ok-found.ensures.searchable (ap content_of c.in_ok-found.ensures.is) c.in_ok-valid.ensures in
    let claim = ap (λ x. x.claim) same in
    let cost = c.cost_of_match-cost.ensures ∙ ap (λ s. matched_cost r s.claim) c.in_ok-found.ensures.is in
    subst (λ k. GoesWith k c.cost_of_match-cost.result) (sym claim) (subst (λ x. GoesWith s.claim x) (sym cost) (cost_goes r s.claim))

pub returns-in_err-valid : goal.returns-in_err-valid
returns-in_err-valid c =
    let none = not_refused (stop_outcome c.in_err-valid.field-0.0) _ _ (never_refused c.args.land.now (content c.in_ok-found.found.cert) c.in_ok-found.ensures.searchable (ap content_of c.in_ok-found.ensures.is)) c.in_err-valid.ensures in
    search rules

pub returns : goal.returns
unfolding demo_report
returns c =
    let r = c.args.land.now in
    let number = c.args.self.0.number in
    let s = result_for r in
    let same = same_content r (content c.in_ok-found.found.cert) (content c.in_ok-valid.valid) c.in_ok-found.ensures.searchable (ap content_of c.in_ok-found.ensures.is) c.in_ok-valid.ensures in
    let boxes = ap (λ s. s.boxes) c.in_ok-found.ensures.is in
    let cost = c.cost_of_match-cost.ensures ∙ ap (λ s. matched_cost r s.claim) c.in_ok-found.ensures.is in (
      demo_report_is number r,
      refl,
      record {
        conclusion = c.conclusion_of.ensures ∙ ap (λ x. conclusion_of x.claim) same;
        text = c.in_ok-text.ensures ∙ (λ i. demo_text number (same i).claim (length (same i).listed) (length (same i).lines) (boxes i) (cost i));
        written = refl;
        searched = c.in_ok-found.ensures.searchable;
      },
    )
