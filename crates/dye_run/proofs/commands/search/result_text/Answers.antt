use Rattle.std.proofs.Common.{◌≡◌, IfOk, map, ap, subst, ◌∙◌}
use Rattle.shade_report.specs.Outcomes.{outcome_text}
use Rattle.shade_report.specs.Recipes.{shown_view}
use Rattle.dye_run.proofs.SearchFacts.{listed_shown, matched_fits, matched_shown, recipes_of_list}
use Rattle.dye_run.proofs.commands.search.result_text.Goals as goal

pub shown_each-requires : goal.shown_each-requires
shown_each-requires c = recipes_of_list c.args.land.now.grid c.as_slice.result.now c.args.found.now.cert.undecided c.as_slice.ensures c.requires.listed

pub outcome_text-requires-clause-fits : goal.outcome_text-requires-clause-fits
outcome_text-requires-clause-fits c =
    rw c.job.ensures.is (matched_fits c.args.land.now c.args.found.now.cert.claim c.as_ref.result c.shown_match-matched.result c.job.ensures.held c.requires.claimed c.as_ref.ensures.value c.shown_match-matched.ensures)

pub returns : goal.returns
returns c =
    let claim = c.args.found.now.cert.claim in
    let matched = matched_shown c.args.land.now claim c.as_ref.result c.shown_match-matched.result c.as_ref.ensures.value c.shown_match-matched.ensures in
    let listed = ap (λ l. map shown_view l) c.as_slice-2.ensures.value ∙ listed_shown c.args.land.now c.in_ok-undecided.undecided.items c.as_slice.result.now c.args.found.now.cert.undecided c.as_slice.ensures c.in_ok-undecided.ensures in
    subst (λ t. IfOk c.outcome_text.result (λ text. text.items ≡ t)) (λ i. outcome_text (c.job.ensures.is i) claim c.args.found.now.boxes (matched i) (listed i)) c.outcome_text.ensures
