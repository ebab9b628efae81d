use Rattle.std.proofs.Common.{refl, ap, ◌∙◌}
use Rattle.shade_report.specs.Recipes.{show_text}
use Rattle.dye_run.specs.Show.{recipe_report, show_report}
use Rattle.run_core.specs.declared.statuses.Conclusion.TheVariants.{Judged}
use Rattle.dye_run.proofs.ShowFacts.{recipe_fits}
use Rattle.dye_run.proofs.commands.show.ShowInquiry.report.Goals as goal

pub show_text-requires : goal.show_text-requires
show_text-requires c = rw (c.job.ensures.is, c.shown_of-shown.ensures) (recipe_fits c.args.land.now c.in_ok-steps.steps.items c.job.ensures.held c.in_ok-steps.ensures.recipe)

pub returns : goal.returns
unfolding show_report
returns c = (
  recipe_report c.args.land.now c.in_ok-steps.steps.items,
  rw c.in_ok-steps.ensures.is refl,
  record {
    conclusion = ap (λ v. Judged v.whole) c.shown_of-shown.ensures;
    text = c.in_ok-text.ensures ∙ (λ i. show_text (c.job.ensures.is i) (c.shown_of-shown.ensures i));
    written = refl;
    searched = tt;
  },
)
