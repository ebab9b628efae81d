use Rattle.std.proofs.Common.{length, sym, ap, ◌∙◌}
use Rattle.recipe_judge.specs.Evaluation.{spectrum_of}
use Rattle.spectral_tables.specs.Spectrum.{spectrum_at}
use Rattle.fix_bounds.specs.Scales.{base_unit}
use Rattle.dye_run.proofs.ShowFacts.{length-differences}
use Rattle.dye_run.proofs.recipes.shown_of.Goals as goal

pub verdicts_of-each-requires-clause-count : goal.verdicts_of-each-requires-clause-count
verdicts_of-each-requires-clause-count c =
    let r = c.args.land.now in
    let recipe = c.args.steps.items in
    ap length (c.as_slice-2.ensures.value ∙ c.differences-deltas.ensures)
    ∙ length-differences base_unit (spectrum_at base_unit r.standard) (spectrum_of base_unit r recipe recipe) r.job.light r.weights c.job.ensures.held.found.lights
    ∙ sym (ap length (c.as_slice.ensures.value ∙ ap (λ j. j.light) c.job.ensures.is))
