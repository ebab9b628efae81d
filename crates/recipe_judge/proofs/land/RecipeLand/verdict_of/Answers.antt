use Rattle.std.proofs.Common.{◌∙◌, ◌^◌, length, ap, sym, arith}
use Rattle.std.proofs.lemmas.List.{length-map}
use Rattle.job_file.specs.Resolve.{ResolvedJob}
use Rattle.job_file.specs.ResolvedView.{resolved_view}
use Rattle.metamerism.specs.Lights.{delta_under, lights_of}
use Rattle.recipe_judge.specs.Evaluation.{differences_at, spectrum_of}
use Rattle.recipe_judge.proofs.land.RecipeLand.verdict_of.Goals as goal

pub verdict-requires : goal.verdict-requires
verdict-requires c =
    let r = resolved_view c.self.inside.resolved in
    let steps = c.args.steps.now.items in
    let sample = spectrum_of (10 ^ 12) r steps steps in
    let lights = lights_of c.self.inside.lights in
    let same = c.differences-deltas.ensures ∙ ap (λ (v : ResolvedJob). differences_at (10 ^ 12) v steps steps) (sym c.self.view_is) ∙ sym (c.self.invariant.deltas_are sample) in
    (omega arith, ap length same ∙ length-map lights (λ light. delta_under light sample))

pub returns : goal.returns
returns c =
    rw (c.verdict.ensures, c.self.invariant.tolerances_are, c.differences-deltas.ensures, ← c.self.view_is)
