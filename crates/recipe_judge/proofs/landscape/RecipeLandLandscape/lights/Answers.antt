use Rattle.std.proofs.Common.{◌∙◌, length, ap, sym}
use Rattle.std.proofs.lemmas.List.{length-map}
use Rattle.job_file.specs.Resolve.{ResolvedJob}
use Rattle.job_file.specs.ResolvedView.{resolved_view}
use Rattle.metamerism.specs.Lights.{lights_of}
use Rattle.recipe_judge.proofs.landscape.RecipeLandLandscape.lights.Goals as goal

pub returns : goal.returns
returns c =
    let r = resolved_view c.self.inside.resolved in
    let lights = lights_of c.self.inside.lights in
    c.count.ensures.is ∙ sym (length-map lights (λ light. light.tolerance)) ∙ ap length c.self.invariant.tolerances_are
    ∙ length-map r.job.light (λ light. light.tolerance) ∙ ap (λ (v : ResolvedJob). length v.job.light) c.self.view_is
