use Rattle.std.proofs.Common.{◌≡◌, ◌∙◌, length, ap, sym, subst, arith}
use Rattle.std.proofs.lemmas.List.{length-map}
use Rattle.box_specs.specs.Landscape.{IsLawful}
use Rattle.job_file.specs.Resolve.{ResolvedJob}
use Rattle.job_file.specs.ResolvedView.{resolved_view}
use Rattle.metamerism.specs.Lights.{lights_of}
use Rattle.recipe_judge.specs.Recipes.{recipe_land}
use Rattle.recipe_judge.proofs.Lawful.{land_is_lawful}
use Rattle.recipe_judge.proofs.landscape.RecipeLandLandscape.top.Goals as goal

pub returns-clause-lawful : goal.returns-clause-lawful
returns-clause-lawful c =
    let r = resolved_view c.self.inside.resolved in
    let lights = lights_of c.self.inside.lights in
    let many : length lights ≡ length r.job.light = sym (length-map lights (λ light. light.tolerance)) ∙ ap length c.self.invariant.tolerances_are ∙ length-map r.job.light (λ light. light.tolerance) in
    subst (λ (v : ResolvedJob). IsLawful (recipe_land v)) c.self.view_is
    (land_is_lawful c.excludes.ensures.broken c.excludes.ensures.single r c.self.invariant.is_land (omega (arith, many, c.count.ensures.is, c.count.ensures.some)) (omega (arith, many, c.count.ensures.is, c.count.ensures.few)))
