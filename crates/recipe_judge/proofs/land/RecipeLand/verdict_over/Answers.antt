use Rattle.std.proofs.Common.{◌≡◌, ◌∙◌, ◌^◌, length, ap, sym, subst}
use Rattle.box_specs.specs.Landscape.{light_of}
use Rattle.box_specs.specs.Span.{IsInside, Span}
use Rattle.job_file.specs.Resolve.{ResolvedJob}
use Rattle.metamerism.specs.Lights.{deltas_under, places_of, tolerances_of}
use Rattle.price_grid.specs.Limits.{limits_view}
use Rattle.recipe_judge.specs.Land.{KeepsLand}
use Rattle.recipe_judge.specs.Recipes.{all_recipes, failing_light, recipe_land}
use Rattle.recipe_judge.proofs.Kept.{kept_verdict}
use Rattle.recipe_judge.proofs.Lawful.{light_is}
use Rattle.recipe_judge.proofs.GridBoxes.{high_recipe}
use Rattle.recipe_judge.proofs.Waves.{length-spectrum}
use Rattle.recipe_judge.proofs.land.RecipeLand.verdict_over.Goals as goal

pub spectrum_over-sample-requires-clause-recipe : goal.spectrum_over-sample-requires-clause-recipe
spectrum_over-sample-requires-clause-recipe c =
    let grid = c.args.self.now.grid in
    let b : Span = record { lo = c.part.inside.lo.items; hi = c.part.inside.hi.items } in
    high_recipe grid b (subst (λ (p : Span). IsInside p (all_recipes grid)) (sym c.part.view_is) c.requires)

pub verdict_on-requires : goal.verdict_on-requires
verdict_on-requires c =
    let v = c.args.self.now in
    let limits = limits_view c.self.inside.limits in
    let of_lights = tolerances_of c.self.inside.lights in
    let deltas = deltas_under c.self.inside.lights in
    let places = places_of c.self.inside.lights in
    let kept : KeepsLand v limits c.self.inside.base of_lights deltas places = subst (λ (r : ResolvedJob). KeepsLand r limits c.self.inside.base of_lights deltas places) c.self.view_is c.self.invariant in
    ap length c.spectrum_over-sample.ensures.is ∙ length-spectrum v (10 ^ 12) c.part.inside.lo.items c.part.inside.hi.items kept.is_land.found.waves ∙ sym kept.places_are

pub returns-clause-light : goal.returns-clause-light
returns-clause-light c =
    let v = c.args.self.now in
    let b : Span = record { lo = c.part.inside.lo.items; hi = c.part.inside.hi.items } in
    let limits = limits_view c.self.inside.limits in
    let of_lights = tolerances_of c.self.inside.lights in
    let deltas = deltas_under c.self.inside.lights in
    let places = places_of c.self.inside.lights in
    let kept : KeepsLand v limits c.self.inside.base of_lights deltas places = subst (λ (r : ResolvedJob). KeepsLand r limits c.self.inside.base of_lights deltas places) c.self.view_is c.self.invariant in
    let recipe = high_recipe v.grid b (subst (λ (p : Span). IsInside p (all_recipes v.grid)) (sym c.part.view_is) c.requires) in
    let verdict = c.verdict_on.ensures ∙ kept_verdict v limits c.self.inside.base of_lights deltas places kept b.lo b.hi c.spectrum_over-sample.result c.spectrum_over-sample.ensures.is in
    subst (λ (p : Span). light_of (recipe_land v) p ≡ failing_light c.verdict_on.result) c.part.view_is (light_is v b kept.is_land c.part.invariant.0 recipe ∙ ap failing_light (sym verdict))
