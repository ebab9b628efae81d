use Rattle.std.proofs.Common.{◌≡◌, ◌∙◌, ◌<◌, ◌-◌, ◌^◌, length, inl, inr, refl, ap, sym, subst, arith}
use Rattle.std.proofs.lemmas.List.{length-map}
use Rattle.box_specs.specs.Span.{IsInside, Span}
use Rattle.job_file.specs.Resolve.{ResolvedJob}
use Rattle.metamerism.specs.Lights.{delta_under, deltas_under, lights_of, places_of, tolerances_of}
use Rattle.price_grid.specs.Limits.{limits_view}
use Rattle.recipe_judge.specs.Evaluation.{differences_at, tolerances}
use Rattle.recipe_judge.specs.Land.{KeepsLand}
use Rattle.recipe_judge.specs.Recipes.{all_recipes, light_fails, recipe_land}
use Rattle.recipe_judge.proofs.Kept.{kept_deltas, kept_lights}
use Rattle.recipe_judge.proofs.Lawful.{no_such_light}
use Rattle.recipe_judge.proofs.LightTurns.{light_fails_is, read_map}
use Rattle.recipe_judge.proofs.GridBoxes.{high_recipe}
use Rattle.recipe_judge.proofs.Waves.{length-spectrum}
use Rattle.metamerism.proofs.PlaceFacts.{fits_at}
use Rattle.recipe_judge.proofs.land.RecipeLand.light_fails_on.Goals as goal
use Rattle.recipe_judge.proofs.land.RecipeLand.light_fails_on.Goals.{then-light-eq0-via-then-light-eq0, then-light-eq0-via-else-light-eq0+then-light-count}

pub returns-then-light-eq0 : goal.returns-then-light-eq0
returns-then-light-eq0 c =
    let v = c.args.self.now in
    let lights = lights_of c.self.inside.lights in
    let limits = limits_view c.self.inside.limits in
    let of_lights = tolerances_of c.self.inside.lights in
    let deltas = deltas_under c.self.inside.lights in
    let places = places_of c.self.inside.lights in
    let kept : KeepsLand v limits c.self.inside.base of_lights deltas places = subst (λ (r : ResolvedJob). KeepsLand r limits c.self.inside.base of_lights deltas places) c.self.view_is c.self.invariant in
    let many : length lights ≡ length v.job.light = sym (length-map lights (λ light. light.tolerance)) ∙ kept_lights v limits c.self.inside.base of_lights deltas places kept in
    sym (no_such_light v c.args.part.now c.args.light (elim c.then-light-eq0.branch [
      | then-light-eq0-via-then-light-eq0 w ↦ inl w.if-light-eq0.true
      | then-light-eq0-via-else-light-eq0+then-light-count w ↦ inr (omega (arith, many, w.if-light-count.true, w.count.ensures.is))
    ]))

pub spectrum_over-sample-requires-clause-recipe : goal.spectrum_over-sample-requires-clause-recipe
spectrum_over-sample-requires-clause-recipe c =
    let grid = c.args.self.now.grid in
    let b : Span = record { lo = c.part.inside.lo.items; hi = c.part.inside.hi.items } in
    high_recipe grid b (subst (λ (p : Span). IsInside p (all_recipes grid)) (sym c.part.view_is) c.requires)

pub light_fails-requires : goal.light_fails-requires
light_fails-requires c =
    let v = c.args.self.now in
    let lights = lights_of c.self.inside.lights in
    let limits = limits_view c.self.inside.limits in
    let of_lights = tolerances_of c.self.inside.lights in
    let deltas = deltas_under c.self.inside.lights in
    let places = places_of c.self.inside.lights in
    let kept : KeepsLand v limits c.self.inside.base of_lights deltas places = subst (λ (r : ResolvedJob). KeepsLand r limits c.self.inside.base of_lights deltas places) c.self.view_is c.self.invariant in
    let fits = ap length c.spectrum_over-sample.ensures.is ∙ length-spectrum v (10 ^ 12) c.part.inside.lo.items c.part.inside.hi.items kept.is_land.found.waves ∙ sym kept.places_are in
    let lt : c.args.light - 1 < length lights = omega (arith, c.if-light-eq0.false, c.if-light-count.false, c.count.ensures.is) in
    fits_at lights (c.args.light - 1) c.get.result.now c.spectrum_over-sample.result lt c.get.ensures c.self.inside.lights.equal fits

pub returns : goal.returns
returns c =
    let v = c.args.self.now in
    let b : Span = record { lo = c.part.inside.lo.items; hi = c.part.inside.hi.items } in
    let lights = lights_of c.self.inside.lights in
    let light = c.get.result.now in
    let sample = c.spectrum_over-sample.result in
    let limits = limits_view c.self.inside.limits in
    let of_lights = tolerances_of c.self.inside.lights in
    let deltas = deltas_under c.self.inside.lights in
    let places = places_of c.self.inside.lights in
    let kept : KeepsLand v limits c.self.inside.base of_lights deltas places = subst (λ (r : ResolvedJob). KeepsLand r limits c.self.inside.base of_lights deltas places) c.self.view_is c.self.invariant in
    let t = read_map (λ light. light.tolerance) lights (c.args.light - 1) light c.get.ensures in
    let d = read_map (λ light. delta_under light sample) lights (c.args.light - 1) light c.get.ensures in
    let some : 0 < c.args.light = omega (arith, c.if-light-eq0.false) in
    let here = light_fails_is (10 ^ 12) of_lights (deltas sample) c.args.light light.tolerance (delta_under light sample) some t d in
    let whole : light_fails (10 ^ 12) of_lights (deltas sample) c.args.light ≡ light_fails (10 ^ 12) (tolerances v.job.light) (differences_at (10 ^ 12) v b.lo b.hi) c.args.light =
    rw (kept_deltas v limits c.self.inside.base of_lights deltas places kept b.lo b.hi sample c.spectrum_over-sample.ensures.is, kept.tolerances_are) refl in
    c.light_fails.ensures ∙ sym here ∙ whole ∙ ap (λ (p : Span). (recipe_land v).failing c.args.light p) c.part.view_is
