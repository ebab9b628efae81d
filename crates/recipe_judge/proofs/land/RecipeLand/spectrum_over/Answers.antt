use Rattle.std.proofs.Common.{◌≡◌, ◌∙◌, ◌^◌, ap, sym, subst}
use Rattle.job_file.specs.Resolve.{ResolvedJob}
use Rattle.job_file.specs.ResolvedView.{resolved_view}
use Rattle.price_grid.specs.Grid.{IsRecipe}
use Rattle.recipe_judge.specs.Evaluation.{spectrum_of}
use Rattle.recipe_judge.proofs.Boxes.{can_mix}
use Rattle.recipe_judge.proofs.land.RecipeLand.spectrum_over.Goals as goal

pub mix-requires : goal.mix-requires
mix-requires c =
    let r = resolved_view c.self.inside.resolved in
    let low = c.args.low.now.items in
    let high = c.args.high.now.items in
    let recipe : IsRecipe r.grid high = subst (λ (v : ResolvedJob). IsRecipe v.grid high) (sym c.self.view_is) c.requires.recipe in
    rw (c.self.invariant.base_is, c.as_slice-dyes.ensures, c.as_slice-bath.ensures.value, c.as_slice.ensures.value, c.as_slice-2.ensures.value)
    (can_mix r low high c.self.invariant.is_land.found c.self.invariant.is_land.grid c.requires.ordered recipe)

pub returns-clause-is : goal.returns-clause-is
returns-clause-is c =
    let r = resolved_view c.self.inside.resolved in
    let low = c.args.low.now.items in
    let high = c.args.high.now.items in
    let sample : c.mix.result ≡ spectrum_of (10 ^ 12) r low high = rw (c.mix.ensures.is, c.self.invariant.base_is, c.as_slice-dyes.ensures, c.as_slice-bath.ensures.value, c.as_slice.ensures.value, c.as_slice-2.ensures.value) in
    sample ∙ ap (λ (v : ResolvedJob). spectrum_of (10 ^ 12) v low high) c.self.view_is
