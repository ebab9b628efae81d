use Rattle.std.proofs.Common.{◌≡◌, ◌∙◌, ◌^◌, List, length, ap, sym, subst, arith}
use Rattle.interval_specs.specs.Ends.{Ends}
use Rattle.job_file.specs.Resolve.{ResolvedJob}
use Rattle.job_file.specs.ResolvedView.{resolved_view}
use Rattle.spectral_tables.specs.Spectrum.{spectrum_at}
use Rattle.price_grid.specs.Grid.{IsRecipe}
use Rattle.recipe_judge.specs.Evaluation.{differences_at, differences_under, spectrum_of}
use Rattle.recipe_judge.proofs.Boxes.{can_mix, up_to_itself}
use Rattle.recipe_judge.proofs.Waves.{length-spectrum}
use Rattle.recipe_judge.proofs.land.RecipeLand.differences.Goals as goal

pub mix-sample-requires : goal.mix-sample-requires
mix-sample-requires c =
    let r = resolved_view c.self.inside.resolved in
    let steps = c.args.steps.now.items in
    let recipe : IsRecipe r.grid steps = subst (λ (v : ResolvedJob). IsRecipe v.grid steps) (sym c.self.view_is) c.requires in
    rw (c.self.invariant.base_is, c.as_slice-dyes.ensures, c.as_slice-bath.ensures.value, c.as_slice.ensures.value, c.as_slice-2.ensures.value)
    (can_mix r steps steps c.self.invariant.is_land.found c.self.invariant.is_land.grid (up_to_itself steps) recipe)

pub deltas-requires : goal.deltas-requires
deltas-requires c =
    let r = resolved_view c.self.inside.resolved in
    let steps = c.args.steps.now.items in
    let sample : c.mix-sample.result ≡ spectrum_of (10 ^ 12) r steps steps = rw (c.mix-sample.ensures.is, c.self.invariant.base_is, c.as_slice-dyes.ensures, c.as_slice-bath.ensures.value, c.as_slice.ensures.value, c.as_slice-2.ensures.value) in
    (omega arith, ap length sample ∙ length-spectrum r (10 ^ 12) steps steps c.self.invariant.is_land.found.waves ∙ sym c.self.invariant.places_are)

pub returns : goal.returns
returns c =
    let r = resolved_view c.self.inside.resolved in
    let steps = c.args.steps.now.items in
    let sample : c.mix-sample.result ≡ spectrum_of (10 ^ 12) r steps steps = rw (c.mix-sample.ensures.is, c.self.invariant.base_is, c.as_slice-dyes.ensures, c.as_slice-bath.ensures.value, c.as_slice.ensures.value, c.as_slice-2.ensures.value) in
    c.deltas.ensures ∙ c.self.invariant.deltas_are c.mix-sample.result
    ∙ ap (λ (s : List Ends). differences_under (10 ^ 12) (spectrum_at (10 ^ 12) r.standard) r.job.light r.weights s) sample
    ∙ ap (λ (v : ResolvedJob). differences_at (10 ^ 12) v steps steps) c.self.view_is
