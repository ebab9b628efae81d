use Rattle.std.proofs.Common.{◌∙◌, ap, subst}
use Rattle.job_file.specs.Resolve.{ResolvedJob}
use Rattle.price_grid.specs.Limits.{FitGrid, limits_view}
use Rattle.recipe_judge.specs.Land.{over_batch}
use Rattle.recipe_judge.proofs.Limits.{over_batch_fits}
use Rattle.recipe_judge.proofs.land.RecipeLand.limits.Goals as goal

pub returns-clause-is : goal.returns-clause-is
returns-clause-is c = c.self.invariant.limits_are ∙ ap (λ (r : ResolvedJob). over_batch r.limits r.job.batch) c.self.view_is

pub returns-clause-fit : goal.returns-clause-fit
returns-clause-fit c =
    let r = c.self.inside.resolved in
    let fit = over_batch_fits r.grid (limits_view r.limits) r.job.batch r.kept.limits_fit r.kept.bath_fits in
    subst (λ (v : ResolvedJob). FitGrid v.grid (limits_view c.self.inside.limits)) c.self.view_is (rw c.self.invariant.limits_are fit)
