-- What holds of every value of the type of resolved jobs.
use Rattle.std.specs.Prelude.{◌≡◌, false, All, IfSome, length, map}
use Rattle.std.specs.List.{AllZip}
use Rattle.price_grid.specs.Grid.{IsRecipe}
use Rattle.price_grid.specs.Limits.{FitGrid}
use Rattle.mix_model.specs.Base.{base_at}
use Rattle.mix_model.specs.Strength.{is_too_strong}
use Rattle.job_file.specs.Resolve.{ResolvedJob, base_curve, up_to_most}
use Rattle.fix_bounds.specs.Scales.{base_unit}

-- the standard's and the batch's curve, the substrate of each dye and the weights of each light
-- have as many wavelengths as the substrate
pub record HaveEqualWaves (r : ResolvedJob) : Type 0 where
  pub standard : length r.standard ≡ length r.substrate
  pub batch : IfSome r.batch (λ c. length c ≡ length r.substrate)
  pub dyes : All (λ d. length d.substrate ≡ length r.substrate) r.dyes
  pub weights : All (λ w. length w.weights ≡ length r.substrate) r.weights

-- The grid has one dye for each dye of the job, and there is one calibrated dye for each of the
-- grid, with the same step. There are weights for each light. The limits and the steps of the batch
-- fit the grid. Recipes of up to the most steps of each dye are not too strong, together. The curves
-- and weights have equally many wavelengths
pub record IsResolved (r : ResolvedJob) : Type 0 where
  pub grid : length r.grid ≡ length r.job.dye
  pub steps : AllZip (λ dye cost. dye.step ≡ cost.step) r.dyes r.grid
  pub lights : length r.weights ≡ length r.job.light
  pub limits_fit : FitGrid r.grid r.limits
  pub bath_fits : IfSome r.job.batch (λ b. IsRecipe r.grid b.steps.items)
  pub weak : is_too_strong (base_at base_unit (base_curve r.substrate r.batch)) (up_to_most r.dyes r.limits.bath (map (λ cost. cost.most) r.grid)) ≡ false
  pub waves : HaveEqualWaves r
