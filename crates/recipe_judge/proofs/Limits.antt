-- The limits over the bath of a batch fit the grid.
use Rattle.std.proofs.Common.{Option, Some, None, List, IfSome}
use Rattle.job_file.specs.declared.batch.JobBatch.{JobBatch}
use Rattle.price_grid.specs.declared.dye_cost.DyeCost.{DyeCost}
use Rattle.price_grid.specs.Grid.{IsRecipe}
use Rattle.price_grid.specs.Limits.{FitGrid, LimitsView}
use Rattle.recipe_judge.specs.Land.{over_batch}

pub over_batch_fits : (grid : List DyeCost) (limits : LimitsView) (batch : Option JobBatch) → FitGrid grid limits → IfSome batch (λ b. IsRecipe grid b.steps.items) → FitGrid grid (over_batch limits batch)
over_batch_fits grid limits None fit bath = fit
over_batch_fits grid limits (Some b) fit bath = record { bath = bath; pairs = fit.pairs }
