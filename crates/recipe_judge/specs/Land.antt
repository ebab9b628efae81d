-- The invariant of the recipes of a job.
use Rattle.std.specs.Prelude.{◌≡◌, ℕ, Option, Some, None, List, All, length}
use Rattle.batch_correct.specs.Shift.{with_new_bath}
use Rattle.interval_specs.specs.Ends.{Ends}
use Rattle.job_file.specs.declared.batch.JobBatch.{JobBatch}
use Rattle.job_file.specs.Resolve.{ResolvedJob, base_curve}
use Rattle.job_file.specs.ResolvedKept.{IsResolved}
use Rattle.mix_model.specs.Base.{IsBase, base_at}
use Rattle.price_grid.specs.Grid.{IsGrid}
use Rattle.price_grid.specs.Limits.{LimitsView}
use Rattle.spectral_tables.specs.Curve.{IsCurve}
use Rattle.spectral_tables.specs.Spectrum.{spectrum_at}
use Rattle.spectral_tables.specs.WeightTable.{IsWeightTable}
use Rattle.recipe_judge.specs.Evaluation.{differences_under, tolerances}
use Rattle.fix_bounds.specs.Scales.{base_unit}

-- limits with the bath of a batch counted, if there is a batch
abbrev pub over_batch : LimitsView → Option JobBatch → LimitsView
over_batch limits None = limits
over_batch limits (Some batch) = with_new_bath limits batch.steps.items

-- what holds of a job whose recipes can be judged: its curves and weights were found, and its parts
-- are in their ranges
pub record IsLand (r : ResolvedJob) : Type 0 where
  pub found : IsResolved r
  pub grid : IsGrid r.grid
  pub standard : IsCurve r.standard
  pub base : IsBase base_unit (base_at base_unit (base_curve r.substrate r.batch))
  pub weights : All IsWeightTable r.weights

-- the limits, the base, and the tolerances of the lights and the differences under them are those
-- of the job, and the lights have as many wavelengths as its curves
pub record KeepsLand (r : ResolvedJob) (limits : LimitsView) (base : List Ends) (of_lights : List ℕ) (deltas : List Ends → List Ends) (places : ℕ) : Type 0 where
  pub is_land : IsLand r
  pub limits_are : limits ≡ over_batch r.limits r.job.batch
  pub base_is : base ≡ base_at base_unit (base_curve r.substrate r.batch)
  pub tolerances_are : of_lights ≡ tolerances r.job.light
  pub deltas_are : (sample : List Ends) → deltas sample ≡ differences_under base_unit (spectrum_at base_unit r.standard) r.job.light r.weights sample
  pub places_are : places ≡ length r.substrate
