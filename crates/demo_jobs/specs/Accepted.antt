-- The texts of a generated job are accepted by the readers and by the resolution of jobs.
use Rattle.std.specs.Prelude.{◌≡◌, ◌≤◌, ℕ, Some, Ok, List, length}
use Rattle.job_file.specs.Job.{job_of, tree_of}
use Rattle.job_file.specs.Resolve.{resolved_job}
use Rattle.job_file.specs.declared.top.BatchRule.TheVariants.{Either, Without}
use Rattle.spectral_tables.specs.declared.grid.WaveGrid.TheVariants.{Ten}
use Rattle.spectral_tables.specs.CurveFile.{curve_table_of}
use Rattle.spectral_tables.specs.WeightFile.{weight_table_of}
use Rattle.demo_jobs.specs.declared.weights.Light.TheVariants.{First, Second}
use Rattle.demo_jobs.specs.CurveText.{curve_text, job_book}
use Rattle.demo_jobs.specs.Draws.{draws}
use Rattle.demo_jobs.specs.Dyes.{drawn_dyes}
use Rattle.demo_jobs.specs.JobTable.{job_table}
use Rattle.demo_jobs.specs.Values.{both_weights, job_values, resolved_of, weight_table}
use Rattle.demo_jobs.specs.WeightsText.{weights_text}
use Rattle.spectral_tables.specs.declared.records.TheConstants.{TABLE_LIMIT}

-- the texts of the curve file and of the weights files are no longer than their readers allow, and
-- are read; the job is read both where it must have no batch and where it may have one; and the job
-- resolves
pub record IsAccepted (drawn : List ℕ) (job curves first second : List ℕ) : Type 0 where
  pub curves_short : length curves ≤ TABLE_LIMIT
  pub first_short : length first ≤ TABLE_LIMIT
  pub second_short : length second ≤ TABLE_LIMIT
  pub curves_read : curve_table_of Ten curves ≡ Ok (job_book drawn)
  pub first_read : weight_table_of Ten first ≡ Ok (weight_table First)
  pub second_read : weight_table_of Ten second ≡ Ok (weight_table Second)
  pub job_read : job_of Without job ≡ Ok (job_values (drawn_dyes drawn))
  pub job_read_with_batch : job_of Either job ≡ Ok (job_values (drawn_dyes drawn))
  pub job_resolved : resolved_job (job_book drawn) (job_values (drawn_dyes drawn)) both_weights ≡ Ok (resolved_of drawn)

-- the texts for every number are accepted, with any text that reads as the job's table
abbrev pub JobsAreAccepted : Type 0
JobsAreAccepted =
    (number : ℕ) (job : List ℕ) → tree_of job ≡ Some (job_table (drawn_dyes (draws number)))
    → IsAccepted (draws number) job (curve_text (job_book (draws number))) (weights_text First) (weights_text Second)
