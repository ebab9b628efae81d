-- The values of a resolved job that the code holds.
use Rattle.price_grid.specs.Limits.{limits_view}
use Rattle.job_file.specs.declared.resolved.Resolved.{Resolved}
use Rattle.job_file.specs.JobView.{job_view}
use Rattle.job_file.specs.Resolve.{ResolvedJob}

abbrev pub resolved_view : Resolved → ResolvedJob
resolved_view r = record {
  job = job_view r.job;
  substrate = r.substrate;
  standard = r.standard;
  dyes = r.dyes;
  grid = r.grid;
  limits = limits_view r.limits;
  weights = r.weights;
  batch = r.batch;
}
