-- The files so far are the curve file and the weights files of the lights so far.
use Rattle.std.proofs.Common.{◌≡◌, ◌∷◌, map, take}
use Rattle.job_file.specs.JobView.{job_view}
use Rattle.dye_run.specs.Inputs.{due_table}
use Rattle.run_core.specs.Views.{due_view}
use Rattle.dye_run.proofs.jobs.files_of.Given as goal

abbrev pub invariant-loop-light : goal.invariant-loop-light
invariant-loop-light l = map due_view l.files.items ≡ due_table (job_view l.job).head.curves ∷ map due_table (map (λ x. x.weights) (take l.light-index l.light-items))
