use Rattle.std.proofs.Common.{◌∙◌, ap, arith}
use Rattle.job_file.specs.JobView.{job_view}
use Rattle.dye_run.specs.Inputs.{due_table}
use Rattle.dye_run.proofs.JobTables.{files_more}
use Rattle.dye_run.proofs.jobs.files_of.Goals as goal

pub loop-light-preserved : goal.loop-light-preserved
loop-light-preserved c =
    files_more c.as_slice-light-items.result.now c.loop-light.light-index c.light-item.result (due_table (job_view c.args.job.now).head.curves) c.loop-light.files.items c.push-in-loop-light.new.self.items _ (omega arith) c.light-item.is c.loop-light.invariant c.in_ok-push-2.ensures.items (c.due_table-in-loop-light.ensures ∙ ap due_table c.as_str-in-loop-light.ensures)
