use Rattle.std.proofs.Common.{map, rules, ap, ◌∙◌}
use Rattle.job_file.specs.JobView.{job_view}
use Rattle.job_file.specs.ResolvedView.{resolved_view}
use Rattle.run_core.specs.Judging.{stop_outcome}
use Rattle.run_core.specs.Views.{bytes_view}
use Rattle.dye_run.specs.Views.{job_tables_view}
use Rattle.dye_run.proofs.DemoFacts.{generated_fit, gives_no_refusal, gives_value, job_from_slice, job_is, not_owned, not_refused, resolves, tables_are, tables_view_is}
use Rattle.dye_run.proofs.commands.demo.generated.Goals as goal

pub tables_of-requires : goal.tables_of-requires
tables_of-requires c =
    let a = c.in_ok-texts.ensures.accepted in
    let bytes = ap (map bytes_view) c.as_slice-2.ensures.value ∙ c.in_ok-bytes_read.ensures in
    generated_fit _ _ _ _ _ a c.in_ok-job.job c.as_slice-2.result.now (job_is _ _ _ _ _ a c.as_slice.result.now c.as_slice.ensures _ (job_view c.in_ok-job.job) c.in_ok-job.ensures) bytes

pub returns-in_err-job : goal.returns-in_err-job
returns-in_err-job c =
    let a = c.in_ok-texts.ensures.accepted in
    let none = not_refused (stop_outcome c.in_err-job.field-0.0) _ _ (job_from_slice _ _ _ _ _ a c.as_slice.result.now c.as_slice.ensures _) c.in_err-job.ensures in
    search rules

pub returns-in-Err : goal.returns-in-Err
returns-in-Err c =
    let a = c.in_ok-texts.ensures.accepted in
    let bytes = ap (map bytes_view) c.as_slice-2.ensures.value ∙ c.in_ok-bytes_read.ensures in
    let job = job_is _ _ _ _ _ a c.as_slice.result.now c.as_slice.ensures _ (job_view c.in_ok-job.job) c.in_ok-job.ensures in
    record {
      is = tt;
      memory = not_owned (stop_outcome c.in-Err.stop) (stop_outcome c.owned.result) c.owned.ensures
          (not_refused (stop_outcome c.in-Err.stop) _ _ (tables_are _ _ _ _ _ a (job_view c.in_ok-job.job) _ job bytes) c.in-Err.ensures.is);
    }

pub returns : goal.returns
returns c =
    let a = c.in_ok-texts.ensures.accepted in
    let bytes = ap (map bytes_view) c.as_slice-2.ensures.value ∙ c.in_ok-bytes_read.ensures in
    let job = job_is _ _ _ _ _ a c.as_slice.result.now c.as_slice.ensures _ (job_view c.in_ok-job.job) c.in_ok-job.ensures in
    let tables = tables_view_is _ _ _ _ _ a (job_view c.in_ok-job.job) _ (job_tables_view c.in-Ok.tables) job bytes c.in-Ok.ensures.is in
    let whole = resolves _ _ _ _ _ a _ (job_view c.in_ok-job.job) (job_tables_view c.in-Ok.tables) job tables in
    record {
      is = gives_value resolved_view c.resolved_from.result _ _ whole c.resolved_from.ensures;
      memory = gives_no_refusal resolved_view c.resolved_from.result _ _ whole c.resolved_from.ensures;
    }
