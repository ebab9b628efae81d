-- A text that writes the table of a job is read as that job.
use Rattle.std.proofs.Common.{◌≡◌, nat_le, true, ℕ, Ok, Some, List, [], length, map, refl}
use Rattle.job_keys.specs.Arrays.{table_if_any, tables, tables_or_none}
use Rattle.job_file.specs.Job.{job_at, job_of, tree_of}
use Rattle.job_keys.specs.Keys.{file_text, name, whole, whole_if_any, whole_or}
use Rattle.job_keys.specs.Light.{light}
use Rattle.job_file.specs.Top.{head, inner, keys}
use Rattle.job_file.specs.declared.top.BatchRule.TheVariants.{Either, Without}
use Rattle.demo_jobs.specs.declared.dyes.DrawnDye.{DrawnDye}
use Rattle.demo_jobs.specs.Dyes.{drawn_dyes}
use Rattle.demo_jobs.specs.JobTable.{dye_table, job_table, light_table, light_tables}
use Rattle.demo_jobs.specs.Values.{job_values}
use Rattle.demo_jobs.proofs.DyesRead.{all_tables, are_readable, dyes_read}

module _ (draws : List ℕ) (text : List ℕ) (written : tree_of text ≡ Some (job_table (drawn_dyes draws))) where
  abbrev dyes : List DrawnDye
  dyes = drawn_dyes draws

  some_dyes : nat_le 1 (length (map dye_table dyes)) ≡ true
  unfolding drawn_dyes
  some_dyes = refl

  few_dyes : nat_le (length (map dye_table dyes)) 12 ≡ true
  unfolding drawn_dyes
  few_dyes = refl

  pub job_read : job_of Without text ≡ Ok (job_values dyes)
  unfolding job_of job_at keys head inner tables tables_or_none table_if_any file_text name whole whole_or whole_if_any light job_table light_tables light_table
  job_read = rw (written, all_tables [] (map dye_table dyes), some_dyes, few_dyes, dyes_read [] dyes (are_readable draws)) refl

  pub job_read_with_batch : job_of Either text ≡ Ok (job_values dyes)
  unfolding job_of job_at keys head inner tables tables_or_none table_if_any file_text name whole whole_or whole_if_any light job_table light_tables light_table
  job_read_with_batch = rw (written, all_tables [] (map dye_table dyes), some_dyes, few_dyes, dyes_read [] dyes (are_readable draws)) refl
