-- A job with its files, its curves and the weights of its lights in their order, and the text of
-- another file that is due with it.
use Rattle.std.specs.Prelude.{ℕ, List, [], ◌∷◌, ◌++◌, Option, Some, None, Result, Ok, Err, map}
use Rattle.job_file.specs.Job.{Values, job_of}
use Rattle.job_file.specs.Resolve.{ResolvedJob, resolved_job}
use Rattle.job_keys.specs.declared.fault.JobFault.{JobFault}
use Rattle.job_file.specs.declared.top.BatchRule.{BatchRule}
use Rattle.spectral_tables.specs.CurveBook.{Book}
use Rattle.spectral_tables.specs.declared.grid.WaveGrid.TheVariants.{Ten}
use Rattle.spectral_tables.specs.CurveFile.{curve_table_of}
use Rattle.spectral_tables.specs.WeightTable.{WeightTable}
use Rattle.spectral_tables.specs.WeightFile.{weight_table_of}
use Rattle.run_core.specs.Asking.{◌>>=◌}
use Rattle.dye_run.specs.Inputs.{due_table, table_from}
use Rattle.run_core.specs.Outcome.{Fault, job, too_long}
use Rattle.run_core.specs.Reading.{DueFile, Reading, any_file, each_file, makes, one_file, then_reads}
use Rattle.box_cert.specs.declared.read.TheConstants.{CERT_LIMIT}
use Rattle.dye_run.specs.declared.jobs.TheConstants.{JOB_LIMIT}

-- the value made of a job, or the fault that refuses its file
abbrev pub unless_broken : {T : Type 0} → List ℕ → Result T JobFault → Result T Fault
unless_broken name (Ok value) = Ok value
unless_broken name (Err fault) = Err (job name fault)

-- the job of a file, from the bytes read
unfoldable pub job_from : BatchRule → List ℕ → Option (List ℕ) → Result Values Fault
job_from rule name None = Err (too_long name)
job_from rule name (Some bytes) = unless_broken name (job_of rule bytes)

-- the weights files that a job names, in the order of its lights
abbrev pub light_files : Values → List (List ℕ)
light_files j = map (λ light. light.weights) j.light

-- the files that a job names: its curves, and then its weights
abbrev pub job_files : Values → List (List ℕ)
job_files j = j.head.curves ∷ light_files j

-- the weights so far and then those of the named files, from the bytes read
unfoldable pub weights_after : List WeightTable → List (List ℕ) → List (Option (List ℕ)) → Result (List WeightTable) Fault
weights_after before [] bytes_read = Ok before
weights_after before (name ∷ names) [] = Ok before
weights_after before (name ∷ names) (first ∷ bytes_read) = do
  weights ← table_from (weight_table_of Ten) name first
  weights_after (before ++ weights ∷ []) names bytes_read

-- the curves of a job, and the weights of its lights
pub record JobTables : Type 0 where
  pub book : Book
  pub weights : List WeightTable

-- both, from the bytes read of the job's files: a fault of the curves is named before those of the
-- weights in their order
unfoldable pub job_tables_from : Values → List (Option (List ℕ)) → Result JobTables Fault
job_tables_from j [] = Err (too_long j.head.curves)
job_tables_from j (curves_bytes ∷ weights_bytes) = do
  book ← table_from (curve_table_of Ten) j.head.curves curves_bytes
  weights ← weights_after [] (light_files j) weights_bytes
  Ok (record { book = book; weights = weights })

-- a job resolved over its tables
abbrev pub resolved_from : List ℕ → Values → JobTables → Result ResolvedJob Fault
resolved_from name j tables = unless_broken name (resolved_job tables.book j tables.weights)

-- the text of a file that is due with a job, if there is one: one with more bytes than its limit is
-- refused
unfoldable pub text_from : Option DueFile → Option (List ℕ) → Result (List ℕ) Fault
text_from None bytes_read = Ok []
text_from (Some file) None = Err (too_long file.name)
text_from (Some file) (Some bytes) = Ok bytes

-- the tables of a job, and the text of the other file
pub record Gathered : Type 0 where
  pub tables : JobTables
  pub text : List ℕ

-- both, from the bytes read: a fault of a table is named before one of the other file
unfoldable pub gathered_from : Values → Option DueFile → List (Option (List ℕ)) → Option (List ℕ) → Result Gathered Fault
gathered_from j other job_bytes other_bytes = do
  tables ← job_tables_from j job_bytes
  text ← text_from other other_bytes
  Ok (record { tables = tables; text = text })

-- the files of a job are due one after the other, and then the other file
abbrev pub reads_gathered : Values → Option DueFile → Reading (Result Gathered Fault)
reads_gathered j other =
    then_reads (each_file (map due_table (job_files j))) (λ job_bytes. then_reads (any_file other) (λ other_bytes. makes (gathered_from j other job_bytes other_bytes)))

-- a job resolved over its tables, with the text of the other file
pub record JobRead : Type 0 where
  pub job : ResolvedJob
  pub text : List ℕ

abbrev pub read_from : List ℕ → Values → Gathered → Result JobRead Fault
read_from name j gathered = resolved_from name j gathered.tables >>= (λ r. Ok (record { job = r; text = gathered.text }))

-- what an accepted job requires is due, and the job is resolved over it
abbrev pub reads_accepted : List ℕ → Values → Option DueFile → Reading (Result JobRead Fault)
reads_accepted name j other = then_reads (reads_gathered j other) (λ gathered. makes (gathered >>= read_from name j))

abbrev pub where_accepted : {X : Type 0} → Result Values Fault → (Values → Reading (Result X Fault)) → Reading (Result X Fault)
where_accepted (Ok j) next = next j
where_accepted (Err fault) next = makes (Err fault)

abbrev pub due_job : List ℕ → DueFile
due_job name = record { name = name; limit = JOB_LIMIT }

-- a job is due, and judged by itself when it has been read; its tables and the other file are due
-- only where it is accepted
abbrev pub reads_job : BatchRule → List ℕ → Option DueFile → Reading (Result JobRead Fault)
reads_job rule name other = then_reads (one_file (due_job name)) (λ bytes_read. where_accepted (job_from rule name bytes_read) (λ j. reads_accepted name j other))

-- the certificate that is due with a job
abbrev pub due_cert : List ℕ → DueFile
due_cert name = record { name = name; limit = CERT_LIMIT }
