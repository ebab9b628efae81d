-- What each command does: a table with a line for each form.
use Rattle.std.specs.Prelude.{ℕ, List, Option, Some, None, option_map}
use Rattle.job_file.specs.declared.top.BatchRule.{BatchRule}
use Rattle.job_file.specs.declared.top.BatchRule.TheVariants.{With, Without}
use Rattle.run_core.specs.Asking.{Asking, reports_on}
use Rattle.dye_run.specs.Check.{check_report, check_rule}
use Rattle.dye_run.specs.Coordinates.{coordinates_report}
use Rattle.dye_run.specs.Demo.{demo_job, demo_report}
use Rattle.dye_run.specs.Diff.{diff_report}
use Rattle.dye_run.specs.Forms.{Form, check, correct, demo, diff, form_of, ks, lab, predict, show, xyz}
use Rattle.dye_run.specs.Inputs.{reads_book, reads_tables}
use Rattle.dye_run.specs.Jobs.{due_cert, reads_job}
use Rattle.dye_run.specs.Ks.{ks_report}
use Rattle.dye_run.specs.Lab.{lab_evaluations}
use Rattle.run_core.specs.Outcome.{outcome_of}
use Rattle.run_core.specs.Plan.{Plan}
use Rattle.run_core.specs.Reading.{makes}
use Rattle.dye_run.specs.Search.{search_report}
use Rattle.dye_run.specs.Show.{show_report, show_rule}
use Rattle.dye_run.specs.Words.{CertWords}
use Rattle.dye_run.specs.Xyz.{xyz_evaluations}

-- what a command does: it reports on files, and claims nothing of the recipes of a job; or it finds
-- the first recipe that keeps the limits and passes, of a job by a rule for its batch, and writes
-- the certificate that shows it; or it confirms a certificate; or it summarises the search among
-- the recipes of the generated job with a number
pub data Task : Type 0 where
  reports : Asking → Task
  finds : BatchRule → CertWords → Task
  confirms : CertWords → Task
  summarises : (number : ℕ) → Task

abbrev pub task_of : Form → Task
task_of (ks words) = reports (reports_on (reads_book words.curves) (ks_report words))
task_of (xyz words) = reports (reports_on (reads_tables words.curves words.weights) (coordinates_report xyz_evaluations words))
task_of (lab words) = reports (reports_on (reads_tables words.curves words.weights) (coordinates_report lab_evaluations words))
task_of (diff words) = reports (reports_on (reads_tables words.curves words.weights) (diff_report words))
task_of (show words) = reports (reports_on (reads_job show_rule words.job None) (λ read. show_report words read.job))
task_of (predict words) = finds Without words
task_of (correct words) = finds With words
task_of (check words) = confirms words
task_of (demo number) = summarises number

-- the files that a task asks for, and then its outcome
abbrev pub asking_by : Task → Asking
asking_by (reports asking) = asking
asking_by (finds rule words) = reports_on (reads_job rule words.job None) (λ read. search_report words.cert read.job)
asking_by (confirms words) = reports_on (reads_job check_rule words.job (Some (due_cert words.cert))) (λ read. check_report read.job read.text)
asking_by (summarises number) = makes (outcome_of (demo_report number (demo_job number)))

-- the name that a task writes a file under, where it writes one
abbrev pub written_for : Task → Option (List ℕ)
written_for (reports asking) = None
written_for (finds rule words) = Some words.cert
written_for (confirms words) = None
written_for (summarises number) = None

abbrev pub asking_of : Form → Asking
asking_of form = asking_by (task_of form)

-- what a command asks for and writes
abbrev pub plan_of : Form → Plan
plan_of form = record { asking = asking_of form; writes = written_for (task_of form) }

-- the same for words that may have no form
abbrev pub plan_for : List (List ℕ) → Option Plan
plan_for words = option_map plan_of (form_of words)
