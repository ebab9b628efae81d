-- The outcomes of a call, and tables of the status and the text of each.
use Rattle.std.specs.Prelude.{ℕ, List, Option, None, Result, Ok, Err}
use Rattle.job_keys.specs.declared.fault.JobFault.{JobFault}
use Rattle.box_specs.specs.declared.certificate.CertFault.{CertFault}
use Rattle.box_specs.specs.declared.certificate.Why.{Why}
use Rattle.price_grid.specs.declared.limit.LimitNo.{LimitNo}
use Rattle.spectral_tables.specs.declared.fault.TableFault.{TableFault}
use Rattle.shade_report.specs.Refusals.{cert_rule_name, cert_text, fault_text, job_fault_text, no_column_text, not_written_text, refused_text, steps_text, too_long_text, unreadable_text, usage_text, why_name}
use Rattle.shade_report.specs.declared.refusal.Refusal.{Refusal}
use Rattle.shade_report.specs.declared.refusal.Refusal.TheVariants as why
use Rattle.run_core.specs.Answers.{Report}
use Rattle.run_core.specs.declared.statuses.Conclusion.{Conclusion}
use Rattle.run_core.specs.declared.statuses.Conclusion.TheVariants.{BudgetEnded, Found, Judged, NoVerdict, NoneFound}
use Rattle.metamerism.specs.declared.outcomes.Verdict.TheVariants.{Fail, Pass, Undecided}

-- why there is no report over files that were read: one has more bytes than its limit, a table or a
-- job breaks a rule, or a column is missing; or the steps are no recipe of the grid, or one that
-- breaks a limit; or a certificate breaks a rule of its grammar, or is not valid, and where
pub data Fault : Type 0 where
  too_long : (name : List ℕ) → Fault
  table : (name : List ℕ) → TableFault → Fault
  job : (name : List ℕ) → JobFault → Fault
  no_column : (name column : List ℕ) → Fault
  steps : Option LimitNo → Fault
  grammar : CertFault → Fault
  invalid : (line : ℕ) → Why → Fault

-- the words have no listed form; a due file could not be read; what was read is refused; a report;
-- or the file of a report could not be written
pub data Outcome : Type 0 where
  usage : Outcome
  unreadable : (name : List ℕ) → Outcome
  refused : Fault → Outcome
  reported : Report → Outcome
  not_written : (name : List ℕ) → Outcome

-- the status of a report
abbrev pub conclusion_status : Conclusion → ℕ
conclusion_status NoVerdict = 0
conclusion_status (Judged Pass) = 0
conclusion_status (Judged (Fail number)) = 8
conclusion_status (Judged Undecided) = 9
conclusion_status Found = 0
conclusion_status NoneFound = 5
conclusion_status BudgetEnded = 6

-- the status of a fault: 11 for steps, 7 for a certificate that was read, and 3 for all others
abbrev pub fault_status : Fault → ℕ
fault_status (too_long name) = 3
fault_status (table name fault) = 3
fault_status (job name fault) = 3
fault_status (no_column name column) = 3
fault_status (steps limit) = 11
fault_status (grammar fault) = 7
fault_status (invalid line reason) = 7

-- the status of each outcome
abbrev pub status_of : Outcome → ℕ
status_of usage = 1
status_of (unreadable name) = 2
status_of (refused fault) = fault_status fault
status_of (reported report) = conclusion_status report.conclusion
status_of (not_written name) = 4

-- the text of each outcome
abbrev pub text_of : Outcome → List ℕ
text_of usage = usage_text
text_of (unreadable name) = unreadable_text name
text_of (refused (too_long name)) = refused_text name too_long_text
text_of (refused (table name fault)) = refused_text name (fault_text fault)
text_of (refused (job name fault)) = refused_text name (job_fault_text fault)
text_of (refused (no_column name column)) = refused_text name (no_column_text column)
text_of (refused (steps limit)) = steps_text limit
text_of (refused (grammar fault)) = cert_text fault.line (cert_rule_name fault.rule)
text_of (refused (invalid line reason)) = cert_text line (why_name reason)
text_of (reported report) = report.text
text_of (not_written name) = not_written_text name

-- the file that each outcome writes
abbrev pub written_of : Outcome → Option (List ℕ × List ℕ)
written_of usage = None
written_of (unreadable name) = None
written_of (refused fault) = None
written_of (reported report) = report.written
written_of (not_written name) = None

-- a command's report, or its refusal
abbrev pub outcome_of : Result Report Fault → Outcome
outcome_of (Ok report) = reported report
outcome_of (Err fault) = refused fault

-- the outcome that a refusal of the code stands for
abbrev pub refusal_outcome : Refusal → Outcome
refusal_outcome why.Usage = usage
refusal_outcome (why.Unreadable name) = unreadable name.now
refusal_outcome (why.TooLong name) = refused (too_long name.now)
refusal_outcome (why.Table name fault) = refused (table name.now fault)
refusal_outcome (why.Job name fault) = refused (job name.now fault)
refusal_outcome (why.NoColumn name column) = refused (no_column name.now column.now)
refusal_outcome (why.Steps limit) = refused (steps limit)
refusal_outcome (why.CertGrammar fault) = refused (grammar fault)
refusal_outcome (why.CertWrong line reason) = refused (invalid line reason)
refusal_outcome (why.NotWritten name) = not_written name.now
