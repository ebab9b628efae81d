-- The possible outcomes of each command are proper.
use Rattle.std.proofs.Common.{◌≡◌, List, ℕ, Option, Some, None, option_map, sym, ap, subst}
use Rattle.shelf_io.specs.Contents.{Contents}
use Rattle.job_file.specs.declared.top.BatchRule.TheVariants.{With, Without}
use Rattle.dye_run.specs.Check.{check_report, check_rule}
use Rattle.dye_run.specs.Commands.{asking_of, plan_for, plan_of, task_of, written_for}
use Rattle.dye_run.specs.Coordinates.{coordinates_report}
use Rattle.dye_run.specs.Demo.{demo_job}
use Rattle.dye_run.specs.Diff.{diff_report}
use Rattle.dye_run.specs.Forms.{Form, check, correct, demo, diff, form_of, ks, lab, predict, show, xyz}
use Rattle.dye_run.specs.Inputs.{reads_book, reads_tables}
use Rattle.dye_run.specs.Jobs.{JobRead, due_cert, reads_job}
use Rattle.dye_run.specs.Ks.{ks_report}
use Rattle.dye_run.specs.Lab.{lab_evaluations}
use Rattle.dye_run.specs.Search.{search_report}
use Rattle.dye_run.specs.Show.{show_report, show_rule}
use Rattle.dye_run.specs.Views.{form_view}
use Rattle.dye_run.specs.Xyz.{xyz_evaluations}
use Rattle.dye_run.specs.declared.command.Command.{Command}
use Rattle.run_core.specs.Outcome.{Outcome}
use Rattle.run_core.specs.Reading.{Gets}
use Rattle.dye_run.proofs.CoordinateLaws.{coordinates_proper}
use Rattle.dye_run.proofs.Diff.{diff_proper}
use Rattle.dye_run.proofs.Ks.{ks_proper}
use Rattle.dye_run.proofs.Lab.{lab_stands}
use Rattle.dye_run.proofs.SearchLaws.{check_proper, demo_proper, search_proper}
use Rattle.dye_run.proofs.ShowLaws.{show_proper}
use Rattle.dye_run.proofs.Xyz.{xyz_stands}
use Rattle.run_core.proofs.Proper.{AreProper, IsProper, proper_reading}

-- the possible outcomes of each command
pub form_proper : (contents : Option Contents) (form : Form) (o : Outcome) → Gets contents (asking_of form) o → IsProper (written_for (task_of form)) o
form_proper contents (ks words) o w = proper_reading contents (reads_book words.curves) (ks_report words) o (ks_proper words) w
form_proper contents (xyz words) o w = proper_reading contents (reads_tables words.curves words.weights) (coordinates_report xyz_evaluations words) o (coordinates_proper xyz_evaluations xyz_stands words) w
form_proper contents (lab words) o w = proper_reading contents (reads_tables words.curves words.weights) (coordinates_report lab_evaluations words) o (coordinates_proper lab_evaluations lab_stands words) w
form_proper contents (diff words) o w = proper_reading contents (reads_tables words.curves words.weights) (diff_report words) o (diff_proper words) w
form_proper contents (show words) o w = proper_reading contents (reads_job show_rule words.job None) (λ (read : JobRead). show_report words read.job) o (λ read. show_proper words read.job) w
form_proper contents (predict words) o w = proper_reading contents (reads_job Without words.job None) (λ (read : JobRead). search_report words.cert read.job) o (λ read. search_proper words.cert read.job) w
form_proper contents (correct words) o w = proper_reading contents (reads_job With words.job None) (λ (read : JobRead). search_report words.cert read.job) o (λ read. search_proper words.cert read.job) w
form_proper contents (check words) o w = proper_reading contents (reads_job check_rule words.job (Some (due_cert words.cert))) (λ (read : JobRead). check_report read.job read.text) o (λ read. check_proper read.job read.text) w
form_proper contents (demo number) o w = subst (IsProper None) (sym w) (demo_proper number (demo_job number))

-- so are those of words that may have no form
forms_proper : (contents : Option Contents) (form : Option Form) → AreProper contents (option_map plan_of form)
forms_proper contents None = tt
forms_proper contents (Some form) = form_proper contents form

pub plans_proper : (contents : Option Contents) (ws : List (List ℕ)) → AreProper contents (plan_for ws)
plans_proper contents ws = forms_proper contents (form_of ws)

-- the plan of the command that the words form is that of their form
pub planned : (command : Option Command) (form : Option Form) → option_map form_view command ≡ form → option_map (λ c. plan_of (form_view c)) command ≡ option_map plan_of form
planned None form e = ap (option_map plan_of) e
planned (Some c) form e = ap (option_map plan_of) e
