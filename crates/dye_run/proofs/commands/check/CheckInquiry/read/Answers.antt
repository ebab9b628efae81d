use Rattle.std.proofs.Common.{Some, rules, sym, subst}
use Rattle.run_core.specs.Asking.{reports_on}
use Rattle.dye_run.specs.Check.{check_report, check_rule}
use Rattle.dye_run.specs.Jobs.{JobRead, due_cert, reads_job}
use Rattle.run_core.specs.Outcome.{outcome_of}
use Rattle.run_core.specs.Reading.{Gets}
use Rattle.dye_run.specs.Views.{job_read_view}
use Rattle.dye_run.proofs.JobsRead.{text_read}
use Rattle.run_core.proofs.Readings.{input_by, input_made, input_reads}
use Rattle.dye_run.proofs.commands.check.CheckInquiry.read.Goals as goal

pub returns-in_err-read-clause-input : goal.returns-in_err-read-clause-input
returns-in_err-read-clause-input g c =
    let stops = input_by (reads_job check_rule c.args.self.0.job.now (Some (due_cert c.args.self.0.cert.text.now))) (λ (read : JobRead). check_report read.job read.text) (g.H.Shelf.view c.args.shelf.now) (g.H.Shelf.view c.read_job.new.shelf) job_read_view c.read_job.result c.read_job.ensures.made in
    search rules

pub returns-in_err-read-clause-reads : goal.returns-in_err-read-clause-reads
returns-in_err-read-clause-reads g c = input_reads (reads_job check_rule c.args.self.0.job.now (Some (due_cert c.args.self.0.cert.text.now))) (λ (read : JobRead). check_report read.job read.text) _ _ c.in_err-read.ensures.reads

pub returns-in_err-land-clause-reads : goal.returns-in_err-land-clause-reads
returns-in_err-land-clause-reads g c = input_reads (reads_job check_rule c.args.self.0.job.now (Some (due_cert c.args.self.0.cert.text.now))) (λ (read : JobRead). check_report read.job read.text) _ _ c.in_ok-read.ensures.reads

pub returns-clause-input : goal.returns-clause-input
returns-clause-input g c =
    let reading = reads_job check_rule c.args.self.0.job.now (Some (due_cert c.args.self.0.cert.text.now)) in
    subst (λ r. Gets (g.H.Shelf.view c.args.shelf.now).contents (reports_on reading (λ (read : JobRead). check_report read.job read.text)) (outcome_of (check_report r c.in_ok-read.read.text.items))) (sym c.in_ok-land.ensures.is)
    (input_made reading (λ (read : JobRead). check_report read.job read.text) (g.H.Shelf.view c.args.shelf.now).contents (job_read_view c.in_ok-read.read) c.in_ok-read.ensures.made)

pub returns-clause-reads : goal.returns-clause-reads
returns-clause-reads g c = input_reads (reads_job check_rule c.args.self.0.job.now (Some (due_cert c.args.self.0.cert.text.now))) (λ (read : JobRead). check_report read.job read.text) _ _ c.in_ok-read.ensures.reads

pub invariant_of-result : goal.invariant_of-result
invariant_of-result g c =
    let short = (text_read (g.H.Shelf.view c.args.shelf.now).contents check_rule c.args.self.0.job.now (due_cert c.args.self.0.cert.text.now) (job_read_view c.in_ok-read.read) c.in_ok-read.ensures.made).short in search rules
