use Rattle.std.proofs.Common.{None, rules, sym, subst}
use Rattle.run_core.specs.Asking.{reports_on}
use Rattle.dye_run.specs.Jobs.{JobRead, reads_job}
use Rattle.run_core.specs.Outcome.{outcome_of}
use Rattle.run_core.specs.Reading.{Gets}
use Rattle.dye_run.specs.Search.{search_report}
use Rattle.dye_run.specs.Views.{job_read_view}
use Rattle.run_core.proofs.Readings.{input_by, input_made, input_reads}
use Rattle.dye_run.proofs.commands.search.SearchInquiry.read.Goals as goal

pub returns-in_err-read-clause-input : goal.returns-in_err-read-clause-input
returns-in_err-read-clause-input g c =
    let stops = input_by (reads_job c.args.self.1 c.args.self.0.job.now None) (λ (read : JobRead). search_report c.args.self.0.cert.text.now read.job) (g.H.Shelf.view c.args.shelf.now) (g.H.Shelf.view c.read_job.new.shelf) job_read_view c.read_job.result c.read_job.ensures.made in
    search rules

pub returns-in_err-read-clause-reads : goal.returns-in_err-read-clause-reads
returns-in_err-read-clause-reads g c = input_reads (reads_job c.args.self.1 c.args.self.0.job.now None) (λ (read : JobRead). search_report c.args.self.0.cert.text.now read.job) _ _ c.in_err-read.ensures.reads

pub returns-in_err-of_job-clause-reads : goal.returns-in_err-of_job-clause-reads
returns-in_err-of_job-clause-reads g c = input_reads (reads_job c.args.self.1 c.args.self.0.job.now None) (λ (read : JobRead). search_report c.args.self.0.cert.text.now read.job) _ _ c.in_ok-read.ensures.reads

pub returns-clause-input : goal.returns-clause-input
returns-clause-input g c =
    subst (λ r. Gets (g.H.Shelf.view c.args.shelf.now).contents (reports_on (reads_job c.args.self.1 c.args.self.0.job.now None) (λ (read : JobRead). search_report c.args.self.0.cert.text.now read.job)) (outcome_of (search_report c.args.self.0.cert.text.now r))) (sym c.in_ok-of_job.ensures.is)
    (input_made (reads_job c.args.self.1 c.args.self.0.job.now None) (λ (read : JobRead). search_report c.args.self.0.cert.text.now read.job) (g.H.Shelf.view c.args.shelf.now).contents (job_read_view c.in_ok-read.read) c.in_ok-read.ensures.made)

pub returns-clause-reads : goal.returns-clause-reads
returns-clause-reads g c = input_reads (reads_job c.args.self.1 c.args.self.0.job.now None) (λ (read : JobRead). search_report c.args.self.0.cert.text.now read.job) _ _ c.in_ok-read.ensures.reads
