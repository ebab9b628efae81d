use Rattle.std.proofs.Common.{ℕ, List, Option, Result, Err, option_map, rules, sym, subst}
use Rattle.job_file.specs.Job.{Values}
use Rattle.dye_run.specs.Jobs.{JobRead, due_job, job_from, reads_accepted, reads_job, where_accepted}
use Rattle.run_core.specs.Judging.{IsMade}
use Rattle.run_core.specs.Outcome.{Fault}
use Rattle.run_core.specs.Reading.{Reading, ReadsDue, one_file}
use Rattle.run_core.specs.Views.{bytes_view, due_view}
use Rattle.dye_run.specs.Views.{job_read_view}
use Rattle.dye_run.proofs.JobsRead.{unaccepted}
use Rattle.run_core.proofs.Readings.{breaks_first, made_rest, none_due, reads_first, reads_rest, unmade}
use Rattle.dye_run.proofs.jobs.read_job.Goals as goal

pub returns-in_err-bytes_read-clause-made : goal.returns-in_err-bytes_read-clause-made
returns-in_err-bytes_read-clause-made g c =
    let other = option_map due_view c.args.other in
    let first = one_file (due_job c.args.name.now) in
    let next : Option (List ℕ) → Reading (Result JobRead Fault) = λ bytes_read. where_accepted (job_from c.args.rule c.args.name.now bytes_read) (λ j. reads_accepted c.args.name.now j other) in
    let before = g.H.Shelf.view c.args.shelf.now in
    let mid = g.H.Shelf.view c.read_one.new.shelf in
    let why = c.in_err-bytes_read.field-0.0 in
    let made = unmade (reads_job c.args.rule c.args.name.now other) before mid job_read_view why (breaks_first first next before mid why c.in_err-bytes_read.ensures.stopped) in
    search rules

pub returns-in_err-bytes_read-clause-reads : goal.returns-in_err-bytes_read-clause-reads
returns-in_err-bytes_read-clause-reads g c =
    let other = option_map due_view c.args.other in
    let first = one_file (due_job c.args.name.now) in
    let next : Option (List ℕ) → Reading (Result JobRead Fault) = λ bytes_read. where_accepted (job_from c.args.rule c.args.name.now bytes_read) (λ j. reads_accepted c.args.name.now j other) in
    let before = g.H.Shelf.view c.args.shelf.now in
    let mid = g.H.Shelf.view c.read_one.new.shelf in
    reads_first first next before mid c.in_err-bytes_read.ensures.stopped.reads

pub returns-in_err-job-clause-made : goal.returns-in_err-job-clause-made
returns-in_err-job-clause-made g c =
    let other = option_map due_view c.args.other in
    let first = one_file (due_job c.args.name.now) in
    let next : Option (List ℕ) → Reading (Result JobRead Fault) = λ bytes_read. where_accepted (job_from c.args.rule c.args.name.now bytes_read) (λ j. reads_accepted c.args.name.now j other) in
    let before = g.H.Shelf.view c.args.shelf.now in
    let mid = g.H.Shelf.view c.read_one.new.shelf in
    let bytes_read = bytes_view c.in_ok-bytes_read.bytes_read in
    let why = c.in_err-job.field-0.0 in
    let made = made_rest job_read_view first next bytes_read before mid mid c.in_ok-bytes_read.ensures.bytes_read (Err why) (unaccepted job_read_view mid (job_from c.args.rule c.args.name.now bytes_read) (λ j. reads_accepted c.args.name.now j other) why (rw c.as_deref.ensures.value at c.in_err-job.ensures)) in
    search rules

pub returns-in_err-job-clause-reads : goal.returns-in_err-job-clause-reads
returns-in_err-job-clause-reads g c =
    let other = option_map due_view c.args.other in
    let first = one_file (due_job c.args.name.now) in
    let next : Option (List ℕ) → Reading (Result JobRead Fault) = λ bytes_read. where_accepted (job_from c.args.rule c.args.name.now bytes_read) (λ j. reads_accepted c.args.name.now j other) in
    let before = g.H.Shelf.view c.args.shelf.now in
    let mid = g.H.Shelf.view c.read_one.new.shelf in
    let bytes_read = bytes_view c.in_ok-bytes_read.bytes_read in
    reads_rest first next bytes_read before mid mid c.in_ok-bytes_read.ensures.bytes_read (none_due (next bytes_read) mid)

pub returns-clause-made : goal.returns-clause-made
returns-clause-made g c =
    let other = option_map due_view c.args.other in
    let first = one_file (due_job c.args.name.now) in
    let next : Option (List ℕ) → Reading (Result JobRead Fault) = λ bytes_read. where_accepted (job_from c.args.rule c.args.name.now bytes_read) (λ j. reads_accepted c.args.name.now j other) in
    let before = g.H.Shelf.view c.args.shelf.now in
    let mid = g.H.Shelf.view c.read_one.new.shelf in
    let bytes_read = bytes_view c.in_ok-bytes_read.bytes_read in
    let after = g.H.Shelf.view c.read_accepted.new.shelf in
    let rest : Values → Reading (Result JobRead Fault) = λ j. reads_accepted c.args.name.now j other in
    made_rest job_read_view first next bytes_read before mid after c.in_ok-bytes_read.ensures.bytes_read c.read_accepted.result
    (subst (λ s. IsMade job_read_view (where_accepted s rest) mid after c.read_accepted.result) (sym (rw c.as_deref.ensures.value at c.in_ok-job.ensures)) c.read_accepted.ensures.made)

pub returns-clause-reads : goal.returns-clause-reads
returns-clause-reads g c =
    let other = option_map due_view c.args.other in
    let first = one_file (due_job c.args.name.now) in
    let next : Option (List ℕ) → Reading (Result JobRead Fault) = λ bytes_read. where_accepted (job_from c.args.rule c.args.name.now bytes_read) (λ j. reads_accepted c.args.name.now j other) in
    let before = g.H.Shelf.view c.args.shelf.now in
    let mid = g.H.Shelf.view c.read_one.new.shelf in
    let bytes_read = bytes_view c.in_ok-bytes_read.bytes_read in
    let after = g.H.Shelf.view c.read_accepted.new.shelf in
    let rest : Values → Reading (Result JobRead Fault) = λ j. reads_accepted c.args.name.now j other in
    reads_rest first next bytes_read before mid after c.in_ok-bytes_read.ensures.bytes_read
    (subst (λ s. ReadsDue (where_accepted s rest) mid after) (sym (rw c.as_deref.ensures.value at c.in_ok-job.ensures)) c.read_accepted.ensures.reads)
