use Rattle.std.proofs.Common.{ℕ, List, Option, Result, length, map, option_map, rules, refl, sym, ap, ◌∙◌, subst}
use Rattle.job_file.specs.JobView.{job_view}
use Rattle.dye_run.specs.Files.{FitsFiles}
use Rattle.dye_run.specs.Inputs.{due_table}
use Rattle.dye_run.specs.Jobs.{Gathered, gathered_from, job_files, reads_gathered}
use Rattle.run_core.specs.Judging.{Breaks}
use Rattle.run_core.specs.Outcome.{Fault}
use Rattle.run_core.specs.Reading.{Reading, Reads, any_file, each_file, makes, then_reads}
use Rattle.run_core.specs.Views.{bytes_view, due_view}
use Rattle.dye_run.specs.Views.{gathered_view}
use Rattle.dye_run.proofs.JobsRead.{job_fits}
use Rattle.run_core.proofs.Readings.{breaks_first, breaks_rest, due_reads, made_rest, made_then, none_due, reads_first, reads_rest, unmade}
use Rattle.dye_run.proofs.jobs.read_gathered.Goals as goal

pub returns-in_err-files-clause-reads : goal.returns-in_err-files-clause-reads
returns-in_err-files-clause-reads g c = none_due (reads_gathered (job_view c.args.job.now) (option_map due_view c.args.other)) (g.H.Shelf.view c.args.shelf.now)

pub returns-in_err-job_bytes-clause-made : goal.returns-in_err-job_bytes-clause-made
returns-in_err-job_bytes-clause-made g c =
    let j = job_view c.args.job.now in
    let other = option_map due_view c.args.other in
    let first = each_file (map due_table (job_files j)) in
    let second : List (Option (List ℕ)) → Reading (Result Gathered Fault) = λ job_bytes. then_reads (any_file other) (λ other_bytes. makes (gathered_from j other job_bytes other_bytes)) in
    let before = g.H.Shelf.view c.args.shelf.now in
    let mid = g.H.Shelf.view c.read_each.new.shelf in
    let same = ap (map due_view) c.as_slice.ensures.value ∙ c.in_ok-files.ensures in
    let stopped : Breaks first before mid c.in_err-job_bytes.field-0.0 = subst (λ files. Breaks (each_file files) before mid c.in_err-job_bytes.field-0.0) same c.in_err-job_bytes.ensures.stopped in
    let made = unmade (reads_gathered j other) before mid gathered_view c.in_err-job_bytes.field-0.0 (breaks_first first second before mid c.in_err-job_bytes.field-0.0 stopped) in
    search rules

pub returns-in_err-job_bytes-clause-reads : goal.returns-in_err-job_bytes-clause-reads
returns-in_err-job_bytes-clause-reads g c =
    let j = job_view c.args.job.now in
    let other = option_map due_view c.args.other in
    let first = each_file (map due_table (job_files j)) in
    let second : List (Option (List ℕ)) → Reading (Result Gathered Fault) = λ job_bytes. then_reads (any_file other) (λ other_bytes. makes (gathered_from j other job_bytes other_bytes)) in
    let before = g.H.Shelf.view c.args.shelf.now in
    let mid = g.H.Shelf.view c.read_each.new.shelf in
    let same = ap (map due_view) c.as_slice.ensures.value ∙ c.in_ok-files.ensures in
    let stopped : Breaks first before mid c.in_err-job_bytes.field-0.0 = subst (λ files. Breaks (each_file files) before mid c.in_err-job_bytes.field-0.0) same c.in_err-job_bytes.ensures.stopped in
    reads_first first second before mid stopped.reads

pub returns-in_err-other_bytes-clause-made : goal.returns-in_err-other_bytes-clause-made
returns-in_err-other_bytes-clause-made g c =
    let j = job_view c.args.job.now in
    let other = option_map due_view c.args.other in
    let first = each_file (map due_table (job_files j)) in
    let second : List (Option (List ℕ)) → Reading (Result Gathered Fault) = λ job_bytes. then_reads (any_file other) (λ other_bytes. makes (gathered_from j other job_bytes other_bytes)) in
    let before = g.H.Shelf.view c.args.shelf.now in
    let mid = g.H.Shelf.view c.read_each.new.shelf in
    let same = ap (map due_view) c.as_slice.ensures.value ∙ c.in_ok-files.ensures in
    let after = g.H.Shelf.view c.read_any.new.shelf in
    let job_bytes = map bytes_view c.in_ok-job_bytes.job_bytes.items in
    let last : Option (List ℕ) → Reading (Result Gathered Fault) = λ other_bytes. makes (gathered_from j other job_bytes other_bytes) in
    let read : Reads first job_bytes before mid = subst (λ files. Reads (each_file files) job_bytes before mid) same c.in_ok-job_bytes.ensures.bytes_read in
    let why = c.in_err-other_bytes.field-0.0 in
    let made = unmade (reads_gathered j other) before after gathered_view why (breaks_rest first second job_bytes before mid after read why (breaks_first (any_file other) last mid after why c.in_err-other_bytes.ensures.stopped)) in
    search rules

pub returns-in_err-other_bytes-clause-reads : goal.returns-in_err-other_bytes-clause-reads
returns-in_err-other_bytes-clause-reads g c =
    let j = job_view c.args.job.now in
    let other = option_map due_view c.args.other in
    let first = each_file (map due_table (job_files j)) in
    let second : List (Option (List ℕ)) → Reading (Result Gathered Fault) = λ job_bytes. then_reads (any_file other) (λ other_bytes. makes (gathered_from j other job_bytes other_bytes)) in
    let before = g.H.Shelf.view c.args.shelf.now in
    let mid = g.H.Shelf.view c.read_each.new.shelf in
    let same = ap (map due_view) c.as_slice.ensures.value ∙ c.in_ok-files.ensures in
    let after = g.H.Shelf.view c.read_any.new.shelf in
    let job_bytes = map bytes_view c.in_ok-job_bytes.job_bytes.items in
    let last : Option (List ℕ) → Reading (Result Gathered Fault) = λ other_bytes. makes (gathered_from j other job_bytes other_bytes) in
    let read : Reads first job_bytes before mid = subst (λ files. Reads (each_file files) job_bytes before mid) same c.in_ok-job_bytes.ensures.bytes_read in
    reads_rest first second job_bytes before mid after read (reads_first (any_file other) last mid after c.in_err-other_bytes.ensures.stopped.reads)

pub gathered_of-requires : goal.gathered_of-requires
gathered_of-requires g c =
    let j = job_view c.args.job.now in
    let other = option_map due_view c.args.other in
    let first = each_file (map due_table (job_files j)) in
    let second : List (Option (List ℕ)) → Reading (Result Gathered Fault) = λ job_bytes. then_reads (any_file other) (λ other_bytes. makes (gathered_from j other job_bytes other_bytes)) in
    let before = g.H.Shelf.view c.args.shelf.now in
    let mid = g.H.Shelf.view c.read_each.new.shelf in
    let same = ap (map due_view) c.as_slice.ensures.value ∙ c.in_ok-files.ensures in
    let after = g.H.Shelf.view c.read_any.new.shelf in
    let job_bytes = map bytes_view c.in_ok-job_bytes.job_bytes.items in
    let last : Option (List ℕ) → Reading (Result Gathered Fault) = λ other_bytes. makes (gathered_from j other job_bytes other_bytes) in
    let read : Reads first job_bytes before mid = subst (λ files. Reads (each_file files) job_bytes before mid) same c.in_ok-job_bytes.ensures.bytes_read in
    subst (λ bs. FitsFiles (length c.args.job.now.light.items) bs) (sym c.as_slice-2.ensures.value) (job_fits before.contents j (length c.args.job.now.light.items) c.in_ok-job_bytes.job_bytes.items refl read.made)

pub returns-clause-made : goal.returns-clause-made
returns-clause-made g c =
    let j = job_view c.args.job.now in
    let other = option_map due_view c.args.other in
    let first = each_file (map due_table (job_files j)) in
    let second : List (Option (List ℕ)) → Reading (Result Gathered Fault) = λ job_bytes. then_reads (any_file other) (λ other_bytes. makes (gathered_from j other job_bytes other_bytes)) in
    let before = g.H.Shelf.view c.args.shelf.now in
    let mid = g.H.Shelf.view c.read_each.new.shelf in
    let same = ap (map due_view) c.as_slice.ensures.value ∙ c.in_ok-files.ensures in
    let after = g.H.Shelf.view c.read_any.new.shelf in
    let job_bytes = map bytes_view c.in_ok-job_bytes.job_bytes.items in
    let last : Option (List ℕ) → Reading (Result Gathered Fault) = λ other_bytes. makes (gathered_from j other job_bytes other_bytes) in
    let read : Reads first job_bytes before mid = subst (λ files. Reads (each_file files) job_bytes before mid) same c.in_ok-job_bytes.ensures.bytes_read in
    let other_bytes = bytes_view c.in_ok-other_bytes.other_bytes in
    made_rest gathered_view first second job_bytes before mid after read c.gathered_of.result
    (made_then gathered_view (any_file other) (λ other_bytes. gathered_from j other job_bytes other_bytes) other_bytes mid after c.gathered_of.result c.in_ok-other_bytes.ensures.bytes_read
    (rw c.as_slice-2.ensures.value at c.gathered_of.ensures.is))

pub returns-clause-reads : goal.returns-clause-reads
returns-clause-reads g c =
    let j = job_view c.args.job.now in
    let other = option_map due_view c.args.other in
    let first = each_file (map due_table (job_files j)) in
    let second : List (Option (List ℕ)) → Reading (Result Gathered Fault) = λ job_bytes. then_reads (any_file other) (λ other_bytes. makes (gathered_from j other job_bytes other_bytes)) in
    let before = g.H.Shelf.view c.args.shelf.now in
    let mid = g.H.Shelf.view c.read_each.new.shelf in
    let same = ap (map due_view) c.as_slice.ensures.value ∙ c.in_ok-files.ensures in
    let after = g.H.Shelf.view c.read_any.new.shelf in
    let job_bytes = map bytes_view c.in_ok-job_bytes.job_bytes.items in
    let last : Option (List ℕ) → Reading (Result Gathered Fault) = λ other_bytes. makes (gathered_from j other job_bytes other_bytes) in
    let read : Reads first job_bytes before mid = subst (λ files. Reads (each_file files) job_bytes before mid) same c.in_ok-job_bytes.ensures.bytes_read in
    reads_rest first second job_bytes before mid after read (reads_first (any_file other) last mid after (due_reads (any_file other) (bytes_view c.in_ok-other_bytes.other_bytes) mid after c.in_ok-other_bytes.ensures.bytes_read))
