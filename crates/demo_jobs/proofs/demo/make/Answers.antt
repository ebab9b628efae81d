use Rattle.std.proofs.Common.{Some, ap, ◌∙◌}
use Rattle.job_file.specs.Job.{tree_of}
use Rattle.demo_jobs.specs.CurveText.{book_of, curve_text, job_book}
use Rattle.demo_jobs.specs.Dyes.{drawn_dyes}
use Rattle.demo_jobs.specs.JobTable.{job_table}
use Rattle.demo_jobs.proofs.Accepted.{texts_accepted}
use Rattle.demo_jobs.proofs.JobBookRead.{entries_ten}
use Rattle.demo_jobs.proofs.demo.make.Goals as goal

pub curve_text-requires : goal.curve_text-requires
curve_text-requires c =
    let book = c.in_ok-book.ensures ∙ ap job_book (c.as_slice.ensures.value ∙ c.draws-draws.ensures.is) in
    rw c.deref.ensures.value (entries_ten c.in_ok-book.book.items _ book)

pub returns-clause-accepted : goal.returns-clause-accepted
returns-clause-accepted c =
    let dyes = c.as_slice-3.ensures.value ∙ c.drawn_dyes.ensures.is ∙ ap drawn_dyes (c.as_slice-2.ensures.value ∙ c.draws-draws.ensures.is) in
    let book = c.in_ok-book.ensures ∙ ap job_book (c.as_slice.ensures.value ∙ c.draws-draws.ensures.is) in
    texts_accepted c.accepted.ensures c.args.number c.of.result c.of-2.result c.of-3.result c.of-4.result
    (ap tree_of (c.of.ensures ∙ ap (λ v. v.items) c.into_bytes.ensures.value) ∙ c.in_ok-job.ensures ∙ ap (λ ds. Some (job_table ds)) dyes)
    (c.of-2.ensures ∙ c.in_ok-curve_text.ensures ∙ ap (λ es. curve_text (book_of es)) c.deref.ensures.value ∙ ap curve_text book)
    (c.of-3.ensures ∙ c.in_ok-weights_text.ensures)
    (c.of-4.ensures ∙ c.in_ok-weights_text-2.ensures)
