use Rattle.std.proofs.Common.{ℕ, List, Option, Result, rules, subst}
use Rattle.spectral_tables.specs.CurveBook.{Book}
use Rattle.spectral_tables.specs.CurveFile.{curve_table_of}
use Rattle.spectral_tables.specs.declared.grid.WaveGrid.TheVariants.{Ten}
use Rattle.dye_run.specs.Inputs.{due_table, reads_book, table_from}
use Rattle.run_core.specs.Judging.{Breaks}
use Rattle.run_core.specs.Outcome.{Fault}
use Rattle.run_core.specs.Reading.{Reading, Reads, ReadsDue, makes, one_file}
use Rattle.run_core.specs.Views.{bytes_view}
use Rattle.run_core.proofs.Readings.{breaks_first, due_reads, made_then, reads_first, unmade}
use Rattle.dye_run.proofs.inputs.read_book.Goals as goal

pub returns-in_err-bytes_read-clause-made : goal.returns-in_err-bytes_read-clause-made
returns-in_err-bytes_read-clause-made g c =
    let curves = c.args.curves.now in
    let first = one_file (due_table curves) in
    let next : Option (List ℕ) → Reading (Result Book Fault) = λ bytes_read. makes (table_from (curve_table_of Ten) curves bytes_read) in
    let before = g.H.Shelf.view c.args.shelf.now in
    let after = g.H.Shelf.view c.read_one.new.shelf in
    let why = c.in_err-bytes_read.field-0.0 in
    let made = unmade (reads_book curves) before after (λ (b : Book). b) why (breaks_first first next before after why (subst (λ file. Breaks (one_file file) before after why) c.due_table.ensures c.in_err-bytes_read.ensures.stopped)) in
    search rules

pub returns-in_err-bytes_read-clause-reads : goal.returns-in_err-bytes_read-clause-reads
returns-in_err-bytes_read-clause-reads g c =
    let curves = c.args.curves.now in
    let first = one_file (due_table curves) in
    let next : Option (List ℕ) → Reading (Result Book Fault) = λ bytes_read. makes (table_from (curve_table_of Ten) curves bytes_read) in
    reads_first first next (g.H.Shelf.view c.args.shelf.now) (g.H.Shelf.view c.read_one.new.shelf) (subst (λ file. ReadsDue (one_file file) (g.H.Shelf.view c.args.shelf.now) (g.H.Shelf.view c.read_one.new.shelf)) c.due_table.ensures c.in_err-bytes_read.ensures.stopped.reads)

pub returns-clause-made : goal.returns-clause-made
returns-clause-made g c =
    let curves = c.args.curves.now in
    made_then (λ (b : Book). b) (one_file (due_table curves)) (λ bytes_read. table_from (curve_table_of Ten) curves bytes_read) (bytes_view c.in_ok-bytes_read.bytes_read) (g.H.Shelf.view c.args.shelf.now) (g.H.Shelf.view c.read_one.new.shelf) c.table_from.result
    (subst (λ file. Reads (one_file file) (bytes_view c.in_ok-bytes_read.bytes_read) (g.H.Shelf.view c.args.shelf.now) (g.H.Shelf.view c.read_one.new.shelf)) c.due_table.ensures c.in_ok-bytes_read.ensures.bytes_read) (rw c.as_deref.ensures.value at c.table_from.ensures.is)

pub returns-clause-reads : goal.returns-clause-reads
returns-clause-reads g c =
    let curves = c.args.curves.now in
    let first = one_file (due_table curves) in
    let next : Option (List ℕ) → Reading (Result Book Fault) = λ bytes_read. makes (table_from (curve_table_of Ten) curves bytes_read) in
    reads_first first next _ _ (due_reads first (bytes_view c.in_ok-bytes_read.bytes_read) _ _ (subst (λ file. Reads (one_file file) (bytes_view c.in_ok-bytes_read.bytes_read) (g.H.Shelf.view c.args.shelf.now) (g.H.Shelf.view c.read_one.new.shelf)) c.due_table.ensures c.in_ok-bytes_read.ensures.bytes_read))
