use Rattle.std.proofs.Common.{ℕ, List, Option, Result, rules, subst}
use Rattle.dye_run.specs.Inputs.{Tables, due_table, reads_tables, tables_from}
use Rattle.run_core.specs.Judging.{Breaks}
use Rattle.run_core.specs.Outcome.{Fault}
use Rattle.run_core.specs.Reading.{Reading, Reads, ReadsDue, makes, one_file, then_reads}
use Rattle.run_core.specs.Views.{bytes_view}
use Rattle.dye_run.specs.Views.{tables_view}
use Rattle.run_core.proofs.Readings.{breaks_first, breaks_rest, due_reads, made_rest, made_then, reads_first, reads_rest, unmade}
use Rattle.dye_run.proofs.inputs.read_tables.Goals as goal

pub returns-in_err-first-clause-made : goal.returns-in_err-first-clause-made
returns-in_err-first-clause-made g c =
    let curves = c.args.curves.now in
    let weights = c.args.weights.now in
    let one = one_file (due_table curves) in
    let two = one_file (due_table weights) in
    let next : Option (List ℕ) → Reading (Result Tables Fault) = λ curves_bytes. then_reads two (λ weights_bytes. makes (tables_from curves weights curves_bytes weights_bytes)) in
    let before = g.H.Shelf.view c.args.shelf.now in
    let mid = g.H.Shelf.view c.read_one.new.shelf in
    let why = c.in_err-first.field-0.0 in
    let made = unmade (reads_tables curves weights) before mid tables_view why (breaks_first one next before mid why (subst (λ file. Breaks (one_file file) before mid why) c.due_table.ensures c.in_err-first.ensures.stopped)) in
    search rules

pub returns-in_err-first-clause-reads : goal.returns-in_err-first-clause-reads
returns-in_err-first-clause-reads g c =
    let curves = c.args.curves.now in
    let weights = c.args.weights.now in
    let one = one_file (due_table curves) in
    let two = one_file (due_table weights) in
    let next : Option (List ℕ) → Reading (Result Tables Fault) = λ curves_bytes. then_reads two (λ weights_bytes. makes (tables_from curves weights curves_bytes weights_bytes)) in
    let before = g.H.Shelf.view c.args.shelf.now in
    let mid = g.H.Shelf.view c.read_one.new.shelf in
    reads_first one next before mid (subst (λ file. ReadsDue (one_file file) before mid) c.due_table.ensures c.in_err-first.ensures.stopped.reads)

pub returns-in_err-second-clause-made : goal.returns-in_err-second-clause-made
returns-in_err-second-clause-made g c =
    let curves = c.args.curves.now in
    let weights = c.args.weights.now in
    let one = one_file (due_table curves) in
    let two = one_file (due_table weights) in
    let next : Option (List ℕ) → Reading (Result Tables Fault) = λ curves_bytes. then_reads two (λ weights_bytes. makes (tables_from curves weights curves_bytes weights_bytes)) in
    let before = g.H.Shelf.view c.args.shelf.now in
    let mid = g.H.Shelf.view c.read_one.new.shelf in
    let after = g.H.Shelf.view c.read_one-2.new.shelf in
    let first = bytes_view c.in_ok-first.first in
    let last : Option (List ℕ) → Reading (Result Tables Fault) = λ weights_bytes. makes (tables_from curves weights first weights_bytes) in
    let read : Reads one first before mid = subst (λ file. Reads (one_file file) first before mid) c.due_table.ensures c.in_ok-first.ensures.bytes_read in
    let why = c.in_err-second.field-0.0 in
    let made = unmade (reads_tables curves weights) before after tables_view why (breaks_rest one next first before mid after read why (breaks_first two last mid after why (subst (λ file. Breaks (one_file file) mid after why) c.due_table-2.ensures c.in_err-second.ensures.stopped))) in
    search rules

pub returns-in_err-second-clause-reads : goal.returns-in_err-second-clause-reads
returns-in_err-second-clause-reads g c =
    let curves = c.args.curves.now in
    let weights = c.args.weights.now in
    let one = one_file (due_table curves) in
    let two = one_file (due_table weights) in
    let next : Option (List ℕ) → Reading (Result Tables Fault) = λ curves_bytes. then_reads two (λ weights_bytes. makes (tables_from curves weights curves_bytes weights_bytes)) in
    let before = g.H.Shelf.view c.args.shelf.now in
    let mid = g.H.Shelf.view c.read_one.new.shelf in
    let after = g.H.Shelf.view c.read_one-2.new.shelf in
    let first = bytes_view c.in_ok-first.first in
    let last : Option (List ℕ) → Reading (Result Tables Fault) = λ weights_bytes. makes (tables_from curves weights first weights_bytes) in
    let read : Reads one first before mid = subst (λ file. Reads (one_file file) first before mid) c.due_table.ensures c.in_ok-first.ensures.bytes_read in
    reads_rest one next first before mid after read (reads_first two last mid after (subst (λ file. ReadsDue (one_file file) mid after) c.due_table-2.ensures c.in_err-second.ensures.stopped.reads))

pub returns-clause-made : goal.returns-clause-made
returns-clause-made g c =
    let curves = c.args.curves.now in
    let weights = c.args.weights.now in
    let one = one_file (due_table curves) in
    let two = one_file (due_table weights) in
    let next : Option (List ℕ) → Reading (Result Tables Fault) = λ curves_bytes. then_reads two (λ weights_bytes. makes (tables_from curves weights curves_bytes weights_bytes)) in
    let before = g.H.Shelf.view c.args.shelf.now in
    let mid = g.H.Shelf.view c.read_one.new.shelf in
    let after = g.H.Shelf.view c.read_one-2.new.shelf in
    let first = bytes_view c.in_ok-first.first in
    let last : Option (List ℕ) → Reading (Result Tables Fault) = λ weights_bytes. makes (tables_from curves weights first weights_bytes) in
    let read : Reads one first before mid = subst (λ file. Reads (one_file file) first before mid) c.due_table.ensures c.in_ok-first.ensures.bytes_read in
    made_rest tables_view one next first before mid after read c.tables_from.result
    (made_then tables_view two (λ weights_bytes. tables_from curves weights first weights_bytes) (bytes_view c.in_ok-second.second) mid after c.tables_from.result (subst (λ file. Reads (one_file file) (bytes_view c.in_ok-second.second) mid after) c.due_table-2.ensures c.in_ok-second.ensures.bytes_read) c.tables_from.ensures)

pub returns-clause-reads : goal.returns-clause-reads
returns-clause-reads g c =
    let curves = c.args.curves.now in
    let weights = c.args.weights.now in
    let one = one_file (due_table curves) in
    let two = one_file (due_table weights) in
    let next : Option (List ℕ) → Reading (Result Tables Fault) = λ curves_bytes. then_reads two (λ weights_bytes. makes (tables_from curves weights curves_bytes weights_bytes)) in
    let before = g.H.Shelf.view c.args.shelf.now in
    let mid = g.H.Shelf.view c.read_one.new.shelf in
    let after = g.H.Shelf.view c.read_one-2.new.shelf in
    let first = bytes_view c.in_ok-first.first in
    let last : Option (List ℕ) → Reading (Result Tables Fault) = λ weights_bytes. makes (tables_from curves weights first weights_bytes) in
    let read : Reads one first before mid = subst (λ file. Reads (one_file file) first before mid) c.due_table.ensures c.in_ok-first.ensures.bytes_read in
    reads_rest one next first before mid after read (reads_first two last mid after (due_reads two (bytes_view c.in_ok-second.second) mid after (subst (λ file. Reads (one_file file) (bytes_view c.in_ok-second.second) mid after) c.due_table-2.ensures c.in_ok-second.ensures.bytes_read)))
