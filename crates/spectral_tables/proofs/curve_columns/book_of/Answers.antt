use Rattle.std.proofs.Common.{◌≡◌, ◌<◌, ◌+◌, List, ℕ, [], length, map, get_or, ap, subst, sym, ◌∙◌, arith}
use Rattle.std.specs.Global.{Vec}
use Rattle.std.proofs.lemmas.List.{length-map, get_or-map}
use Rattle.spectral_tables.specs.Curve.{IsCurve}
use Rattle.spectral_tables.specs.CurveBook.{book_of}
use Rattle.spectral_tables.specs.CurveFile.{column_of, curve_rule}
use Rattle.spectral_tables.specs.Columns.{rows_view}
use Rattle.spectral_tables.proofs.ColumnFacts.{row-at, holds-none, holds-inserted, holds-book, holds-waves}
use Rattle.spectral_tables.proofs.RowFacts.{reflectances}
use Rattle.spectral_tables.proofs.curve_columns.book_of.Goals as goal

pub curve_of-requires-clause-has_column : goal.curve_of-requires-clause-has_column
curve_of-requires-clause-has_column c = rw c.deref-in-loop-column.ensures.value λ k d lt.
    let columns = c.args.columns.now in
    let row = row-at curve_rule (rows_view columns.names) columns.rows.items c.requires.rows k d lt in
    let names : length (rows_view columns.names) ≡ length columns.names.items = length-map columns.names.items (λ (n : Vec ℕ). n.items) in
    omega (arith, row.count, names, rw c.deref-name-items.ensures.value at c.loop-column-test.true)

pub curve_of-requires-clause-range : goal.curve_of-requires-clause-range
curve_of-requires-clause-range c = rw c.deref-in-loop-column.ensures.value λ k d lt.
    let columns = c.args.columns.now in
    reflectances (rows_view columns.names) _ (row-at curve_rule (rows_view columns.names) columns.rows.items c.requires.rows k d lt)

pub loop-column-init : goal.loop-column-init
loop-column-init c = rw c.new-curves.ensures.empty (holds-none (rows_view c.args.columns.now.rows) (rows_view c.args.columns.now.names))

pub loop-column-preserved : goal.loop-column-preserved
loop-column-preserved c =
    let rows = rows_view c.args.columns.now.rows in
    let names = rows_view c.args.columns.now.names in
    let column = c.loop-column.column in
    let within : column < length names = rw length-map (rw c.deref-name-items.ensures.value at c.loop-column-test.true) in
    let name : get_or names column [] ≡ c.in_ok-owned.owned.items =
    get_or-map (λ (n : Vec ℕ). n.items) c.args.columns.now.names.items column c.name-item.result [] (rw c.deref-name-items.ensures.value at c.loop-column-test.true)
    ∙ ap (λ (n : Vec ℕ). n.items) (sym (rw c.deref-name-items.ensures.value at c.name-item.is)) ∙ sym c.deref.ensures.value ∙ sym c.in_ok-owned.ensures.items in
    let is : c.curve_of.result ≡ column_of column rows = rw c.deref-in-loop-column.ensures.value at c.curve_of.ensures.is in
    let curve : IsCurve (column_of column rows) = subst IsCurve is c.curve_of.ensures.held in
    holds-inserted rows names column c.loop-column.curves.entries c.insert.new.self.entries c.in_ok-owned.owned within name c.requires.distinct curve (rw is at c.in_ok-insert.ensures.entries) c.loop-column.invariant

pub invariant_of-result : goal.invariant_of-result
invariant_of-result c =
    holds-book (rows_view c.args.columns.now.rows) (rows_view c.args.columns.now.names) c.loop-column.column (book_of c.loop-column.curves.entries) c.requires.some (rw length-map (rw c.deref-name-items.ensures.value at c.loop-column-test.false)) c.requires.distinct c.loop-column.invariant

pub returns-clause-waves : goal.returns-clause-waves
returns-clause-waves c =
    holds-waves (rows_view c.args.columns.now.rows) (rows_view c.args.columns.now.names) c.loop-column.column (book_of c.loop-column.curves.entries) c.requires.some (rw length-map (rw c.deref-name-items.ensures.value at c.loop-column-test.false)) c.loop-column.invariant ∙ c.requires.waves
