use Rattle.std.proofs.Common.{map, slice_index, ap, sym, ◌∙◌}
use Rattle.std.proofs.lemmas.List.{take_all}
use Rattle.spectral_tables.proofs.ColumnFacts.{column_of-rows}
use Rattle.spectral_tables.proofs.curve_columns.curve_of.Goals as goal

pub returns-clause-is : goal.returns-clause-is
returns-clause-is c =
    c.of.ensures.is ∙ c.as_slice.ensures.value ∙ c.loop-row.invariant.so_far
    ∙ ap (map (λ row. slice_index row.items c.args.column)) (take_all c.loop-row.row-index c.args.rows.now c.loop-row-test.false)
    ∙ sym (column_of-rows c.args.column c.args.rows.now)
