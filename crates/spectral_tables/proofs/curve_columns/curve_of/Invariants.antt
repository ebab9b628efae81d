use Rattle.std.proofs.Common.{◌≡◌, map, take, All, slice_index}
use Rattle.spectral_tables.specs.Curve.{IsReflectance}
use Rattle.spectral_tables.proofs.curve_columns.curve_of.Given as goal

abbrev pub invariant-loop-row : goal.invariant-loop-row
invariant-loop-row l = record {
  so_far : l.values.items ≡ map (λ row. slice_index row.items l.column) (take l.row-index l.rows);
  range : All IsReflectance l.values.items;
}
