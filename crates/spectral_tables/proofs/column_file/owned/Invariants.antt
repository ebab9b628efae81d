use Rattle.std.proofs.Common.{◌≡◌, map, take}
use Rattle.spectral_tables.specs.Columns.{rows_view}
use Rattle.spectral_tables.proofs.column_file.owned.Given as goal

abbrev pub invariant-loop-name : goal.invariant-loop-name
invariant-loop-name l = rows_view l.owned ≡ map (λ n. n.now) (take l.name-index l.names)
