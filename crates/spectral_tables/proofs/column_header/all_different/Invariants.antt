use Rattle.std.proofs.Common.{◌≡◌, [], map, take, drop}
use Rattle.spectral_tables.specs.Faults.{each}
use Rattle.spectral_tables.specs.Columns.{next_different}
use Rattle.spectral_tables.proofs.column_header.all_different.Given as goal

abbrev pub invariant-loop-i : goal.invariant-loop-i
invariant-loop-i l = each next_different (map (λ n. n.now) (take l.i l.names)) (map (λ n. n.now) (drop l.i l.names)) ≡ each next_different [] (map (λ n. n.now) l.names)
