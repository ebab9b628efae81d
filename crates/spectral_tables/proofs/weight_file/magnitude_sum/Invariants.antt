use Rattle.std.proofs.Common.{◌≡◌, ◌≤◌, ◌*◌, ◌^◌, take}
use Rattle.spectral_tables.specs.WeightTable.{magnitude_sum}
use Rattle.spectral_tables.proofs.weight_file.magnitude_sum.Given as goal

abbrev pub invariant-loop-triple : goal.invariant-loop-triple
invariant-loop-triple l = record {
  so_far : l.sum ≡ magnitude_sum l.column (take l.triple-index l.triples);
  small : l.sum ≤ 10 ^ 8 * l.triple-index;
}
