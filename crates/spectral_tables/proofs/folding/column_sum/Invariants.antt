use Rattle.std.proofs.Common.{◌≡◌, ◌*◌, ◌^◌, pos, ◌+ℤ◌, ◌≤ℤ◌, neg_ℤ, drop}
use Rattle.spectral_tables.specs.WeightTable.{column_sum}
use Rattle.spectral_tables.proofs.folding.column_sum.Given as goal

abbrev pub invariant-loop-triple : goal.invariant-loop-triple
invariant-loop-triple l = record {
  so_far : l.sum +ℤ column_sum l.column (drop l.triple-index l.triples) ≡ column_sum l.column l.triples;
  least : neg_ℤ (pos (10 ^ 8 * l.triple-index)) ≤ℤ l.sum;
  most : l.sum ≤ℤ pos (10 ^ 8 * l.triple-index);
}
