-- Sums of columns, and the sums of their magnitudes.
use Rattle.std.proofs.Common.{◌≡◌, ◌+◌, ◌≤◌, ◌<◌, ℕ, ℤ, pos, negsuc, ◌+ℤ◌, neg_ℤ, ◌≤ℤ◌, List, [], length, get_or, drop, ap, add-one, arith}
use Rattle.std.specs.Prelude.{unsigned_abs}
use Rattle.std.proofs.lemmas.Int.{ints}
use Rattle.std.proofs.Math.Seq.{drop-cons}
use Rattle.std.proofs.lemmas.List.{drop_all}
use Rattle.spectral_tables.specs.WeightTable.{Triple, at_column, column_sum}

-- a number whose magnitude is bounded
pub record Within (z : ℤ) (n : ℕ) : Type 0 where
  pub least : neg_ℤ (pos n) ≤ℤ z
  pub most : z ≤ℤ pos n

pub within-magnitude : (z : ℤ) (n : ℕ) → unsigned_abs z ≤ n → Within z n
within-magnitude (pos a) n h = record { least = omega (arith, ints); most = omega (arith, ints) }
within-magnitude (negsuc a) n h = record { least = omega (arith, ints); most = omega (arith, ints) }

pub column_sum-drop : (column : ℕ) (triples : List Triple) (i : ℕ) → i < length triples
    → column_sum column (drop i triples) ≡ at_column column (get_or triples i []) +ℤ column_sum column (drop (i + 1) triples)
unfolding column_sum
column_sum-drop column triples i lt = rw add-one (ap (column_sum column) (drop-cons triples i [] lt))

pub column_sum-end : (column : ℕ) (triples : List Triple) (i : ℕ) → length triples ≤ i → column_sum column (drop i triples) ≡ pos 0
unfolding column_sum
column_sum-end column triples i le = ap (column_sum column) (drop_all i triples le)
