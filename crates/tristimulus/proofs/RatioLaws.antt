-- The laws of the ratios.
use Rattle.std.proofs.Common.{◌≡◌, ◌+◌, ◌*◌, ◌<◌, ◌≤ℤ◌, ℕ, suc, pos, List, [], ◌∷◌, All, subst, arith}
use Rattle.std.specs.Prelude.{unsigned_abs}
use Rattle.std.proofs.lemmas.Int.{ints, clamps}
use Rattle.std.proofs.lemmas.List.Sums.{sum_by-cons}
use Rattle.interval_specs.specs.Ends.{Ends, nothing}
use Rattle.interval_specs.specs.Encloses.{Encloses}
use Rattle.interval_specs.specs.Operations.{sum_of, multiple_of, cut_low_at}
use Rattle.interval_specs.specs.Ranges.{MagnitudeUpTo, UpTo}
use Rattle.interval_specs.proofs.Ranges.{sum_magnitude, multiple_magnitude, magnitude_of_up_to}
use Rattle.interval_specs.proofs.Laws.{nothing_encloses, sum_encloses, multiple_encloses, fraction_encloses, cut_low_encloses}
use Rattle.spectral_tables.specs.WeightTable.{Triple, WeightTable, IsWeightTable, at_column, magnitude_sum}
use Rattle.tristimulus.specs.Ratios.{weighted_sum, ratio_at_column, ratios_at}
use Rattle.spectral_tables.specs.Laws.{EnclosesWaves}
use Rattle.tristimulus.specs.Laws.{RatiosEnclose, RatiosInRange}
use Rattle.tristimulus.proofs.Sums.{nothing-magnitude, magnitude-positive, white-range}

sums_enclose : (m column : ℕ) (triples : List Triple) (spectrum finer : List Ends) → EnclosesWaves m spectrum finer → Encloses m (weighted_sum column triples spectrum) (weighted_sum column triples finer)
unfolding weighted_sum
sums_enclose m column [] spectrum finer h = nothing_encloses m
sums_enclose m column (t ∷ ts) [] [] h = nothing_encloses m
sums_enclose m column (t ∷ ts) [] (b ∷ bs) h = absurd h
sums_enclose m column (t ∷ ts) (a ∷ as') [] h = absurd h
sums_enclose m column (t ∷ ts) (a ∷ as') (b ∷ bs) h =
    sum_encloses m _ _ _ _ (multiple_encloses m (at_column column t) a b h.0) (sums_enclose m column ts as' bs h.1)

ratio_encloses : (n m column : ℕ) (spectrum finer : List Ends) (w : WeightTable) → EnclosesWaves m spectrum finer
    → Encloses m (ratio_at_column n column spectrum w) (ratio_at_column (m * n) column finer w)
unfolding ratio_at_column
ratio_encloses n m column spectrum finer w h =
    cut_low_encloses n m (pos 0) _ _ (fraction_encloses m 1 (unsigned_abs (at_column column w.white)) _ _ (sums_enclose m column w.weights spectrum finer h))

pub ratios_enclose : RatiosEnclose
unfolding ratios_at
ratios_enclose n m spectrum finer w h =
    record {
      x = ratio_encloses n m 0 spectrum finer w h;
      y = ratio_encloses n m 1 spectrum finer w h;
      z = ratio_encloses n m 2 spectrum finer w h;
    }

-- a ratio is not below 0, whatever the weights
pub ratio_not_negative : (n column : ℕ) (spectrum : List Ends) (w : WeightTable) → pos 0 ≤ℤ (ratio_at_column n column spectrum w).lo
unfolding ratio_at_column cut_low_at
ratio_not_negative n column spectrum w = omega (arith, ints, clamps)

magnitude_sum-cons : (column : ℕ) (t : Triple) (ts : List Triple) → magnitude_sum column (t ∷ ts) ≡ unsigned_abs (at_column column t) + magnitude_sum column ts
unfolding magnitude_sum
magnitude_sum-cons column t ts = sum_by-cons (λ (t : Triple). unsigned_abs (at_column column t)) t ts

-- a sum of reflectances from 0 to 1 is no larger than the sum of its weights' magnitudes
sum_in_range : (n column : ℕ) (triples : List Triple) (spectrum : List Ends) → All (UpTo n) spectrum → MagnitudeUpTo (magnitude_sum column triples * n) (weighted_sum column triples spectrum)
unfolding weighted_sum
sum_in_range n column [] spectrum h = nothing-magnitude (magnitude_sum column [] * n)
sum_in_range n column (t ∷ ts) [] h = nothing-magnitude (magnitude_sum column (t ∷ ts) * n)
sum_in_range n column (t ∷ ts) (p ∷ ps) h =
    let weight = at_column column t in
    let first = multiple_magnitude n weight p (magnitude_of_up_to n p (h 0 p (omega arith))) in
    let rest = sum_in_range n column ts ps (λ k d lt. h (suc k) d (omega arith)) in
    let both = sum_magnitude (n * unsigned_abs weight) (magnitude_sum column ts * n) (multiple_of weight p) (weighted_sum column ts ps) first rest in
    let whole : n * unsigned_abs weight + magnitude_sum column ts * n ≡ magnitude_sum column (t ∷ ts) * n = rw magnitude_sum-cons (omega arith) in
    subst (λ k. MagnitudeUpTo k (sum_of (multiple_of weight p) (weighted_sum column ts ps))) whole both

ratio_in_range : (n column : ℕ) (spectrum : List Ends) (w : WeightTable) → column < 3 → IsWeightTable w → All (UpTo n) spectrum → UpTo (3 * n) (ratio_at_column n column spectrum w)
unfolding ratio_at_column
ratio_in_range n column spectrum w lt kept h =
    let balance = kept.columns column lt in
    white-range n (magnitude_sum column w.weights) (unsigned_abs (at_column column w.white)) (weighted_sum column w.weights spectrum) (magnitude-positive (at_column column w.white) balance.positive) balance.balanced
    (sum_in_range n column w.weights spectrum h)

pub ratios_in_range : RatiosInRange
unfolding ratios_at
ratios_in_range n spectrum w kept h =
    record {
      x = ratio_in_range n 0 spectrum w (omega arith) kept h;
      y = ratio_in_range n 1 spectrum w (omega arith) kept h;
      z = ratio_in_range n 2 spectrum w (omega arith) kept h;
    }
