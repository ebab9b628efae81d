-- A weighted sum, wavelength by wavelength, and its magnitude.
use Rattle.std.proofs.Common.{◌≡◌, ◌+◌, ◌*◌, ◌≤◌, ◌<◌, ◌^◌, ℕ, suc, ℤ, pos, negsuc, ◌<ℤ◌, List, [], ◌∷◌, length, get_or, take, drop, Some, refl, sym, ap, subst, ◌∙◌, add-one, arith}
use Rattle.std.specs.Prelude.{unsigned_abs, sum_by, slice_get}
use Rattle.std.proofs.lemmas.Int.{ints}
use Rattle.std.proofs.lemmas.List.{take_more, take-append-drop, drop_all}
use Rattle.std.proofs.lemmas.List.Sums.{sum_by-append, sum_by-cons}
use Rattle.std.proofs.lemmas.Option.{get_or_from_slice_get}
use Rattle.std.proofs.Math.Seq.{drop-cons}
use Rattle.std.proofs.Math.Nat.{mul-le-mul}
use Rattle.interval_specs.specs.Ends.{Ends, magnitude_of, nothing}
use Rattle.interval_specs.specs.Operations.{sum_of, multiple_of, fraction_of, cut_low_at}
use Rattle.interval_specs.specs.Ranges.{MagnitudeUpTo, UpTo}
use Rattle.interval_specs.proofs.Additions.{sum-regroup, sum-nothing}
use Rattle.interval_specs.proofs.Ranges.{sum_magnitude, multiple_magnitude, magnitude_of_up_to, fraction_magnitude, cut_low_up_to, up_to_wider}
use Rattle.spectral_tables.specs.WeightTable.{Triple, WeightTable, IsWeightTable, at_column, magnitude_sum}
use Rattle.tristimulus.specs.Ratios.{weighted_sum}

pub nothing-magnitude : (k : ℕ) → MagnitudeUpTo k nothing
nothing-magnitude k = record { ordered = omega (arith, ints); small = omega (arith, ints) }

-- one more wavelength
pub sum-more : (column : ℕ) (triples : List Triple) (spectrum : List Ends) (wave : ℕ) (sum reflectance total : Ends) → wave < length triples → slice_get spectrum wave ≡ Some reflectance → wave < length spectrum
    → sum_of sum (weighted_sum column (drop wave triples) (drop wave spectrum)) ≡ total
    → sum_of (sum_of sum (multiple_of (at_column column (get_or triples wave [])) reflectance)) (weighted_sum column (drop (wave + 1) triples) (drop (wave + 1) spectrum)) ≡ total
unfolding weighted_sum
sum-more column triples spectrum wave sum reflectance total lt here within so_far =
    let triple = get_or triples wave [] in
    let weights : drop wave triples ≡ triple ∷ drop (suc wave) triples = drop-cons triples wave [] lt in
    let reflectances : drop wave spectrum ≡ reflectance ∷ drop (suc wave) spectrum = drop-cons spectrum wave reflectance within ∙ ap (λ (p : Ends). p ∷ drop (suc wave) spectrum) (get_or_from_slice_get spectrum wave reflectance reflectance here) in
    let step : weighted_sum column (drop wave triples) (drop wave spectrum) ≡ sum_of (multiple_of (at_column column triple) reflectance) (weighted_sum column (drop (suc wave) triples) (drop (suc wave) spectrum)) = rw (weights, reflectances) refl in
    rw add-one (sum-regroup sum (multiple_of (at_column column triple) reflectance) (weighted_sum column (drop (suc wave) triples) (drop (suc wave) spectrum)) ∙ ap (sum_of sum) (sym step) ∙ so_far)

pub sum-end : (column : ℕ) (triples : List Triple) (spectrum : List Ends) (wave : ℕ) (sum total : Ends) → length triples ≤ wave
    → sum_of sum (weighted_sum column (drop wave triples) (drop wave spectrum)) ≡ total → sum ≡ total
unfolding weighted_sum
sum-end column triples spectrum wave sum total le so_far =
    let none : weighted_sum column (drop wave triples) (drop wave spectrum) ≡ nothing = rw (drop_all wave triples le) refl in
    sym (sum-nothing sum) ∙ ap (sum_of sum) (sym none) ∙ so_far

pub magnitude_sum-more : (column : ℕ) (triples : List Triple) (wave : ℕ) → wave < length triples
    → magnitude_sum column (take (wave + 1) triples) ≡ magnitude_sum column (take wave triples) + unsigned_abs (at_column column (get_or triples wave []))
unfolding magnitude_sum
magnitude_sum-more column triples wave lt =
    let magnitude = λ (t : Triple). unsigned_abs (at_column column t) in
    let triple = get_or triples wave [] in
    let none : sum_by magnitude [] ≡ 0 = refl in
    ap (sum_by magnitude) (take_more triples wave [] lt) ∙ sum_by-append magnitude (take wave triples) (triple ∷ []) ∙ omega (arith, sum_by-cons magnitude triple [], none)

pub magnitude_sum-take : (column : ℕ) (triples : List Triple) (wave : ℕ) → magnitude_sum column (take wave triples) ≤ magnitude_sum column triples
unfolding magnitude_sum
magnitude_sum-take column triples wave =
    let magnitude = λ (t : Triple). unsigned_abs (at_column column t) in
    omega (arith, sum_by-append magnitude (take wave triples) (drop wave triples), ap (sum_by magnitude) (take-append-drop wave triples))

-- what one wavelength adds, and a bound of the sum up to it
pub record Step (column wave unit : ℕ) (triples : List Triple) (sum reflectance : Ends) : Type 0 where
  pub factor : magnitude_of reflectance * unsigned_abs (at_column column (get_or triples wave [])) ≤ 10 ^ 25
  pub room : magnitude_of sum + magnitude_of (multiple_of (at_column column (get_or triples wave [])) reflectance) ≤ 10 ^ 25
  pub magnitude : MagnitudeUpTo (magnitude_sum column (take (wave + 1) triples) * unit) (sum_of sum (multiple_of (at_column column (get_or triples wave [])) reflectance))

step : (column wave unit : ℕ) (triples : List Triple) (sum reflectance : Ends) → wave < length triples → unit ≤ 10 ^ 12 → magnitude_sum column triples ≤ 2 * 10 ^ 8 → UpTo unit reflectance
    → MagnitudeUpTo (magnitude_sum column (take wave triples) * unit) sum → Step column wave unit triples sum reflectance
step column wave unit triples sum reflectance lt least total part before =
    let weight = at_column column (get_or triples wave []) in
    let more = magnitude_sum-more column triples wave lt in
    let within = magnitude_sum-take column triples (wave + 1) in
    let product = multiple_magnitude unit weight reflectance (magnitude_of_up_to unit reflectance part) in
    let both = sum_magnitude (magnitude_sum column (take wave triples) * unit) (unit * unsigned_abs weight) sum (multiple_of weight reflectance) before product in
    let whole : magnitude_sum column (take wave triples) * unit + unit * unsigned_abs weight ≡ magnitude_sum column (take (wave + 1) triples) * unit = rw more (omega arith) in
    let few : magnitude_sum column (take (wave + 1) triples) ≤ 2 * 10 ^ 8 = omega (arith, within, total) in
    let bound : magnitude_sum column (take (wave + 1) triples) * unit ≤ 2 * 10 ^ 8 * 10 ^ 12 = mul-le-mul few least in
    let weight_few : unsigned_abs weight ≤ 2 * 10 ^ 8 = omega (arith, more, few) in
    let reflectance_small : magnitude_of reflectance ≤ 10 ^ 12 = omega (arith, (magnitude_of_up_to unit reflectance part).small, least) in
    let factor : magnitude_of reflectance * unsigned_abs weight ≤ 10 ^ 12 * (2 * 10 ^ 8) = mul-le-mul reflectance_small weight_few in
    record {
      factor = omega (arith, factor);
      room = omega (arith, before.small, product.small, whole, bound);
      magnitude = subst (λ k. MagnitudeUpTo k (sum_of sum (multiple_of weight reflectance))) whole both;
    }

-- a sum of at most twice the white value, over that value and cut at 0, is at most 3
pub white-range : (unit total white : ℕ) (sum : Ends) → 0 < white → total ≤ 2 * white → MagnitudeUpTo (total * unit) sum → UpTo (3 * unit) (cut_low_at unit (pos 0) (fraction_of 1 white sum))
white-range unit total white sum positive balanced magnitude =
    let twice : total * unit ≤ 2 * white * unit = mul-le-mul balanced (omega arith) in
    let over : total * unit * 1 ≤ 2 * unit * white = omega (arith, twice) in
    let fraction = fraction_magnitude (total * unit) (2 * unit) 1 white sum positive over magnitude in
    up_to_wider (2 * unit) (3 * unit) _ (omega arith) (cut_low_up_to unit (2 * unit) 0 (fraction_of 1 white sum) (omega arith) fraction)

pub magnitude-positive : (z : ℤ) → pos 0 <ℤ z → 0 < unsigned_abs z
magnitude-positive (pos a) h = omega (arith, ints)
magnitude-positive (negsuc a) h = absurd (omega (arith, ints))

-- one more wavelength, as in `step`, under weights that satisfy the invariant
pub step-kept : (column wave end unit : ℕ) (w : WeightTable) (sum reflectance : Ends) → IsWeightTable w → column < 3 → wave < end → end ≡ length w.weights → unit ≤ 10 ^ 12 → UpTo unit reflectance
    → MagnitudeUpTo (magnitude_sum column (take wave w.weights) * unit) sum → Step column wave unit w.weights sum reflectance
step-kept column wave end unit w sum reflectance kept of_three lt is least part before =
    let balance = kept.columns column of_three in
    let within : wave < length w.weights = omega (arith, lt, is) in
    let total : magnitude_sum column w.weights ≤ 2 * 10 ^ 8 = omega (arith, balance.balanced, balance.small) in
    step column wave unit w.weights sum reflectance within least total part before
