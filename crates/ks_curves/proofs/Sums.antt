-- A weighted sum, dyeing by dyeing, and its magnitude.
use Rattle.std.proofs.Common.{◌≡◌, ◌+◌, ◌*◌, ◌≤◌, ◌<◌, ◌^◌, ℕ, suc, List, [], ◌∷◌, length, get_or, take, drop, All, refl, sym, ap, subst, ◌∙◌, add-one, arith}
use Rattle.std.specs.Prelude.{sum_by}
use Rattle.std.proofs.lemmas.Int.{ints}
use Rattle.std.proofs.lemmas.List.{take_more, drop_all}
use Rattle.std.proofs.lemmas.List.Sums.{sum_by_push, sum_by-take-le, sum_by-le}
use Rattle.std.proofs.Math.Seq.{drop-cons}
use Rattle.std.proofs.Math.Nat.{mul-le-mul, mul-le-mul_right}
use Rattle.interval_specs.specs.Ends.{Ends, nothing, magnitude_of}
use Rattle.interval_specs.specs.Operations.{sum_of}
use Rattle.interval_specs.specs.Ranges.{MagnitudeUpTo}
use Rattle.interval_specs.proofs.Ranges.{sum_magnitude}
use Rattle.ks_curves.specs.Dye.{Dyeing, IsDyeing}
use Rattle.ks_curves.specs.Calibration.{weighted_addition, weighted_sum, square_sum}
use Rattle.ks_curves.specs.Slope.{unit_sum}
use Rattle.interval_specs.proofs.Additions.{sum-regroup, sum-nothing}

pub nothing-magnitude : (k : ℕ) → MagnitudeUpTo k nothing
nothing-magnitude k = record { ordered = omega (arith, ints); small = omega (arith, ints) }

-- ---- one more dyeing

pub sum-more : (n : ℕ) (substrate : List ℕ) (wave : ℕ) (ds : List Dyeing) (i : ℕ) (d : Dyeing) (sum part total : Ends) → i < length ds → d ≡ get_or ds i d → part ≡ weighted_addition n substrate wave d
    → sum_of sum (weighted_sum n substrate wave (drop i ds)) ≡ total
    → sum_of (sum_of sum part) (weighted_sum n substrate wave (drop (i + 1) ds)) ≡ total
unfolding weighted_sum
sum-more n substrate wave ds i d sum part total lt is added so_far =
    let rest = weighted_sum n substrate wave (drop (suc i) ds) in
    let split : drop i ds ≡ d ∷ drop (suc i) ds = drop-cons ds i d lt ∙ ap (λ (x : Dyeing). x ∷ drop (suc i) ds) (sym is) in
    let step : weighted_sum n substrate wave (drop i ds) ≡ sum_of (weighted_addition n substrate wave d) rest = rw split refl in
    rw add-one (sum-regroup sum part rest ∙ ap (λ p. sum_of sum (sum_of p rest)) added ∙ ap (sum_of sum) (sym step) ∙ so_far)

pub sum-end : (n : ℕ) (substrate : List ℕ) (wave : ℕ) (ds : List Dyeing) (i : ℕ) (sum total : Ends) → length ds ≤ i
    → sum_of sum (weighted_sum n substrate wave (drop i ds)) ≡ total → sum ≡ total
unfolding weighted_sum
sum-end n substrate wave ds i sum total le so_far =
    let none : weighted_sum n substrate wave (drop i ds) ≡ nothing = rw (drop_all i ds le) refl in
    sym (sum-nothing sum) ∙ ap (sum_of sum) (sym none) ∙ so_far

-- a sum of numbers of the dyeings, with one more
pub sum_by-more : (f : Dyeing → ℕ) (ds : List Dyeing) (i : ℕ) (d : Dyeing) → i < length ds → d ≡ get_or ds i d → sum_by f (take (i + 1) ds) ≡ sum_by f (take i ds) + f d
sum_by-more f ds i d lt is = ap (sum_by f) (take_more ds i d lt) ∙ sum_by_push f (take i ds) (get_or ds i d) ∙ ap (λ x. sum_by f (take i ds) + f x) (sym is)

-- the units of up to 8 dyeings add up to at most 160,000
pub units_few : (count : ℕ) (ds : List Dyeing) → length ds ≤ 8 → All (IsDyeing count) ds → unit_sum ds ≤ 160000
units_few count ds few each =
    let all = sum_by-le (λ (d : Dyeing). d.0) 20000 ds (λ k d lt. (each k d lt).units.1) in
    let m = mul-le-mul_right 20000 few in
    omega arith

-- the sum with one more dyeing does not overflow, and its magnitude has a bound
pub record Step (n : ℕ) (ds : List Dyeing) (i : ℕ) (sum part : Ends) : Type 0 where
  pub room : magnitude_of sum + magnitude_of part ≤ 10 ^ 25
  pub magnitude : MagnitudeUpTo (unit_sum (take (i + 1) ds) * (10 ^ 4 * n)) (sum_of sum part)

pub step : (n count : ℕ) (ds : List Dyeing) (i : ℕ) (d : Dyeing) (sum part : Ends) → n ≤ 10 ^ 12 → length ds ≤ 8 → All (IsDyeing count) ds → i < length ds → d ≡ get_or ds i d
    → MagnitudeUpTo (unit_sum (take i ds) * (10 ^ 4 * n)) sum → MagnitudeUpTo (d.0 * (10 ^ 4 * n)) part → Step n ds i sum part
step n count ds i d sum part small few each lt is before added =
    let f = λ (x : Dyeing). x.0 in
    let so_far = sum_by f (take i ds) in
    let more : sum_by f (take (i + 1) ds) ≡ so_far + d.0 = sum_by-more f ds i d lt is in
    let within : so_far + d.0 ≤ 160000 = omega (arith, more, sum_by-take-le f ds (i + 1), units_few count ds few each) in
    let both = sum_magnitude (so_far * (10 ^ 4 * n)) (d.0 * (10 ^ 4 * n)) sum part before added in
    let whole : so_far * (10 ^ 4 * n) + d.0 * (10 ^ 4 * n) ≡ sum_by f (take (i + 1) ds) * (10 ^ 4 * n) = rw more (omega arith) in
    let bound = mul-le-mul within small in
    let room : so_far * (10 ^ 4 * n) + d.0 * (10 ^ 4 * n) ≤ 10 ^ 25 = omega (arith, bound) in
    record { room = omega (arith, before.small, added.small, room); magnitude = subst (λ k. MagnitudeUpTo k (sum_of sum part)) whole both }

-- ---- the squares

pub square_sum-more : (ds : List Dyeing) (i : ℕ) (d : Dyeing) → i < length ds → d ≡ get_or ds i d → square_sum (take (i + 1) ds) ≡ square_sum (take i ds) + d.0 * d.0
unfolding square_sum
square_sum-more ds i d lt is = sum_by-more (λ x. x.0 * x.0) ds i d lt is

pub no_squares : 0 ≡ square_sum []
unfolding square_sum
no_squares = refl

pub square_small : (ds : List Dyeing) (i : ℕ) (d : Dyeing) → All (λ d. d.0 ≤ 20000) ds → i < length ds → d ≡ get_or ds i d → d.0 * d.0 ≤ 4 * 10 ^ 8
square_small ds i d each lt is =
    let few : d.0 ≤ 20000 = subst (λ (x : Dyeing). x.0 ≤ 20000) (sym is) (each i d lt) in
    let m = mul-le-mul few few in omega arith
