-- The sums of a mixture, by the index of a wavelength, and what the dyes add to K/S so far.
use Rattle.std.proofs.Common.{◌≡◌, ◌+◌, ◌*◌, ◌^◌, ◌≤◌, ◌<◌, ◌≤ℤ◌, ◌*ℤ◌, ℕ, zero, suc, pos, List, [], ◌∷◌, All, Some, length, get_or, drop, take, ◌++◌, map, refl, ap, sym, subst, ◌∙◌, add-one, add-zero, arith}
use Rattle.std.specs.Prelude.{slice_get}
use Rattle.std.proofs.lemmas.List.{drop_all, get_or-map, length-map, take_all, take_more}
use Rattle.std.proofs.lemmas.Int.{ints}
use Rattle.std.proofs.lemmas.Option.{get_or_from_slice_get}
use Rattle.std.proofs.Math.Seq.{drop-cons}
use Rattle.std.proofs.Math.Nat.{mul-le-mul_right}
use Rattle.interval_specs.specs.Ends.{Ends, nothing, magnitude_of}
use Rattle.interval_specs.specs.Operations.{cut_low_at, sum_of}
use Rattle.interval_specs.specs.Ranges.{MagnitudeUpTo, UpTo}
use Rattle.interval_specs.proofs.Order.{either_max}
use Rattle.interval_specs.proofs.Additions.{sum-regroup, sum-nothing}
use Rattle.interval_specs.proofs.Ranges.{magnitude_of_up_to, magnitude_wider, sum_magnitude}
use Rattle.spectral_tables.specs.Grid.{IsWaveCount}
use Rattle.spectral_tables.specs.Spectrum.{IsSpectrum}
use Rattle.ks_curves.specs.Calibration.{addition_over}
use Rattle.mix_model.specs.Mixture.{CanReflect, Portion, contributions_at, mixture_from, mixed_at, reflectances_of, strengths_of}
use Rattle.mix_model.specs.Sums.{AreSums}
use Rattle.mix_model.specs.Reflectance.{reflectance_at}

-- the sum of a mixture at a wavelength
mixture_later : (n : ℕ) (ps : List Portion) (wave i : ℕ) (base : List Ends) (k : Ends) → slice_get base i ≡ Some k → slice_get (mixture_from n ps wave base) i ≡ Some (sum_of k (contributions_at n (wave + i) ps))
unfolding mixture_from
mixture_later n ps wave i [] k here = cc
mixture_later n ps wave zero (b ∷ base) k here = let e : Some b ≡ Some k = here in rw add-zero cc
mixture_later n ps wave (suc i) (b ∷ base) k here =
    let later = mixture_later n ps (wave + 1) i base k here in
    subst (λ w. slice_get (mixture_from n ps (wave + 1) base) i ≡ Some (sum_of k (contributions_at n w ps))) (omega arith) later

pub mixture_is : (n : ℕ) (ps : List Portion) (wave : ℕ) (base : List Ends) (k : Ends) → slice_get base wave ≡ Some k → slice_get (mixture_from n ps 0 base) wave ≡ Some (sum_of k (contributions_at n wave ps))
mixture_is n ps wave base k here = subst (λ w. slice_get (mixture_from n ps 0 base) wave ≡ Some (sum_of k (contributions_at n w ps))) (omega arith) (mixture_later n ps 0 wave base k here)

pub length-mixture : (n : ℕ) (ps : List Portion) (wave : ℕ) (base : List Ends) → length (mixture_from n ps wave base) ≡ length base
unfolding mixture_from
length-mixture n ps wave [] = refl
length-mixture n ps wave (k ∷ base) = let e = length-mixture n ps (wave + 1) base in omega (arith, e)

pub length-reflectances : (n : ℕ) (sums : List Ends) → length (reflectances_of n sums) ≡ length sums
unfolding reflectances_of strengths_of
length-reflectances n sums = length-map (strengths_of n sums) (reflectance_at n) ∙ length-map sums (cut_low_at n (pos 0))

pub length-mixed : (n : ℕ) (ps : List Portion) (base : List Ends) → length (mixed_at n base ps) ≡ length base
length-mixed n ps base = length-reflectances n (mixture_from n ps 0 base) ∙ length-mixture n ps 0 base

-- ---- one more dye

pub sum_more : (n wave : ℕ) (ps : List Portion) (i : ℕ) (p : Portion) (sum part total : Ends) → i < length ps → get_or ps i p ≡ p → part ≡ addition_over n p.dye wave p.bath p.from p.upto
    → sum_of sum (contributions_at n wave (drop i ps)) ≡ total
    → sum_of (sum_of sum part) (contributions_at n wave (drop (i + 1) ps)) ≡ total
unfolding contributions_at
sum_more n wave ps i p sum part total lt is added so_far =
    let rest = contributions_at n wave (drop (suc i) ps) in
    let split : drop i ps ≡ p ∷ drop (suc i) ps = drop-cons ps i p lt ∙ ap (λ (x : Portion). x ∷ drop (suc i) ps) is in
    let step : contributions_at n wave (drop i ps) ≡ sum_of (addition_over n p.dye wave p.bath p.from p.upto) rest = rw split refl in
    rw add-one (sum-regroup sum part rest ∙ ap (λ x. sum_of sum (sum_of x rest)) added ∙ ap (sum_of sum) (sym step) ∙ so_far)

pub sum_end : (n wave : ℕ) (ps : List Portion) (i : ℕ) (sum total : Ends) → length ps ≤ i → sum_of sum (contributions_at n wave (drop i ps)) ≡ total → sum ≡ total
unfolding contributions_at
sum_end n wave ps i sum total le so_far =
    let none : contributions_at n wave (drop i ps) ≡ nothing = rw (drop_all i ps le) refl in
    sym (sum-nothing sum) ∙ ap (sum_of sum) (sym none) ∙ so_far

-- ---- a sum does not overflow, and its range

-- a sum of the base and of i dyes
abbrev pub IsSoFar : ℕ → ℕ → Ends → Type 0
IsSoFar n i sum = MagnitudeUpTo (5000 * n + i * (4 * 10 ^ 8 * n)) sum

pub range_begins : (n : ℕ) (sum : Ends) → UpTo (5000 * n) sum → IsSoFar n 0 sum
range_begins n sum range = magnitude_wider (5000 * n) (5000 * n + 0 * (4 * 10 ^ 8 * n)) sum (omega arith) (magnitude_of_up_to (5000 * n) sum range)

pub sum_room : (n i count : ℕ) (sum part : Ends) → n ≤ 10 ^ 12 → i < count → count ≤ 12 → IsSoFar n i sum → MagnitudeUpTo (4 * 10 ^ 8 * n) part → magnitude_of sum + magnitude_of part ≤ 10 ^ 25
sum_room n i count sum part small lt few range added =
    let m : i * (4 * 10 ^ 8 * n) ≤ 12 * (4 * 10 ^ 8 * n) = mul-le-mul_right (4 * 10 ^ 8 * n) (omega (arith, lt, few)) in
    let s = range.small in
    let p = added.small in
    total (magnitude_of sum) (magnitude_of part) (i * (4 * 10 ^ 8 * n)) n small m s p
  where
    total : (s p k n : ℕ) → n ≤ 10 ^ 12 → k ≤ 12 * (4 * 10 ^ 8 * n) → s ≤ 5000 * n + k → p ≤ 4 * 10 ^ 8 * n → s + p ≤ 10 ^ 25
    total s p k n small m h g = omega arith

pub range_next : (n i : ℕ) (sum part : Ends) → IsSoFar n i sum → MagnitudeUpTo (4 * 10 ^ 8 * n) part → IsSoFar n (i + 1) (sum_of sum part)
range_next n i sum part range added =
    magnitude_wider (5000 * n + i * (4 * 10 ^ 8 * n) + 4 * 10 ^ 8 * n) (5000 * n + (i + 1) * (4 * 10 ^ 8 * n)) (sum_of sum part) (omega arith) (sum_magnitude (5000 * n + i * (4 * 10 ^ 8 * n)) (4 * 10 ^ 8 * n) sum part range added)

pub range_ends : (n i count : ℕ) (sum : Ends) → i ≤ count → count ≤ 12 → IsSoFar n i sum → MagnitudeUpTo (10 ^ 10 * n) sum
range_ends n i count sum le few range =
    let m : i * (4 * 10 ^ 8 * n) ≤ 12 * (4 * 10 ^ 8 * n) = mul-le-mul_right (4 * 10 ^ 8 * n) (omega (arith, le, few)) in
    magnitude_wider (5000 * n + i * (4 * 10 ^ 8 * n)) (10 ^ 10 * n) sum (omega (arith, m)) range

-- ---- items of a list so far

pub one_more : (all : List Ends) (i : ℕ) (a : Ends) (items : List Ends) → i < length all → slice_get all i ≡ Some a → items ≡ take i all → items ++ a ∷ [] ≡ take (i + 1) all
one_more all i a items lt found so_far =
    let here : get_or all i a ≡ a = get_or_from_slice_get all i a a found in
    (λ j. so_far j ++ sym here j ∷ []) ∙ sym (take_more all i a lt)

pub all_there : (all : List Ends) (i : ℕ) (items : List Ends) → length all ≤ i → items ≡ take i all → items ≡ all
all_there all i items le so_far = so_far ∙ take_all i all le

-- all sums of a mixture that can be turned into reflectances are kept
pub are_sums : (n : ℕ) (ps : List Portion) (base sums : List Ends) → sums ≡ mixture_from n ps 0 base → IsWaveCount (length base) → CanReflect n (mixture_from n ps 0 base) → AreSums n sums
are_sums n ps base sums is count reflects =
    let kept : AreSums n (mixture_from n ps 0 base) = record { count = subst IsWaveCount (sym (length-mixture n ps 0 base)) count; reflects = reflects } in
    subst (AreSums n) (sym is) kept

-- ---- the reflectances of sums

-- an upper end that is cut at 0
pub cut_below : (n k : ℕ) (a : Ends) → a.hi ≤ℤ pos k → (cut_low_at n (pos 0) a).hi ≤ℤ pos k
unfolding cut_low_at
cut_below n k a h = either_max (λ x. x ≤ℤ pos k) a.hi (pos 0 *ℤ pos n) h (omega (arith, ints))

pub reflectance_more : (n : ℕ) (sums : List Ends) (i : ℕ) (a r : Ends) (items : List Ends) → i < length sums → a ≡ get_or sums i a → r ≡ reflectance_at n (cut_low_at n (pos 0) a)
    → items ≡ take i (reflectances_of n sums) → items ++ r ∷ [] ≡ take (i + 1) (reflectances_of n sums)
unfolding reflectances_of strengths_of
reflectance_more n sums i a r items lt at is so_far =
    let qs = map (cut_low_at n (pos 0)) sums in
    let in_qs : i < length qs = rw length-map lt in
    let there : i < length (map (reflectance_at n) qs) = rw length-map in_qs in
    let q : get_or qs i (cut_low_at n (pos 0) a) ≡ cut_low_at n (pos 0) a = get_or-map (cut_low_at n (pos 0)) sums i a (cut_low_at n (pos 0) a) lt ∙ ap (cut_low_at n (pos 0)) (sym at) in
    let here : get_or (map (reflectance_at n) qs) i r ≡ r = get_or-map (reflectance_at n) qs i (cut_low_at n (pos 0) a) r in_qs ∙ ap (reflectance_at n) q ∙ sym is in
    (λ j. so_far j ++ sym here j ∷ []) ∙ sym (take_more (map (reflectance_at n) qs) i r there)

pub all_reflectances : (n : ℕ) (sums : List Ends) (i : ℕ) (items : List Ends) → length sums ≤ i → items ≡ take i (reflectances_of n sums) → items ≡ reflectances_of n sums
all_reflectances n sums i items le so_far = all_there (reflectances_of n sums) i items (omega (arith, le, length-reflectances n sums)) so_far

-- the reflectances are a spectrum
pub is_spectrum : (n : ℕ) (sums items slice : List Ends) → slice ≡ items → items ≡ reflectances_of n sums → IsWaveCount (length sums) → All (UpTo n) items → IsSpectrum n slice
is_spectrum n sums items slice same is count range =
    record { count = subst IsWaveCount (sym (ap length (same ∙ is) ∙ length-reflectances n sums)) count; range = rw same range }
