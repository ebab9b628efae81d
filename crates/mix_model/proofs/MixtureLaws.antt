-- The laws of mixing, which follow from the laws of its operations.
use Rattle.std.proofs.Common.{◌≡◌, ◌+◌, ◌*◌, ◌^◌, ◌≤◌, ◌<◌, ◌≤ℤ◌, ◌*ℤ◌, ℕ, pos, List, [], ◌∷◌, All, length, refl, subst, sym, one-mul, arith}
use Rattle.std.specs.List.{AllZip}
use Rattle.std.specs.Int.{int_max}
use Rattle.std.proofs.lemmas.List.{length-map}
use Rattle.std.proofs.lemmas.List.Elements.{All-cons, All-tail}
use Rattle.interval_specs.specs.Ends.{Ends}
use Rattle.interval_specs.specs.Encloses.{Encloses}
use Rattle.interval_specs.specs.Operations.{cut_low_at, sum_of}
use Rattle.interval_specs.specs.Ranges.{UpTo}
use Rattle.interval_specs.proofs.Laws.{cut_low_encloses, encloses_itself, nothing_encloses, sum_encloses}
use Rattle.interval_specs.proofs.Order.{either_max, max_left, max_right, trans_ℤ}
use Rattle.interval_specs.proofs.Ranges.{cut_low_not_negative}
use Rattle.spectral_tables.specs.Laws.{EnclosesWaves}
use Rattle.ks_curves.specs.Dye.{DyeData}
use Rattle.ks_curves.specs.KubelkaMunk.{ks_at}
use Rattle.ks_curves.specs.Calibration.{addition_over}
use Rattle.ks_curves.proofs.ContributionLaws.{addition_encloses, addition_narrows, ks_encloses}
use Rattle.mix_model.specs.Base.{IsBase, base_at}
use Rattle.mix_model.specs.Mixture.{CanReflect, Portion, contributions_at, mixed_at, mixture_from, mixture_ks_at, reflectances_of, strengths_of}
use Rattle.mix_model.specs.Reflectance.{reflectance_at}
use Rattle.mix_model.specs.Laws.{BaseEncloses, IsWithin, MixtureEncloses, MixtureNarrows}
use Rattle.mix_model.proofs.Portions.{cut_below}
use Rattle.mix_model.proofs.ReflectanceLaws.{reflectance_encloses}
use Rattle.mix_model.proofs.ReflectanceRanges.{IsStrength, reflectance_range}
-- a spectrum of a mixture has a place for each wavelength of its base
pub use Rattle.mix_model.proofs.Portions.{length-mixed}

-- a base has a place for each wavelength of its curve
pub length-base : (n : ℕ) (curve : List ℕ) → length (base_at n curve) ≡ length curve
unfolding base_at
length-base n curve = length-map curve (ks_at n)

pub base_encloses : BaseEncloses
unfolding base_at
base_encloses n m [] = tt
base_encloses n m (r ∷ curve) = (ks_encloses n m r, base_encloses n m curve)

-- the reflectances enclose those of narrower sums
reflectances_enclose : (n m : ℕ) (sums finer : List Ends) → 0 < n → 0 < m → EnclosesWaves m sums finer → EnclosesWaves m (reflectances_of n sums) (reflectances_of (m * n) finer)
unfolding reflectances_of strengths_of
reflectances_enclose n m [] [] some times h = tt
reflectances_enclose n m [] (b ∷ bs) some times h = absurd h
reflectances_enclose n m (a ∷ as') [] some times h = absurd h
reflectances_enclose n m (a ∷ as') (b ∷ bs) some times h = (
  reflectance_encloses n m (cut_low_at n (pos 0) a) (cut_low_at (m * n) (pos 0) b) some times (cut_low_not_negative n 0 a) (cut_low_encloses n m (pos 0) a b h.0),
  reflectances_enclose n m as' bs some times h.1,
)

-- ---- in the scale

contributions_enclose : (n m wave : ℕ) (ps : List Portion) → All (λ p. p.from ≤ p.upto) ps → Encloses m (contributions_at n wave ps) (contributions_at (m * n) wave ps)
unfolding contributions_at
contributions_enclose n m wave [] each = nothing_encloses m
contributions_enclose n m wave (p ∷ ps) each =
    let P : Portion → Type 0 = λ p. p.from ≤ p.upto in
    sum_encloses m _ _ _ _ (addition_encloses n m p.dye wave p.bath p.from p.upto (each 0 p (omega arith))) (contributions_enclose n m wave ps (All-tail P p ps each))

sums_enclose : (n m wave : ℕ) (ps : List Portion) (base finer : List Ends) → EnclosesWaves m base finer → All (λ p. p.from ≤ p.upto) ps
    → EnclosesWaves m (mixture_from n ps wave base) (mixture_from (m * n) ps wave finer)
unfolding mixture_from
sums_enclose n m wave ps [] [] h each = tt
sums_enclose n m wave ps [] (b ∷ bs) h each = absurd h
sums_enclose n m wave ps (a ∷ as') [] h each = absurd h
sums_enclose n m wave ps (a ∷ as') (b ∷ bs) h each = (sum_encloses m _ _ _ _ h.0 (contributions_enclose n m wave ps each), sums_enclose n m (wave + 1) ps as' bs h.1 each)

pub mixture_encloses : MixtureEncloses
mixture_encloses n m base finer ps some times h each = reflectances_enclose n m _ _ some times (sums_enclose n m 0 ps base finer h each)

-- a mixture on a measured curve keeps enclosing
pub any_mixture_encloses : (n m : ℕ) (curve : List ℕ) (ps : List Portion) → 0 < n → 0 < m → All (λ p. p.from ≤ p.upto) ps
    → EnclosesWaves m (mixed_at n (base_at n curve) ps) (mixed_at (m * n) (base_at (m * n) curve) ps)
any_mixture_encloses n m curve ps some times each = mixture_encloses n m (base_at n curve) (base_at (m * n) curve) ps some times (base_encloses n m curve) each

-- ---- in the ranges of units

pub contributions_narrow : (n wave : ℕ) (wide narrow : List Portion) → AllZip IsWithin wide narrow → Encloses 1 (contributions_at n wave wide) (contributions_at n wave narrow)
unfolding contributions_at
contributions_narrow n wave [] [] h = nothing_encloses 1
contributions_narrow n wave [] (q ∷ qs) h = absurd h
contributions_narrow n wave (p ∷ ps) [] h = absurd h
contributions_narrow n wave (p ∷ ps) (q ∷ qs) h =
    let outer = addition_over n p.dye wave p.bath p.from p.upto in
    let here = addition_narrows n p.dye wave p.bath p.from p.upto q.from q.upto h.0.from h.0.ordered h.0.upto in
    let onto = subst (λ (b : ℕ). Encloses 1 outer (addition_over n p.dye wave b q.from q.upto)) (sym h.0.bath) here in
    let same = subst (λ (d : DyeData). Encloses 1 outer (addition_over n d wave q.bath q.from q.upto)) (sym h.0.dye) onto in
    sum_encloses 1 _ _ _ _ same (contributions_narrow n wave ps qs h.1)

sums_narrow : (n wave : ℕ) (wide narrow : List Portion) (base : List Ends) → All (λ b. b.lo ≤ℤ b.hi) base → AllZip IsWithin wide narrow → EnclosesWaves 1 (mixture_from n wide wave base) (mixture_from n narrow wave base)
unfolding mixture_from
sums_narrow n wave wide narrow [] ordered h = tt
sums_narrow n wave wide narrow (a ∷ as') ordered h = (
  sum_encloses 1 _ _ _ _ (encloses_itself a (ordered 0 a (omega arith))) (contributions_narrow n wave wide narrow h),
  sums_narrow n (wave + 1) wide narrow as' (All-tail (λ (b : Ends). b.lo ≤ℤ b.hi) a as' ordered) h,
)

-- portions lie within themselves
pub within_itself : (ps : List Portion) → All (λ p. p.from ≤ p.upto) ps → AllZip IsWithin ps ps
within_itself [] ordered = tt
within_itself (p ∷ ps) ordered =
    (record { dye = refl; bath = refl; from = omega arith; ordered = ordered 0 p (omega arith); upto = omega arith }, within_itself ps (All-tail (λ (p : Portion). p.from ≤ p.upto) p ps ordered))

pub mixture_narrows : MixtureNarrows
mixture_narrows n base wide narrow some kept h =
    let sums = sums_narrow n 0 wide narrow base (λ k d lt. (kept.range k d lt).ordered) h in
    subst (λ k. EnclosesWaves 1 (mixed_at n base wide) (reflectances_of k (mixture_from n narrow 0 base))) (one-mul n) (reflectances_enclose n 1 _ _ some (omega arith) sums)

-- ---- the range of the reflectances

cut_ordered : (n : ℕ) (q : Ends) → q.lo ≤ℤ q.hi → (cut_low_at n (pos 0) q).lo ≤ℤ (cut_low_at n (pos 0) q).hi
unfolding cut_low_at
cut_ordered n q h =
    let top = int_max q.hi (pos 0 *ℤ pos n) in
    either_max (λ x. x ≤ℤ top) q.lo (pos 0 *ℤ pos n) (trans_ℤ q.lo q.hi top h (max_left q.hi (pos 0 *ℤ pos n))) (max_right q.hi (pos 0 *ℤ pos n))

mixtures_in_range : (n wave : ℕ) (ps : List Portion) (base : List Ends) → 0 < n → All (UpTo (5000 * n)) base → All (λ p. p.from ≤ p.upto) ps
    → CanReflect n (mixture_from n ps wave base) → All (UpTo n) (reflectances_of n (mixture_from n ps wave base))
unfolding mixture_from reflectances_of strengths_of
mixtures_in_range n wave ps [] some range each weak = λ k d lt. absurd (omega (arith, lt))
mixtures_in_range n wave ps (b ∷ base) some range each weak =
    let q = sum_of b (contributions_at n wave ps) in
    let later = mixture_from n ps (wave + 1) base in
    let itself = sum_encloses 1 _ _ _ _ (encloses_itself b (range 0 b (omega arith)).ordered) (contributions_narrow n wave ps ps (within_itself ps each)) in
    let strength : IsStrength n (cut_low_at n (pos 0) q) = record {
      not_negative = cut_low_not_negative n 0 q;
      ordered = cut_ordered n q itself.ordered;
      below = cut_below n (2 * 10 ^ 6 * n) q (weak 0 q (omega arith));
    } in
    All-cons (UpTo n) (reflectance_at n (cut_low_at n (pos 0) q)) (reflectances_of n later) (reflectance_range n (cut_low_at n (pos 0) q) some strength)
    (mixtures_in_range n (wave + 1) ps base some (All-tail (UpTo (5000 * n)) b base range) each (All-tail (λ (q : Ends). q.hi ≤ℤ pos (2 * 10 ^ 6 * n)) q later weak))

-- the reflectances of a mixture are from 0 to 1
pub mixed_in_range : (n : ℕ) (base : List Ends) (ps : List Portion) → 0 < n → IsBase n base → All (λ p. p.from ≤ p.upto) ps → CanReflect n (mixture_ks_at n base ps) → All (UpTo n) (mixed_at n base ps)
mixed_in_range n base ps some kept each weak = mixtures_in_range n 0 ps base some kept.range each weak
