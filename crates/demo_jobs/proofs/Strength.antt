-- No recipe of the dyes is too strong: each dye adds at most 28,000 to K/S.
use Rattle.std.proofs.Common.{◌≡◌, ◌+◌, ◌*◌, ◌^◌, ◌<◌, ◌≤◌, ◌≤ℤ◌, ℕ, pos, List, ◌∷◌, [], length, map, refl, ap, sym, subst, ◌∙◌, All, arith, mul-le-mul_right, mul-le-mul_left}
use Rattle.std.specs.Prelude.{slice_index}
use Rattle.std.proofs.lemmas.Int.{ints}
use Rattle.std.proofs.lemmas.List.{length-map}
use Rattle.std.proofs.lemmas.List.Elements.{All-cons, All-head, All-map, All-nil, All-tail, All-weaker}
use Rattle.interval_specs.specs.Ends.{Ends, nothing}
use Rattle.interval_specs.specs.Ranges.{MagnitudeUpTo, UpTo}
use Rattle.interval_specs.proofs.Ranges.{cut_low_up_to, fraction_up_to, sum_magnitude, sum_up_to, up_to_wider}
use Rattle.spectral_tables.specs.Curve.{IsReflectance}
use Rattle.ks_curves.specs.Dye.{DyeData, Dyeing}
use Rattle.ks_curves.specs.KubelkaMunk.{ks_at}
use Rattle.ks_curves.specs.Calibration.{addition_by, addition_over, line_at, numerator_at, square_sum, value_over_by, weighted_addition, weighted_sum}
use Rattle.ks_curves.proofs.ContributionLaws.{addition_narrows}
use Rattle.ks_curves.proofs.Ranges.{addition_magnitude, ks_up_to, weighted_magnitude}
use Rattle.mix_model.specs.Base.{base_at}
use Rattle.mix_model.proofs.MixtureLaws.{length-base}
use Rattle.mix_model.specs.Mixture.{CanMix, CanReflect, IsPortion, Portion, contributions_at, dosed, doses_of, mixture_from, mixture_ks_at, no_steps, portions}
use Rattle.price_grid.specs.Grid.{IsUpTo}
use Rattle.demo_jobs.specs.declared.dyes.DrawnDye.{DrawnDye}
use Rattle.demo_jobs.specs.Cloths.{dyed, substrate}
use Rattle.demo_jobs.specs.Standard.{dye_data, measured}
use Rattle.demo_jobs.proofs.ClothFacts.{IsTenCurve, dyed_is_curve, substrate_is_curve}

-- the reflectance of a curve at a wavelength index
reflects : (curve : List ℕ) (wave : ℕ) → IsTenCurve curve → wave < 31 → IsReflectance (slice_index curve wave)
reflects curve wave kept lt = kept.range wave 0 (omega (arith, lt, kept.count))

nothing_small : (k : ℕ) → MagnitudeUpTo k nothing
nothing_small k = record { ordered = omega (arith, ints); small = omega (arith, ints) }

module _ (n : ℕ) (dye : DrawnDye) (wave : ℕ) (lt : wave < 31) where
  -- what a dyeing adds, times its units, is at most its units times 10^4 in magnitude
  dyeing_small : (units : ℕ) → MagnitudeUpTo (units * (10 ^ 4 * n)) (weighted_addition n substrate wave (measured dye units))
  unfolding weighted_addition
  dyeing_small units =
      weighted_magnitude n units _ (addition_magnitude n _ _ (ks_up_to n (slice_index (dyed dye units) wave) (reflects (dyed dye units) wave (dyed_is_curve dye units) lt))
      (ks_up_to n (slice_index substrate wave) (reflects substrate wave substrate_is_curve lt)))

  more_small : (units k : ℕ) (rest : List Dyeing) → MagnitudeUpTo k (weighted_sum n substrate wave rest) → MagnitudeUpTo (units * (10 ^ 4 * n) + k) (weighted_sum n substrate wave (measured dye units ∷ rest))
  unfolding weighted_sum
  more_small units k rest small = sum_magnitude (units * (10 ^ 4 * n)) k _ _ (dyeing_small units) small

  none_small : MagnitudeUpTo 0 (weighted_sum n substrate wave [])
  unfolding weighted_sum
  none_small = nothing_small 0

  numerator_small : UpTo (200 * (10 ^ 4 * n) + (500 * (10 ^ 4 * n) + (1000 * (10 ^ 4 * n) + (2000 * (10 ^ 4 * n) + 0)))) (numerator_at n substrate wave (dye_data dye).dyeings)
  unfolding numerator_at dye_data
  numerator_small = cut_low_up_to n _ 0 _ (omega arith) (more_small 200 _ _ (more_small 500 _ _ (more_small 1000 _ _ (more_small 2000 0 [] none_small))))

  squares : square_sum (dye_data dye).dyeings ≡ 5290000
  unfolding square_sum dye_data
  squares = refl

  -- up to 4,000 units of a dye add 0 to 28,000 to K/S
  value_small : (units : ℕ) → units ≤ 4000 → UpTo (28000 * n) (line_at n (dye_data dye) wave units)
  unfolding line_at dye_data
  value_small units few =
      let total = 200 * (10 ^ 4 * n) + (500 * (10 ^ 4 * n) + (1000 * (10 ^ 4 * n) + (2000 * (10 ^ 4 * n) + 0))) in
      let most : total * units ≤ total * 4000 = mul-le-mul_left total few in
      let enough : total * units ≤ 28000 * n * square_sum (dye_data dye).dyeings = rw squares (omega (arith, most)) in
      fraction_up_to total (28000 * n) units (square_sum (dye_data dye).dyeings) _ (rw squares (omega arith)) enough numerator_small

  -- so does an addition of few to many units
  addition_small : (bath few many : ℕ) → few ≤ many → many ≤ 4000 → UpTo (28000 * n) (addition_over n (dye_data dye) wave bath few many)
  unfolding addition_by value_over_by dye_data
  addition_small bath few many ordered small =
      let low = value_small few (omega (arith, ordered, small)) in
      let high = value_small many small in
      record { not_negative = low.not_negative; ordered = (addition_narrows n (dye_data dye) wave bath few many few many (omega arith) ordered (omega arith)).ordered; below = high.below }

-- 400 steps have 4,000 units
step_small : (dye : DrawnDye) (steps : ℕ) → steps ≤ 400 → steps * (dye_data dye).step ≤ 4000
unfolding dye_data
step_small dye steps few = omega (arith, few)

-- the dyes add at most 28,000 each to K/S
pub contributions_small : (n wave : ℕ) (dyes : List DrawnDye) (bath few many : List ℕ) → wave < 31 → IsUpTo few many → All (λ s. s ≤ 400) many
    → UpTo (length dyes * (28000 * n)) (contributions_at n wave (portions (map dye_data dyes) bath few many))
unfolding contributions_at dosed doses_of
contributions_small n wave [] bath few many lt le small = record { not_negative = omega (arith, ints); ordered = omega (arith, ints); below = omega (arith, ints) }
contributions_small n wave (dye ∷ dyes) [] few many lt le small = record { not_negative = omega (arith, ints); ordered = omega (arith, ints); below = omega (arith, ints) }
contributions_small n wave (dye ∷ dyes) (b ∷ bath) [] many lt le small = record { not_negative = omega (arith, ints); ordered = omega (arith, ints); below = omega (arith, ints) }
contributions_small n wave (dye ∷ dyes) (b ∷ bath) (f ∷ few) [] lt le small = absurd le
contributions_small n wave (dye ∷ dyes) (b ∷ bath) (f ∷ few) (s ∷ many) lt le small =
    let step = (dye_data dye).step in
    let here = addition_small n dye wave lt (b * step) (f * step) (s * step) (mul-le-mul_right step le.0) (step_small dye s (All-head (λ s. s ≤ 400) s many small)) in
    let there = contributions_small n wave dyes bath few many lt le.1 (All-tail (λ s. s ≤ 400) s many small) in
    let wide : 28000 * n + length dyes * (28000 * n) ≤ length (dye ∷ dyes) * (28000 * n) = omega arith in
    up_to_wider _ _ _ wide (sum_up_to (28000 * n) (length dyes * (28000 * n)) _ _ here there)

-- the mixture, wavelength by wavelength
mixture_small : (n k : ℕ) (ps : List Portion) (wave : ℕ) (base : List Ends) → All (UpTo (5000 * n)) base → ((w : ℕ) → w < wave + length base → UpTo k (contributions_at n w ps))
    → All (UpTo (5000 * n + k)) (mixture_from n ps wave base)
unfolding mixture_from
mixture_small n k ps wave [] small each = All-nil (UpTo (5000 * n + k))
mixture_small n k ps wave (q ∷ base) small each =
    All-cons (UpTo (5000 * n + k)) _ _ (sum_up_to (5000 * n) k q (contributions_at n wave ps) (All-head (UpTo (5000 * n)) q base small) (each wave (omega arith)))
    (mixture_small n k ps (wave + 1) base (All-tail (UpTo (5000 * n)) q base small) (λ w h. each w (omega (arith, h))))

pub base_small : (n : ℕ) (curve : List ℕ) → All IsReflectance curve → All (UpTo (5000 * n)) (base_at n curve)
unfolding base_at
base_small n curve range = All-map (UpTo (5000 * n)) (ks_at n) curve (All-weaker IsReflectance (λ m. UpTo (5000 * n) (ks_at n m)) (ks_up_to n) curve range)

-- the K/S of any recipes of up to six dyes of up to 400 steps each is at most 200,000
pub recipe_small : (n : ℕ) (dyes : List DrawnDye) (bath few many : List ℕ) → length dyes ≤ 6 → IsUpTo few many → All (λ s. s ≤ 400) many
    → All (UpTo (200000 * n)) (mixture_ks_at n (base_at n substrate) (portions (map dye_data dyes) bath few many))
recipe_small n dyes bath few many some le small =
    let ps = portions (map dye_data dyes) bath few many in
    let sum = mul-le-mul_right (28000 * n) some in
    let all = mixture_small n (length dyes * (28000 * n)) ps 0 (base_at n substrate) (base_small n substrate substrate_is_curve.range)
    (λ w h. contributions_small n w dyes bath few many (omega (arith, h, length-base n substrate, substrate_is_curve.count)) le small) in
    All-weaker (UpTo (5000 * n + length dyes * (28000 * n))) (UpTo (200000 * n)) (λ q. up_to_wider _ _ q (omega (arith, sum))) _ all

below : (k j : ℕ) (q : Ends) → k ≤ j → UpTo k q → q.hi ≤ℤ pos j
below k j q le small = omega (arith, ints, small.below)

up_to_itself : (steps : List ℕ) → IsUpTo steps steps
up_to_itself [] = tt
up_to_itself (n ∷ steps) = (omega arith, up_to_itself steps)

-- so a recipe can be turned into reflectances
pub recipe_reflects : (n : ℕ) (dyes : List DrawnDye) (bath steps : List ℕ) → length dyes ≤ 6 → All (λ s. s ≤ 400) steps → CanReflect n (mixture_ks_at n (base_at n substrate) (portions (map dye_data dyes) bath steps steps))
recipe_reflects n dyes bath steps some few =
    All-weaker (UpTo (200000 * n)) (λ q. q.hi ≤ℤ pos (2 * 10 ^ 6 * n)) (λ q small. below (200000 * n) (2 * 10 ^ 6 * n) q (omega arith) small) _ (recipe_small n dyes bath steps steps some (up_to_itself steps) few)

-- ---- the recipe can be mixed

portions_fit : (dyes : List DrawnDye) (steps : List ℕ) → All (λ s. s ≤ 400) steps → All (IsPortion 31) (portions (map dye_data dyes) (no_steps (map dye_data dyes)) steps steps)
unfolding dosed doses_of dye_data
portions_fit [] steps few = All-nil (IsPortion 31)
portions_fit (dye ∷ dyes) [] few = All-nil (IsPortion 31)
portions_fit (dye ∷ dyes) (s ∷ steps) few =
    let small = All-head (λ s. s ≤ 400) s steps few in
    All-cons (IsPortion 31) _ _ (record { ordered = omega arith; units = omega (arith, small); waves = substrate_is_curve.count }) (portions_fit dyes steps (All-tail (λ s. s ≤ 400) s steps few))

pub portions_ordered : (dyes : List DyeData) (bath steps : List ℕ) → All (λ p. p.from ≤ p.upto) (portions dyes bath steps steps)
unfolding dosed doses_of
portions_ordered [] bath steps = All-nil (λ (p : Portion). p.from ≤ p.upto)
portions_ordered (d ∷ ds) [] steps = All-nil (λ (p : Portion). p.from ≤ p.upto)
portions_ordered (d ∷ ds) (b ∷ bath) [] = All-nil (λ (p : Portion). p.from ≤ p.upto)
portions_ordered (d ∷ ds) (b ∷ bath) (s ∷ steps) = All-cons (λ (p : Portion). p.from ≤ p.upto) _ _ (omega arith) (portions_ordered ds bath steps)

pub can_mix : (n : ℕ) (base : List Ends) (data' : List DyeData) (bath : List ℕ) (dyes : List DrawnDye) (steps : List ℕ) → base ≡ base_at n substrate → data' ≡ map dye_data dyes → bath ≡ no_steps data'
    → length dyes ≤ 6 → length steps ≡ length dyes → All (λ s. s ≤ 400) steps → CanMix n base data' bath steps steps
can_mix n base data' bath dyes steps base_is data_is bath_is some count few =
    let own = base_at n substrate in
    let all = map dye_data dyes in
    let waves : 31 ≡ length own = sym (length-base n substrate ∙ substrate_is_curve.count) in
    let dyes_count : length all ≡ length dyes = length-map dyes dye_data in
    let as_many : length steps ≡ length all = count ∙ sym dyes_count in
    let fit : All (IsPortion (length own)) (portions all (no_steps all) steps steps) = subst (λ w. All (IsPortion w) (portions all (no_steps all) steps steps)) waves (portions_fit dyes steps few) in
    let made : CanMix n own all (no_steps all) steps steps = record {
      adds = record { steps = record { few = omega (arith, some, dyes_count); bath_count = length-map all (λ d. 0); lo_count = as_many; hi_count = as_many }; each = fit };
      reflects = recipe_reflects n dyes (no_steps all) steps some few;
    } in
    let in_bath : bath ≡ no_steps all = bath_is ∙ ap no_steps data_is in
    subst (λ (b : List Ends). CanMix n b data' bath steps steps) (sym base_is)
    (subst (λ (ds : List DyeData). CanMix n own ds bath steps steps) (sym data_is) (subst (λ (xs : List ℕ). CanMix n own all xs steps steps) (sym in_bath) made))
