-- Recipes of a job, and boxes of recipes from low to high steps of each dye, can be mixed: a box lies
-- within the box of up to the most steps of each dye, which is not too strong.
use Rattle.std.proofs.Common.{◌≡◌, ◌∙◌, ◌*◌, ◌^◌, ◌≤◌, ℕ, false, List, [], ◌∷◌, All, length, map, refl, sym, subst, arith}
use Rattle.std.specs.List.{AllZip}
use Rattle.std.proofs.Math.Nat.{mul-le-mul_right}
use Rattle.std.proofs.lemmas.List.Elements.{All-cons, All-tail}
use Rattle.std.proofs.lemmas.Slice.Zip.{AllZip-long}
use Rattle.ks_curves.specs.Dye.{DyeData}
use Rattle.mix_model.specs.Base.{base_at}
use Rattle.mix_model.specs.Laws as mixing
use Rattle.mix_model.specs.Mixture.{CanMix, CanReflect, IsPortion, Portion, dosed, doses_of, mixture_ks_at, portions}
use Rattle.mix_model.specs.Strength.{is_too_strong}
use Rattle.mix_model.proofs.MixtureLaws.{length-base}
use Rattle.mix_model.proofs.StrengthLaws.{weak_reflects}
use Rattle.price_grid.specs.declared.dye_cost.DyeCost.{DyeCost}
use Rattle.price_grid.specs.Grid.{IsDyeCost, IsGrid, IsRecipe, IsUpTo}
use Rattle.job_file.specs.Resolve.{ResolvedJob, base_curve, up_to_most}
use Rattle.job_file.specs.ResolvedKept.{IsResolved}
use Rattle.recipe_judge.proofs.Waves.{length-base_curve}

-- ---- the steps

pub up_to_itself : (steps : List ℕ) → IsUpTo steps steps
up_to_itself [] = tt
up_to_itself (n ∷ steps) = (omega arith, up_to_itself steps)

-- the most steps of each dye of a grid
abbrev pub most_of : List DyeCost → List ℕ
most_of grid = map (λ cost. cost.most) grid

recipe_up_to_most : (grid : List DyeCost) (high : List ℕ) → IsRecipe grid high → IsUpTo high (most_of grid)
recipe_up_to_most [] [] h = tt
recipe_up_to_most [] (n ∷ high) h = absurd h
recipe_up_to_most (cost ∷ grid) [] h = absurd h
recipe_up_to_most (cost ∷ grid) (n ∷ high) h = (h.0, recipe_up_to_most grid high h.1)

-- ---- the strength

-- the portions of a box lie within those of up to the most steps of each dye
within_most : (dyes : List DyeData) (bath low high most : List ℕ) → IsUpTo low high → IsUpTo high most → AllZip mixing.IsWithin (up_to_most dyes bath most) (portions dyes bath low high)
unfolding dosed doses_of
within_most [] bath low high most h g = tt
within_most (d ∷ ds) [] low high most h g = tt
within_most (d ∷ ds) (b ∷ bath) [] [] [] h g = tt
within_most (d ∷ ds) (b ∷ bath) [] [] (m ∷ ms) h g = absurd g
within_most (d ∷ ds) (b ∷ bath) [] (k ∷ ks) most h g = absurd h
within_most (d ∷ ds) (b ∷ bath) (l ∷ ls) [] most h g = absurd h
within_most (d ∷ ds) (b ∷ bath) (l ∷ ls) (k ∷ ks) [] h g = absurd g
within_most (d ∷ ds) (b ∷ bath) (l ∷ ls) (k ∷ ks) (m ∷ ms) h g = (
  record { dye = refl; bath = refl; from = omega arith; ordered = mul-le-mul_right d.step h.0; upto = mul-le-mul_right d.step g.0 },
  within_most ds bath ls ks ms h.1 g.1,
)

-- a box is not too strong where recipes of up to the most steps of each dye are not
can_reflect : (base : List ℕ) (dyes : List DyeData) (bath low high most : List ℕ) → IsUpTo low high → IsUpTo high most → is_too_strong (base_at (10 ^ 12) base) (up_to_most dyes bath most) ≡ false
    → CanReflect (10 ^ 12) (mixture_ks_at (10 ^ 12) (base_at (10 ^ 12) base) (portions dyes bath low high))
can_reflect base dyes bath low high most h g weak = weak_reflects (base_at (10 ^ 12) base) (up_to_most dyes bath most) (portions dyes bath low high) weak (within_most dyes bath low high most h g)

-- ---- the portions

pub fits_units : (step most other few : ℕ) → step ≡ other → other * most ≤ 20000 → few ≤ most → few * step ≤ 20000
fits_units step most other few same narrow le = let m = mul-le-mul_right other le in rw same (omega (arith, m, narrow))

portions_fit : (count : ℕ) (dyes : List DyeData) (grid : List DyeCost) (bath low high : List ℕ) → AllZip (λ dye cost. dye.step ≡ cost.step) dyes grid → All IsDyeCost grid
    → All (λ d. length d.substrate ≡ count) dyes → IsRecipe grid bath → IsUpTo low high → IsRecipe grid high → All (IsPortion count) (portions dyes bath low high)
unfolding dosed doses_of
portions_fit count [] grid bath low high same ranges waves f h g = λ k d lt. absurd (omega (arith, lt))
portions_fit count (d ∷ ds) [] bath low high same ranges waves f h g = absurd same
portions_fit count (d ∷ ds) (c ∷ cs) [] low high same ranges waves f h g = λ k d lt. absurd (omega (arith, lt))
portions_fit count (d ∷ ds) (c ∷ cs) (b ∷ bs) [] high same ranges waves f h g = λ k d lt. absurd (omega (arith, lt))
portions_fit count (d ∷ ds) (c ∷ cs) (b ∷ bs) (l ∷ ls) [] same ranges waves f h g = absurd h
portions_fit count (d ∷ ds) (c ∷ cs) (b ∷ bs) (l ∷ ls) (k ∷ ks) same ranges waves f h g =
    let range = ranges 0 c (omega arith) in
    let p : Portion = record { dye = d; bath = b * d.step; from = l * d.step; upto = k * d.step } in
    let in_bath = fits_units d.step c.most c.step b same.0 range.narrow f.0 in
    let added = fits_units d.step c.most c.step k same.0 range.narrow g.0 in
    let here : IsPortion count p = record { ordered = mul-le-mul_right d.step h.0; units = omega (arith, in_bath, added); waves = waves 0 d (omega arith) } in
    All-cons (IsPortion count) p (portions ds bs ls ks) here
    (portions_fit count ds cs bs ls ks same.1 (All-tail IsDyeCost c cs ranges) (All-tail (λ (d : DyeData). length d.substrate ≡ count) d ds waves) f.1 h.1 g.1)

pub portions_ordered : (dyes : List DyeData) (bath low high : List ℕ) → IsUpTo low high → All (λ p. p.from ≤ p.upto) (portions dyes bath low high)
unfolding dosed doses_of
portions_ordered [] bath low high h = λ k d lt. absurd (omega (arith, lt))
portions_ordered (d ∷ ds) [] low high h = λ k d lt. absurd (omega (arith, lt))
portions_ordered (d ∷ ds) (b ∷ bs) [] high h = λ k d lt. absurd (omega (arith, lt))
portions_ordered (d ∷ ds) (b ∷ bs) (l ∷ ls) [] h = absurd h
portions_ordered (d ∷ ds) (b ∷ bs) (l ∷ ls) (k ∷ ks) h =
    All-cons (λ (p : Portion). p.from ≤ p.upto) (record { dye = d; bath = b * d.step; from = l * d.step; upto = k * d.step }) (portions ds bs ls ks) (mul-le-mul_right d.step h.0) (portions_ordered ds bs ls ks h.1)

-- all recipes from low to high steps of each dye can be mixed
pub can_mix : (r : ResolvedJob) (low high : List ℕ) → IsResolved r → IsGrid r.grid → IsUpTo low high → IsRecipe r.grid high
    → CanMix (10 ^ 12) (base_at (10 ^ 12) (base_curve r.substrate r.batch)) r.dyes r.limits.bath low high
can_mix r low high kept grid h g =
    let count = length-base (10 ^ 12) (base_curve r.substrate r.batch) ∙ length-base_curve r kept.waves in
    let dyes = AllZip-long (λ (dye : DyeData) (cost : DyeCost). dye.step ≡ cost.step) r.dyes r.grid kept.steps in
    let highs = AllZip-long (λ (dye : DyeCost) (n : ℕ). n ≤ dye.most) r.grid high g in
    let baths = AllZip-long (λ (dye : DyeCost) (n : ℕ). n ≤ dye.most) r.grid r.limits.bath kept.limits_fit.bath in
    let lows = AllZip-long (λ (l h : ℕ). l ≤ h) low high h in
    record {
      adds = record {
        steps = record { few = omega (arith, dyes, grid.few); bath_count = omega (arith, dyes, baths); lo_count = omega (arith, dyes, highs, lows); hi_count = omega (arith, dyes, highs) };
        each = subst (λ k. All (IsPortion k) (portions r.dyes r.limits.bath low high)) (sym count)
            (portions_fit (length r.substrate) r.dyes r.grid r.limits.bath low high kept.steps grid.ranges kept.waves.dyes kept.limits_fit.bath h g);
      };
      reflects = can_reflect (base_curve r.substrate r.batch) r.dyes r.limits.bath low high (most_of r.grid) h (recipe_up_to_most r.grid high g) kept.weak;
    }
