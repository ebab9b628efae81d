-- The mixtures of the tests are not too strong to be mixed: this is proved by computing them.
use Rattle.std.proofs.Common.{◌≡◌, ◌*◌, ◌^◌, ◌≤ℤ◌, ◌≤◌, ◌<◌, ℕ, pos, Bool, true, List, [], ◌∷◌, get_or, refl, zero, suc, lit≤, arith}
use Rattle.std.specs.Prelude.{int_le, replicate}
use Rattle.std.specs.List.{list_all}
use Rattle.std.proofs.lemmas.List.Sums.{AllPass-from_list_all}
use Rattle.interval_specs.specs.Ends.{Ends}
use Rattle.interval_specs.specs.Operations.{ratio_at, sum_of, difference_of, multiple_of, fraction_of, cut_low_at}
use Rattle.interval_specs.specs.Rounding.{floor_over, ceil_over}
use Rattle.interval_specs.proofs.Laws.{le_holds}
use Rattle.ks_curves.specs.KubelkaMunk.{ks_at}
use Rattle.ks_curves.specs.Dye.{DyeData}
use Rattle.ks_curves.specs.Calibration.{addition_by, line_at, numerator_at, square_sum, value_over_by, weighted_addition, weighted_sum}
use Rattle.mix_model.specs.Base.{IsBase, base_at}
use Rattle.mix_model.specs.Mixture.{Portion, CanMix, IsPortion, contributions_at, dosed, doses_of, mixture_from, mixture_ks_at, portions}
use Rattle.mix_model.specs.Samples.{rust}
use Rattle.mix_model.specs.Sums.{AreSumsOf}

is_weak : Ends → Bool
is_weak q = int_le q.hi (pos (2 * 10 ^ 6 * 10 ^ 12))

-- up to a hundred steps of the dye, in an empty bath
mixture : (fewest most : ℕ) → List Ends
mixture fewest most = mixture_ks_at (10 ^ 12) (base_at (10 ^ 12) (replicate 31 500000)) (portions (rust ∷ []) (0 ∷ []) (fewest ∷ []) (most ∷ []))

computed : (fewest : ℕ) → (list_all is_weak (mixture fewest 100) ≡ true) × (list_all is_weak (mixture fewest 4) ≡ true)
unfolding is_weak mixture rust dosed doses_of mixture_from base_at ks_at ratio_at floor_over ceil_over contributions_at addition_by value_over_by line_at fraction_of numerator_at cut_low_at weighted_sum weighted_addition multiple_of difference_of sum_of square_sum
computed fewest = (refl, refl)

weak : (q : Ends) → is_weak q ≡ true → q.hi ≤ℤ pos (2 * 10 ^ 6 * 10 ^ 12)
unfolding is_weak
weak q e = le_holds q.hi (pos (2 * 10 ^ 6 * 10 ^ 12)) e

portion_is : (fewest most k : ℕ) (d : Portion) → fewest ≤ most → most ≤ 100 → k < 1 → IsPortion 31 (get_or (portions (rust ∷ []) (0 ∷ []) (fewest ∷ []) (most ∷ [])) k d)
unfolding rust dosed doses_of
portion_is fewest most zero d le few lt = record { ordered = omega (arith, le); units = omega (arith, few); waves = refl }
portion_is fewest most (suc k) d le few lt = absurd (omega arith)

all_mixes : (fewest most : ℕ) → fewest ≤ most → most ≤ 100 → list_all is_weak (mixture fewest most) ≡ true → CanMix (10 ^ 12) (base_at (10 ^ 12) (replicate 31 500000)) (rust ∷ []) (0 ∷ []) (fewest ∷ []) (most ∷ [])
unfolding mixture base_at dosed doses_of
all_mixes fewest most le few small = record {
  adds = record { steps = record { few = lit≤ tt; bath_count = refl; lo_count = refl; hi_count = refl }; each = λ k d lt. portion_is fewest most k d le few lt };
  reflects = λ k d lt. weak (get_or (mixture fewest most) k d) (AllPass-from_list_all is_weak (mixture fewest most) small k d lt);
}

pub mixes : (base : List Ends) (dye : DyeData) (fewest : ℕ) → base ≡ base_at (10 ^ 12) (replicate 31 500000) → dye ≡ rust → fewest ≤ 100 → CanMix (10 ^ 12) base (dye ∷ []) (0 ∷ []) (fewest ∷ []) (100 ∷ [])
mixes base dye fewest same is le = rw (same, is) (all_mixes fewest 100 le (lit≤ tt) (computed fewest).0)

pub few_mix : (base : List Ends) (dye : DyeData) → base ≡ base_at (10 ^ 12) (replicate 31 500000) → dye ≡ rust → CanMix (10 ^ 12) base (dye ∷ []) (0 ∷ []) (0 ∷ []) (4 ∷ [])
few_mix base dye same is = rw (same, is) (all_mixes 0 4 (lit≤ tt) (lit≤ tt) (computed 0).1)

-- ---- two dyes

two : List Ends
two = mixture_ks_at (10 ^ 12) (base_at (10 ^ 12) (replicate 31 500000)) (portions (rust ∷ rust ∷ []) (0 ∷ 0 ∷ []) (0 ∷ 0 ∷ []) (9 ∷ 7 ∷ []))

computed_two : list_all is_weak two ≡ true
unfolding is_weak two rust dosed doses_of mixture_from base_at ks_at ratio_at floor_over ceil_over contributions_at addition_by value_over_by line_at fraction_of numerator_at cut_low_at weighted_sum weighted_addition multiple_of difference_of sum_of square_sum
computed_two = refl

two_portions : (k : ℕ) (d : Portion) → k < 2 → IsPortion 31 (get_or (portions (rust ∷ rust ∷ []) (0 ∷ 0 ∷ []) (0 ∷ 0 ∷ []) (9 ∷ 7 ∷ [])) k d)
unfolding rust dosed doses_of
two_portions zero d lt = record { ordered = lit≤ tt; units = lit≤ tt; waves = refl }
two_portions (suc zero) d lt = record { ordered = lit≤ tt; units = lit≤ tt; waves = refl }
two_portions (suc (suc k)) d lt = absurd (omega arith)

two_mix : CanMix (10 ^ 12) (base_at (10 ^ 12) (replicate 31 500000)) (rust ∷ rust ∷ []) (0 ∷ 0 ∷ []) (0 ∷ 0 ∷ []) (9 ∷ 7 ∷ [])
unfolding two base_at dosed doses_of
two_mix = record {
  adds = record { steps = record { few = lit≤ tt; bath_count = refl; lo_count = refl; hi_count = refl }; each = two_portions };
  reflects = λ k d lt. weak (get_or two k d) (AllPass-from_list_all is_weak two computed_two k d lt);
}

pub both_mix : (base : List Ends) (dye other : DyeData) → base ≡ base_at (10 ^ 12) (replicate 31 500000) → dye ≡ rust → other ≡ rust
    → CanMix (10 ^ 12) base (dye ∷ other ∷ []) (0 ∷ 0 ∷ []) (0 ∷ 0 ∷ []) (9 ∷ 7 ∷ [])
both_mix base dye other same is is' = rw (same, is, is') two_mix

pub first_sums : (base : List Ends) (dye other : DyeData) (sums : List Ends) → IsBase (10 ^ 12) base → base ≡ base_at (10 ^ 12) (replicate 31 500000) → dye ≡ rust → other ≡ rust
    → sums ≡ mixture_ks_at (10 ^ 12) base (portions (dye ∷ other ∷ []) (0 ∷ 0 ∷ []) (0 ∷ 0 ∷ []) (9 ∷ 7 ∷ []))
    → AreSumsOf (10 ^ 12) sums base (dye ∷ other ∷ []) (0 ∷ 0 ∷ []) (0 ∷ 0 ∷ []) (9 ∷ 7 ∷ [])
first_sums base dye other sums kept same is is' are = record { is_base = kept; mixes = both_mix base dye other same is is'; are = are }
