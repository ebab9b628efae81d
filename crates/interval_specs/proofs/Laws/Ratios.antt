-- The laws of a ratio and of a multiple by a fraction.
use Rattle.std.proofs.Common.{ℕ, ℤ, pos, ◌≡◌, ◌∙◌, ◌*◌, ◌*ℤ◌, neg_ℤ, ap, arith}
use Rattle.std.proofs.Math.Nat.{zero-div}
use Rattle.std.proofs.lemmas.Int.{ints}
use Rattle.interval_specs.specs.Ends.{Ends, nothing}
use Rattle.interval_specs.specs.Rounding.{floor_over, ceil_over}
use Rattle.interval_specs.specs.Operations.{ratio_at, fraction_of}
use Rattle.interval_specs.specs.Laws.{RatioEncloses, FractionEncloses}
use Rattle.interval_specs.proofs.Order.{parts, by_parts, to_parts, mono_left, refl_ℤ, wider, le_pos}
use Rattle.interval_specs.proofs.Rounds.{floor_finer, ceil_finer, floor_le_ceil}

pub ratio_encloses : RatioEncloses
unfolding ratio_at
ratio_encloses n m p q =
    let fine = p *ℤ pos (m * n) in
    let coarse = p *ℤ pos n in
    record {
      low = floor_finer m q coarse fine (by_parts (pos m *ℤ coarse) fine (simp parts (omega arith)));
      high = ceil_finer m q coarse fine (by_parts fine (pos m *ℤ coarse) (simp parts (omega arith)));
      ordered = floor_le_ceil fine fine q (refl_ℤ fine);
    }

pub fraction_encloses : FractionEncloses
unfolding fraction_of
fraction_encloses m num den a a' p =
    let k = simp parts at (to_parts (pos num *ℤ (pos m *ℤ a.lo)) (pos num *ℤ a'.lo) (mono_left num (pos m *ℤ a.lo) a'.lo p.low)) in
    let j = simp parts at (to_parts (pos num *ℤ a'.hi) (pos num *ℤ (pos m *ℤ a.hi)) (mono_left num a'.hi (pos m *ℤ a.hi) p.high)) in
    record {
      low = floor_finer m den (a.lo *ℤ pos num) (a'.lo *ℤ pos num) (by_parts (pos m *ℤ (a.lo *ℤ pos num)) (a'.lo *ℤ pos num) (simp parts (omega arith)));
      high = ceil_finer m den (a.hi *ℤ pos num) (a'.hi *ℤ pos num) (by_parts (a'.hi *ℤ pos num) (pos m *ℤ (a.hi *ℤ pos num)) (simp parts (omega arith)));
      ordered = floor_le_ceil (a'.lo *ℤ pos num) (a'.hi *ℤ pos num) den (wider (pos num) a'.lo a'.hi (le_pos num) p.ordered);
    }

-- any interval times the fraction 0 / den is the interval from 0 to 0
pub none_of : (den : ℕ) (a : Ends) → fraction_of 0 den a ≡ nothing
unfolding fraction_of floor_over ceil_over
none_of den a =
    let low : floor_over (a.lo *ℤ pos 0) den ≡ pos 0 = ap (λ z. floor_over z den) (times_none a.lo) ∙ ap pos (zero-div den) in
    let high : ceil_over (a.hi *ℤ pos 0) den ≡ pos 0 = ap (λ z. ceil_over z den) (times_none a.hi) ∙ ap (λ k. neg_ℤ (pos k)) (zero-div den) in
    λ i. record { lo = low i; hi = high i }
  where
    times_none : (z : ℤ) → z *ℤ pos 0 ≡ pos 0
    times_none z = omega (arith, ints)
