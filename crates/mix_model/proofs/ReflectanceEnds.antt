-- The two ends of a reflectance, as code computes them from the ends of K/S.
use Rattle.std.proofs.Common.{ℕ, ℤ, pos, ◌*◌, ◌/◌, ◌^◌, ◌≡◌, ◌∙◌, ◌≤◌, ◌≤ℤ◌, ◌<ℤ◌, unsigned_abs, ap, sym, refl, arith}
use Rattle.std.proofs.lemmas.Int.{ints}
use Rattle.std.specs.Int.{div_ceil}
use Rattle.interval_specs.specs.Ends.{Ends, one_at}
use Rattle.interval_specs.specs.Operations.{quotient_at}
use Rattle.interval_specs.specs.Rounding.{floor_over, ceil_over}
use Rattle.interval_specs.proofs.Order.{refl_ℤ, trans_ℤ, min_second, max_first, magnitude_positive}
use Rattle.interval_specs.proofs.Rounds.{floor_far, ceil_near_0, floor_of_natural, ceil_of_natural}
use Rattle.interval_specs.proofs.Laws.{quotient_lower, quotient_upper}
use Rattle.fix_bounds.proofs.Passed.{passed, settled}
use Rattle.mix_model.specs.Reflectance.{divisor_at, reflectance_at}
use Rattle.mix_model.proofs.DivisorEnds.{down, up, divisor_is}
use Rattle.mix_model.proofs.ReflectanceRanges.{IsStrength, some_units, divisor_positive, divisor_range, reflectance_range}

magnitudes_ordered : (d : Ends) → pos 0 <ℤ d.lo → d.lo ≤ℤ d.hi → unsigned_abs d.lo ≤ unsigned_abs d.hi
magnitudes_ordered d some o = omega (arith, ints)

-- the two ends of 1 / d
pub one_lower : (n : ℕ) (d : Ends) → pos 0 <ℤ d.lo → d.lo ≤ℤ d.hi → pos (n * n / unsigned_abs d.hi) ≡ (quotient_at n (one_at n) d).lo
unfolding one_at
one_lower n d some o =
    floor_of_natural (n * n) (unsigned_abs d.hi)
    ∙ sym (quotient_lower n (one_at n) d some o (refl_ℤ (pos n))
    ∙ min_second (floor_over (pos (n * n)) (unsigned_abs d.lo)) (floor_over (pos (n * n)) (unsigned_abs d.hi)) (floor_far (pos (n * n)) (unsigned_abs d.lo) (unsigned_abs d.hi) (magnitude_positive d.lo some) (magnitudes_ordered d some o) (omega (arith, ints))))

pub one_upper : (n : ℕ) (d : Ends) → pos 0 <ℤ d.lo → d.lo ≤ℤ d.hi → pos (div_ceil (n * n) (unsigned_abs d.lo)) ≡ (quotient_at n (one_at n) d).hi
unfolding one_at
one_upper n d some o =
    ceil_of_natural (n * n) (unsigned_abs d.lo) (div_ceil (n * n) (unsigned_abs d.lo)) (magnitude_positive d.lo some) refl
    ∙ sym (quotient_upper n (one_at n) d some o (refl_ℤ (pos n))
    ∙ max_first (ceil_over (pos (n * n)) (unsigned_abs d.lo)) (ceil_over (pos (n * n)) (unsigned_abs d.hi)) (ceil_near_0 (pos (n * n)) (unsigned_abs d.lo) (unsigned_abs d.hi) (magnitude_positive d.lo some) (magnitudes_ordered d some o) (omega (arith, ints))))

passed_end : (n k : ℕ) (z : ℤ) → n ≤ 10 ^ 12 → pos 0 ≤ℤ z → z ≤ℤ pos n → pos k ≡ z → passed (pos k) ≡ z
passed_end n k z few p q e = settled (pos k) z n e (omega (arith, ints)) (omega arith)

-- the lower end by the greatest divisor, and the upper end by the least
pub lower_end : (n : ℕ) (q : Ends) (k : ℕ) → 10 ^ 6 ≤ n → n ≤ 10 ^ 12 → IsStrength n q → k ≡ n * n / up n (unsigned_abs q.hi) → passed (pos k) ≡ (reflectance_at n q).lo
unfolding reflectance_at
lower_end n q k least most s e =
    let some = some_units n least in
    let d = divisor_at n q in
    let r = reflectance_range n q some s in
    let last = ap (λ (z : Ends). unsigned_abs z.hi) (divisor_is n q some s.not_negative s.ordered) in
    passed_end n k (quotient_at n (one_at n) d).lo most r.not_negative (trans_ℤ _ _ _ r.ordered r.below)
    (ap pos (e ∙ sym (ap (λ y. n * n / y) last)) ∙ one_lower n d (divisor_positive n q some s) (divisor_range n q some s).ordered)

pub upper_end : (n : ℕ) (q : Ends) (k : ℕ) → 10 ^ 6 ≤ n → n ≤ 10 ^ 12 → IsStrength n q → k ≡ div_ceil (n * n) (down n (unsigned_abs q.lo)) → passed (pos k) ≡ (reflectance_at n q).hi
unfolding reflectance_at
upper_end n q k least most s e =
    let some = some_units n least in
    let d = divisor_at n q in
    let r = reflectance_range n q some s in
    let first = ap (λ (z : Ends). unsigned_abs z.lo) (divisor_is n q some s.not_negative s.ordered) in
    passed_end n k (quotient_at n (one_at n) d).hi most (trans_ℤ _ _ _ r.not_negative r.ordered) r.below
    (ap pos (e ∙ sym (ap (λ y. div_ceil (n * n) y) first)) ∙ one_upper n d (divisor_positive n q some s) (divisor_range n q some s).ordered)
