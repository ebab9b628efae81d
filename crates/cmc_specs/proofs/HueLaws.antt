-- The laws of T and S_H.
use Rattle.std.proofs.Common.{ℕ, ℤ, pos, negsuc, ◌≡◌, Bool, true, false, ◌&&◌, ◌||◌, ◌==◌, ◌*◌, ◌<◌, ◌≤ℤ◌, ◌<ℤ◌, int_le, int_lt, unsigned_abs, refl, sym, arith, ⊎_elim, inl, inr, ◌⊎◌}
use Rattle.std.proofs.lemmas.Int.{ints}
use Rattle.std.proofs.lemmas.Bool.{false≢true}
use Rattle.std.proofs.lemmas.Bool.Decides.{nat_tests}
use Rattle.interval_specs.specs.Ends.{Ends}
use Rattle.interval_specs.specs.Encloses.{Encloses}
use Rattle.interval_specs.specs.Ranges.{UpTo}
use Rattle.interval_specs.specs.Operations.{absolute_of, cut_high_at, quotient_at}
use Rattle.interval_specs.proofs.Laws.{absolute_encloses, cut_high_encloses, difference_encloses, fraction_encloses, low_not_negative, product_encloses, quotient_encloses, ratio_encloses, sum_encloses, one_encloses, choice_encloses, le_test, lt_test, both_hold, le_holds, lt_holds, lt_refuses, still_not_above_0}
use Rattle.interval_specs.proofs.Order.{times_positive, trans_ℤ}
use Rattle.cmc_specs.specs.Cmc.{along_12, along_35, cosine_magnitude, first_form, hue_factor, hue_sum_15, hue_sum_16, hue_weight, is_inside, is_outside, second_form}
use Rattle.cmc_specs.proofs.PartLaws.{bracket_encloses}
use Rattle.cmc_specs.proofs.UnitRanges.{chroma_positive, cosine_magnitude_up_to}

-- ---- the products with the chroma

pub along_35_encloses : (n m : ℕ) (a b a' b' : Ends) → 0 < n → 0 < m → Encloses m a a' → Encloses m b b' → Encloses m (along_35 n a b) (along_35 (m * n) a' b')
unfolding along_35
along_35_encloses n m a b a' b' some finer p q =
    difference_encloses m _ _ _ _ (product_encloses n m _ _ _ _ some finer p (bracket_encloses n m 819152044288)) (product_encloses n m _ _ _ _ some finer q (bracket_encloses n m 573576436351))

pub along_12_encloses : (n m : ℕ) (a b a' b' : Ends) → 0 < n → 0 < m → Encloses m a a' → Encloses m b b' → Encloses m (along_12 n a b) (along_12 (m * n) a' b')
unfolding along_12
along_12_encloses n m a b a' b' some finer p q =
    sum_encloses m _ _ _ _ (product_encloses n m _ _ _ _ some finer p (bracket_encloses n m 978147600733)) (product_encloses n m _ _ _ _ some finer q (bracket_encloses n m 207911690817))

pub hue_sum_15_encloses : (n m : ℕ) (a b a' b' : Ends) → 0 < n → 0 < m → Encloses m a a' → Encloses m b b' → Encloses m (hue_sum_15 n a b) (hue_sum_15 (m * n) a' b')
unfolding hue_sum_15
hue_sum_15_encloses n m a b a' b' some finer p q =
    sum_encloses m _ _ _ _ (product_encloses n m _ _ _ _ some finer p (bracket_encloses n m 258819045102)) (product_encloses n m _ _ _ _ some finer q (bracket_encloses n m 965925826289))

pub hue_sum_16_encloses : (n m : ℕ) (a b a' b' : Ends) → 0 < n → 0 < m → Encloses m a a' → Encloses m b b' → Encloses m (hue_sum_16 n a b) (hue_sum_16 (m * n) a' b')
unfolding hue_sum_16
hue_sum_16_encloses n m a b a' b' some finer p q =
    sum_encloses m _ _ _ _ (product_encloses n m _ _ _ _ some finer p (bracket_encloses n m 275637355816)) (product_encloses n m _ _ _ _ some finer q (bracket_encloses n m 961261695938))

-- ---- a cosine's magnitude

-- the interval from 0 to 1 encloses each finer one from 0 to 1
from_0_to_1 : (n m : ℕ) (x : Ends) → UpTo (m * n) x → Encloses m (record { lo = pos 0; hi = pos n }) x
from_0_to_1 n m x u = let z = u.not_negative in let b = u.below in record { low = omega (arith, ints); high = omega (arith, ints); ordered = u.ordered }

still_positive : (x : ℤ) → pos 0 <ℤ x → (unsigned_abs x == 0) ≡ false
still_positive (pos x) h = let p : 0 < x = omega (arith, ints) in grind (arith, nat_tests)
still_positive (negsuc x) h = absurd (omega (arith, ints))

any_cosine : (n : ℕ) (w c : Ends) → (unsigned_abs c.lo == 0) ≡ true → cosine_magnitude n w c ≡ record { lo = pos 0; hi = pos n }
unfolding cosine_magnitude
any_cosine n w c e = rw e refl

cosine_quotient : (n : ℕ) (w c : Ends) → (unsigned_abs c.lo == 0) ≡ false → cosine_magnitude n w c ≡ cut_high_at n (pos 1) (quotient_at n (absolute_of w) c)
unfolding cosine_magnitude
cosine_quotient n w c e = rw e refl

pub cosine_magnitude_encloses : (n m : ℕ) (w c w' c' : Ends) → 0 < m → pos 0 ≤ℤ c.lo → Encloses m w w' → Encloses m c c' → Encloses m (cosine_magnitude n w c) (cosine_magnitude (m * n) w' c')
cosine_magnitude_encloses n m w c w' c' finer z p q = by (unsigned_abs c.lo == 0) refl
  where
    by : (t : Bool) → (unsigned_abs c.lo == 0) ≡ t → Encloses m (cosine_magnitude n w c) (cosine_magnitude (m * n) w' c')
    by true e = rw (any_cosine n w c e) (from_0_to_1 n m _ (cosine_magnitude_up_to (m * n) w' c' (low_not_negative m c c' q z) q.ordered))
    by false e =
        let low = chroma_positive c.lo z e in
        let fine = still_positive c'.lo (times_positive m c.lo c'.lo finer low q.low) in
        rw (cosine_quotient n w c e) (rw (cosine_quotient (m * n) w' c' fine) (cut_high_encloses n m (pos 1) _ _ (quotient_encloses n m _ _ _ _ finer low (absolute_encloses m w w' finer p) q)))

-- ---- T

hold_both : (s t : Bool) → s ≡ true → t ≡ true → (s && t) ≡ true
hold_both true t h k = k
hold_both false t h k = h

either_holds : (s t : Bool) → (s || t) ≡ true → (s ≡ true) ⊎ (t ≡ true)
either_holds true t e = inl refl
either_holds false t e = inr e

first_short : (s t u v : Bool) → s ≡ false → u ≡ true → ((s && t) ≡ false) × ((u || v) ≡ true)
first_short true t u v h k = absurd (false≢true (sym h))
first_short false t true v h k = (refl, refl)
first_short false t false v h k = absurd (false≢true k)

second_short : (s t u v : Bool) → t ≡ false → v ≡ true → ((s && t) ≡ false) × ((u || v) ≡ true)
second_short true t true v h k = (h, refl)
second_short true t false v h k = (h, k)
second_short false t true v h k = (refl, refl)
second_short false t false v h k = (refl, k)

pub first_form_encloses : (n m : ℕ) (a b c a' b' c' : Ends) → 0 < n → 0 < m → pos 0 ≤ℤ c.lo → Encloses m a a' → Encloses m b b' → Encloses m c c' → Encloses m (first_form n a b c) (first_form (m * n) a' b' c')
unfolding first_form
first_form_encloses n m a b c a' b' c' some finer z p q r =
    sum_encloses m _ _ _ _ (ratio_encloses n m (pos 36) 100) (fraction_encloses m 4 10 _ _ (cosine_magnitude_encloses n m _ _ _ _ finer z (along_35_encloses n m a b a' b' some finer p q) r))

pub second_form_encloses : (n m : ℕ) (a b c a' b' c' : Ends) → 0 < n → 0 < m → pos 0 ≤ℤ c.lo → Encloses m a a' → Encloses m b b' → Encloses m c c' → Encloses m (second_form n a b c) (second_form (m * n) a' b' c')
unfolding second_form
second_form_encloses n m a b c a' b' c' some finer z p q r =
    sum_encloses m _ _ _ _ (ratio_encloses n m (pos 56) 100) (fraction_encloses m 2 10 _ _ (cosine_magnitude_encloses n m _ _ _ _ finer z (along_12_encloses n m a b a' b' some finer p q) r))

outside_stays : (m : ℕ) (p r p' r' : Ends) → 0 < m → Encloses m p p' → Encloses m r r' → is_outside p r ≡ true → is_outside p' r' ≡ true
outside_stays m p r p' r' finer h k e =
    let both = both_hold (int_lt (pos 0) p.lo) (int_lt (pos 0) r.lo) e in
    let first = lt_test (pos 0) p'.lo (times_positive m p.lo p'.lo finer (lt_holds (pos 0) p.lo both.0) h.low) in
    let second = lt_test (pos 0) r'.lo (times_positive m r.lo r'.lo finer (lt_holds (pos 0) r.lo both.1) k.low) in
    hold_both (int_lt (pos 0) p'.lo) (int_lt (pos 0) r'.lo) first second

-- an interval with no number above 0 has none at a finer scale, so that both tests stay decided
falls_short : (m : ℕ) (p p' : Ends) → Encloses m p p' → int_le p.hi (pos 0) ≡ true → (int_lt (pos 0) p'.lo ≡ false) × (int_le p'.hi (pos 0) ≡ true)
falls_short m p p' h e =
    let o = still_not_above_0 m p.hi p'.hi h.high (le_holds p.hi (pos 0) e) in
    (lt_refuses (pos 0) p'.lo (trans_ℤ p'.lo p'.hi (pos 0) h.ordered o), le_test p'.hi (pos 0) o)

inside_stays : (m : ℕ) (p r p' r' : Ends) → Encloses m p p' → Encloses m r r' → is_inside p r ≡ true → (is_outside p' r' ≡ false) × (is_inside p' r' ≡ true)
inside_stays m p r p' r' h k e =
    ⊎_elim
    (λ l. let f = falls_short m p p' h l in first_short (int_lt (pos 0) p'.lo) (int_lt (pos 0) r'.lo) (int_le p'.hi (pos 0)) (int_le r'.hi (pos 0)) f.0 f.1)
    (λ l. let f = falls_short m r r' k l in second_short (int_lt (pos 0) p'.lo) (int_lt (pos 0) r'.lo) (int_le p'.hi (pos 0)) (int_le r'.hi (pos 0)) f.0 f.1)
    (either_holds (int_le p.hi (pos 0)) (int_le r.hi (pos 0)) e)

pub hue_factor_encloses : (n m : ℕ) (a b c a' b' c' : Ends) → 0 < n → 0 < m → pos 0 ≤ℤ c.lo → Encloses m a a' → Encloses m b b' → Encloses m c c' → Encloses m (hue_factor n a b c) (hue_factor (m * n) a' b' c')
unfolding hue_factor
hue_factor_encloses n m a b c a' b' c' some finer z p q r =
    let h = hue_sum_15_encloses n m a b a' b' some finer p q in
    let k = hue_sum_16_encloses n m a b a' b' some finer p q in
    choice_encloses m _ _ _ _ (first_form n a b c) (second_form n a b c) (first_form (m * n) a' b' c') (second_form (m * n) a' b' c')
    (outside_stays m _ _ _ _ finer h k) (λ e. let both = inside_stays m _ _ _ _ h k e in (both.1, both.0))
    (first_form_encloses n m a b c a' b' c' some finer z p q r) (second_form_encloses n m a b c a' b' c' some finer z p q r)

-- ---- S_H

pub hue_weight_encloses : (n m : ℕ) (s f t s' f' t' : Ends) → 0 < n → 0 < m → Encloses m s s' → Encloses m f f' → Encloses m t t' → Encloses m (hue_weight n s f t) (hue_weight (m * n) s' f' t')
unfolding hue_weight
hue_weight_encloses n m s f t s' f' t' some finer p q r =
    product_encloses n m _ _ _ _ some finer p
    (difference_encloses m _ _ _ _ (one_encloses n m) (product_encloses n m _ _ _ _ some finer q (difference_encloses m _ _ _ _ (one_encloses n m) r)))
