-- The laws of the constants, S_L, S_C and F.
use Rattle.std.proofs.Common.{ℕ, ℤ, pos, ◌≡◌, true, false, ◌+◌, ◌*◌, ◌^◌, ◌<◌, ◌≤ℤ◌, ◌<ℤ◌, unsigned_abs, arith, lit<}
use Rattle.std.proofs.lemmas.Int.{ints}
use Rattle.interval_specs.specs.Ends.{Ends}
use Rattle.interval_specs.specs.Encloses.{Encloses}
use Rattle.interval_specs.specs.Rounding.{floor_over, ceil_over}
use Rattle.interval_specs.specs.Operations.{cut_low_at, square_at}
use Rattle.interval_specs.proofs.Laws.{cut_low_encloses, ratio_encloses, square_encloses, sum_encloses, sqrt_encloses, choice_encloses, le_test, lt_test, le_holds, le_refuses, lt_holds, still_below, still_from}
use Rattle.interval_specs.proofs.Ranges.{cut_low_not_negative, square_not_negative, floor_not_negative}
use Rattle.interval_specs.proofs.Order.{le_pos}
use Rattle.cmc_specs.specs.Cmc.{bracket, chroma_gain, chroma_weight, fourth_power_share, high_weight, hue_share, is_dark, is_light, lightness_weight, low_weight}
use Rattle.cmc_specs.proofs.Shares.{quotients_enclose, share_encloses, share_of}

-- ---- constants

pub bracket_encloses : (n m low : ℕ) → Encloses m (bracket n low) (bracket (m * n) low)
unfolding bracket
bracket_encloses n m low =
    quotients_enclose m (low * n) (10 ^ 12) ((low + 1) * n) (10 ^ 12) (low * (m * n)) (10 ^ 12) ((low + 1) * (m * n)) (10 ^ 12) (lit< tt) (lit< tt) (lit< tt) (lit< tt)
    (omega arith) (omega arith) (omega arith)

-- ---- S_L

high_weight_encloses : (n m : ℕ) (a a' : Ends) → 0 < n → 0 < m → Encloses m a a' → Encloses m (high_weight n a) (high_weight (m * n) a')
unfolding high_weight
high_weight_encloses n m a a' some finer p =
    share_encloses 40975 (10 ^ 6) 17650 n m (cut_low_at n (pos 16) a) (cut_low_at (m * n) (pos 16) a') (lit< tt) some finer (cut_low_not_negative n 16 a) (cut_low_encloses n m (pos 16) a a' p)

light_stays : (n m : ℕ) (a a' : Ends) → Encloses m a a' → is_light n a ≡ true → is_light (m * n) a' ≡ true
light_stays n m a a' p e =
    le_test (pos (16 * (m * n))) a'.lo (still_from m (16 * n) (16 * (m * n)) a.lo a'.lo (omega arith) p.low (le_holds (pos (16 * n)) a.lo e))

dark_stays : (n m : ℕ) (a a' : Ends) → 0 < m → Encloses m a a' → is_dark n a ≡ true → (is_dark (m * n) a' ≡ true) × (is_light (m * n) a' ≡ false)
dark_stays n m a a' finer p e =
    let level = pos (16 * (m * n)) in
    let d = still_below m (16 * n) (16 * (m * n)) a.hi a'.hi finer (omega arith) p.high (lt_holds a.hi (pos (16 * n)) e) in
    (lt_test a'.hi level d, le_refuses level a'.lo (below a'.lo a'.hi level p.ordered d))
  where
    below : (x y z : ℤ) → x ≤ℤ y → y <ℤ z → x <ℤ z
    below x y z h k = omega (arith, ints)

pub lightness_weight_encloses : (n m : ℕ) (a a' : Ends) → 0 < n → 0 < m → Encloses m a a' → Encloses m (lightness_weight n a) (lightness_weight (m * n) a')
unfolding lightness_weight
lightness_weight_encloses n m a a' some finer p =
    choice_encloses m (is_light n a) (is_dark n a) (is_light (m * n) a') (is_dark (m * n) a') (high_weight n a) (low_weight n) (high_weight (m * n) a') (low_weight (m * n))
    (light_stays n m a a' p) (dark_stays n m a a' finer p)
    (high_weight_encloses n m a a' some finer p) (ratio_encloses n m (pos 511) 1000)

-- ---- S_C

chroma_gain_encloses : (n m : ℕ) (c c' : Ends) → 0 < n → 0 < m → pos 0 ≤ℤ c.lo → Encloses m c c' → Encloses m (chroma_gain n c) (chroma_gain (m * n) c')
unfolding chroma_gain
chroma_gain_encloses n m c c' some finer z p = share_encloses 638 (10 ^ 4) 131 n m c c' (lit< tt) some finer z p

pub chroma_weight_encloses : (n m : ℕ) (c c' : Ends) → 0 < n → 0 < m → pos 0 ≤ℤ c.lo → Encloses m c c' → Encloses m (chroma_weight n c) (chroma_weight (m * n) c')
unfolding chroma_weight
chroma_weight_encloses n m c c' some finer z p = sum_encloses m _ _ _ _ (ratio_encloses n m (pos 638) 1000) (chroma_gain_encloses n m c c' some finer z p)

-- ---- F

-- the share x / (x + 1900) in the form k t / (a + b t)
share_is : (n : ℕ) (x : Ends) → fourth_power_share n x ≡ share_of 1 1900 1 n x
unfolding fourth_power_share
share_is n x = λ i. record { lo = floor_over (pos (numerator (unsigned_abs x.lo) i)) (denominator (unsigned_abs x.lo) i); hi = ceil_over (pos (numerator (unsigned_abs x.hi) i)) (denominator (unsigned_abs x.hi) i) }
  where
    numerator : (t : ℕ) → t * n ≡ 1 * t * n
    numerator t = omega arith

    denominator : (t : ℕ) → t + 1900 * n ≡ 1900 * n + 1 * t
    denominator t = omega arith

share_law : (n m : ℕ) (x x' : Ends) → 0 < n → 0 < m → pos 0 ≤ℤ x.lo → Encloses m x x' → Encloses m (fourth_power_share n x) (fourth_power_share (m * n) x')
share_law n m x x' some finer z p = rw (share_is n x) (rw (share_is (m * n) x') (share_encloses 1 1900 1 n m x x' (lit< tt) some finer z p))

share_not_negative : (n : ℕ) (x : Ends) → 0 < n → pos 0 ≤ℤ (fourth_power_share n x).lo
unfolding fourth_power_share
share_not_negative n x some = floor_not_negative (pos (unsigned_abs x.lo * n)) (unsigned_abs x.lo + 1900 * n) (omega arith) (le_pos (unsigned_abs x.lo * n))

pub hue_share_encloses : (n m : ℕ) (p p' : Ends) → 0 < n → 0 < m → Encloses m p p' → Encloses m (hue_share n p) (hue_share (m * n) p')
unfolding hue_share
hue_share_encloses n m p p' some finer h =
    sqrt_encloses n m _ _ (share_not_negative n (square_at n p) some) (share_law n m (square_at n p) (square_at (m * n) p') some finer (square_not_negative n p some) (square_encloses n m p p' some finer h))
