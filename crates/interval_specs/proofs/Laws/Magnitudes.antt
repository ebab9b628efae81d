-- The laws of the absolute value and of the square.
use Rattle.std.proofs.Common.{ℕ, ℤ, pos, negsuc, ◌≡◌, true, false, ◌*◌, ◌≤◌, ◌<◌, ◌*ℤ◌, neg_ℤ, ◌≤ℤ◌, ◌<ℤ◌, unsigned_abs, refl, ap, subst, arith, mul-le-mul_left, mul-pos, ◌∙◌, Bool, ◌&&◌, min, max, int_le, if◌then◌else◌, mul-le-mul}
use borrow.Author.Differences.{up, down}
use Rattle.std.proofs.lemmas.Int.{ints, clamps, by_lt_z}
use Rattle.std.specs.Int.{int_max}
use Rattle.interval_specs.specs.Rounding.{floor_over, ceil_over}
use Rattle.interval_specs.specs.Ends.{Ends, magnitude_of}
use Rattle.interval_specs.specs.Encloses.{Encloses}
use Rattle.interval_specs.specs.Operations.{absolute_of, square_at, least_magnitude, holds_zero}
use Rattle.interval_specs.specs.Laws.{AbsoluteEncloses, SquareEncloses}
use Rattle.interval_specs.proofs.Order.{parts, to_parts, trans_ℤ, antisym_ℤ, times_positive, times_negative, up_small, down_small}
use Rattle.interval_specs.proofs.Rounds.{floor_encloses, ceil_encloses, floor_le_ceil, by_magnitude}
use Rattle.interval_specs.proofs.Laws.Products.{squared_low, squared_high}

-- the least magnitude by its cases: an interval above 0, below 0, or one that holds it
pub least_magnitude_above : (a : Ends) → pos 0 <ℤ a.lo → least_magnitude a ≡ min (unsigned_abs a.lo) (unsigned_abs a.hi)
least_magnitude_above a h = by (int_le a.lo (pos 0)) refl
  where
    by : (t : Bool) → int_le a.lo (pos 0) ≡ t → (if t && int_le (pos 0) a.hi then 0 else (min (unsigned_abs a.lo) (unsigned_abs a.hi))) ≡ min (unsigned_abs a.lo) (unsigned_abs a.hi)
    by true e = absurd (omega (arith, ints))
    by false e = refl

pub least_magnitude_below : (a : Ends) → a.hi <ℤ pos 0 → least_magnitude a ≡ min (unsigned_abs a.lo) (unsigned_abs a.hi)
least_magnitude_below a h = by (int_le a.lo (pos 0)) (int_le (pos 0) a.hi) refl
  where
    by : (s t : Bool) → int_le (pos 0) a.hi ≡ t → (if s && t then 0 else (min (unsigned_abs a.lo) (unsigned_abs a.hi))) ≡ min (unsigned_abs a.lo) (unsigned_abs a.hi)
    by s true e = absurd (omega (arith, ints))
    by true false e = refl
    by false false e = refl

pub least_magnitude_around : (a : Ends) → a.lo ≤ℤ pos 0 → pos 0 ≤ℤ a.hi → least_magnitude a ≡ 0
least_magnitude_around a h k = by (int_le a.lo (pos 0)) (int_le (pos 0) a.hi) refl refl
  where
    by : (s t : Bool) → int_le a.lo (pos 0) ≡ s → int_le (pos 0) a.hi ≡ t → (if s && t then 0 else (min (unsigned_abs a.lo) (unsigned_abs a.hi))) ≡ 0
    by true true e f = refl
    by false t e f = absurd (omega (arith, ints))
    by true false e f = absurd (omega (arith, ints))

-- the least magnitude is at most the greater of the ends' magnitudes
pub least_magnitude_small : (a : Ends) → least_magnitude a ≤ magnitude_of a
least_magnitude_small a = by (holds_zero a)
  where
    by : (t : Bool) → (if t then 0 else (min (unsigned_abs a.lo) (unsigned_abs a.hi))) ≤ max (unsigned_abs a.lo) (unsigned_abs a.hi)
    by true = omega arith
    by false = omega arith

-- magnitudes at the finer scale, of numbers on one side of 0
scaled_above : (m : ℕ) (x y : ℤ) → pos 0 ≤ℤ x → (pos m *ℤ x) ≤ℤ y → m * unsigned_abs x ≤ unsigned_abs y
scaled_above m (pos x) (pos y) s h = let p = simp parts at (to_parts (pos m *ℤ pos x) (pos y) h) in omega arith
scaled_above m (pos x) (negsuc y) s h = let p = simp parts at (to_parts (pos m *ℤ pos x) (negsuc y) h) in absurd (omega arith)
scaled_above m (negsuc x) y s h = absurd (omega (arith, ints))

scaled_below : (m : ℕ) (x y : ℤ) → x <ℤ pos 0 → y ≤ℤ (pos m *ℤ x) → m * unsigned_abs x ≤ unsigned_abs y
scaled_below m (negsuc x) (negsuc y) s h = let p = simp parts at (to_parts (negsuc y) (pos m *ℤ negsuc x) h) in omega arith
scaled_below m (negsuc x) (pos y) s h = let p = simp parts at (to_parts (pos y) (pos m *ℤ negsuc x) h) in omega arith
scaled_below m (pos x) y s h = absurd (omega (arith, ints))

-- the magnitude of a number within a, in finer units
within_magnitude : (m : ℕ) (a : Ends) (x : ℤ) → (pos m *ℤ a.lo) ≤ℤ x → x ≤ℤ (pos m *ℤ a.hi) → unsigned_abs x ≤ m * magnitude_of a
within_magnitude m a x h k =
    let l : down a.lo ≤ magnitude_of a = omega (arith, down_small a.lo) in
    let u : up a.hi ≤ magnitude_of a = omega (arith, up_small a.hi) in
    let p = mul-le-mul_left m l in
    let q = mul-le-mul_left m u in
    let r = simp parts at (to_parts (pos m *ℤ a.lo) x h) in
    let s = simp parts at (to_parts x (pos m *ℤ a.hi) k) in
    by_magnitude x (m * magnitude_of a) (omega arith) (omega arith)

-- the least magnitude grows at least m times
pub least_magnitude_finer : (m : ℕ) (a a' : Ends) → 0 < m → Encloses m a a' → m * least_magnitude a ≤ least_magnitude a'
least_magnitude_finer m a a' finer p =
    by_lt_z (pos 0) a.lo above
    (λ l. by_lt_z a.hi (pos 0) below (λ h. let e = ap (λ (t : ℕ). m * t) (least_magnitude_around a l h) in omega arith))
  where
    above : pos 0 <ℤ a.lo → m * least_magnitude a ≤ least_magnitude a'
    above s =
        let o = trans_ℤ (pos m *ℤ a.lo) a'.lo a'.hi p.low p.ordered in
        let z : pos 0 ≤ℤ a.lo = omega (arith, ints) in
        let low = times_positive m a.lo a'.lo finer s p.low in
        let e = ap (λ (t : ℕ). m * t) (least_magnitude_above a s) in
        let f = least_magnitude_above a' low in
        let u = scaled_above m a.lo a'.lo z p.low in
        let v = scaled_above m a.lo a'.hi z o in
        let less : min (unsigned_abs a.lo) (unsigned_abs a.hi) ≤ unsigned_abs a.lo = omega arith in
        let k = mul-le-mul_left m less in
        omega arith

    below : a.hi <ℤ pos 0 → m * least_magnitude a ≤ least_magnitude a'
    below s =
        let o = trans_ℤ a'.lo a'.hi (pos m *ℤ a.hi) p.ordered p.high in
        let high = times_negative m a.hi a'.hi finer s p.high in
        let e = ap (λ (t : ℕ). m * t) (least_magnitude_below a s) in
        let f = least_magnitude_below a' high in
        let u = scaled_below m a.hi a'.hi s p.high in
        let v = scaled_below m a.hi a'.lo s o in
        let less : min (unsigned_abs a.lo) (unsigned_abs a.hi) ≤ unsigned_abs a.hi = omega arith in
        let k = mul-le-mul_left m less in
        omega arith

-- the magnitude grows at most m times
pub magnitude_finer : (m : ℕ) (a a' : Ends) → Encloses m a a' → magnitude_of a' ≤ m * magnitude_of a
magnitude_finer m a a' p =
    let l = within_magnitude m a a'.lo p.low (trans_ℤ a'.lo a'.hi (pos m *ℤ a.hi) p.ordered p.high) in
    let h = within_magnitude m a a'.hi (trans_ℤ (pos m *ℤ a.lo) a'.lo a'.hi p.low p.ordered) p.high in
    omega arith

pub absolute_encloses : AbsoluteEncloses
unfolding absolute_of
absolute_encloses m a a' finer p =
    let l = least_magnitude_finer m a a' finer p in
    let h = magnitude_finer m a a' p in
    let o = least_magnitude_small a' in
    record { low = omega (arith, ints); high = omega (arith, ints); ordered = omega (arith, ints) }

-- the square of a number in finer units
square_is : (m x : ℕ) → (m * x) * (m * x) ≡ m * m * (x * x)
square_is m x = omega arith

pub square_encloses : SquareEncloses
unfolding square_at
square_encloses n m a a' some finer p =
    let fine : 0 < m * n = mul-pos finer some in
    let x = least_magnitude a in
    let x' = least_magnitude a' in
    let y = magnitude_of a in
    let y' = magnitude_of a' in
    let l = least_magnitude_finer m a a' finer p in
    let h = magnitude_finer m a a' p in
    let o = least_magnitude_small a' in
    let low : m * m * (x * x) ≤ x' * x' = subst (λ z. z ≤ x' * x') (square_is m x) (mul-le-mul l l) in
    let high : y' * y' ≤ m * m * (y * y) = subst (λ z. y' * y' ≤ z) (square_is m y) (mul-le-mul h h) in
    let across : x' * x' ≤ y' * y' = mul-le-mul o o in
    record {
      low = floor_encloses m n (m * n) (pos (x * x)) (pos (x' * x')) some fine (squared_low n m (pos (x * x)) (pos (x' * x')) (omega (arith, ints)));
      high = ceil_encloses m n (m * n) (pos (y * y)) (pos (y' * y')) some fine (squared_high n m (pos (y * y)) (pos (y' * y')) (omega (arith, ints)));
      ordered = floor_le_ceil (pos (x' * x')) (pos (y' * y')) (m * n) (omega (arith, ints));
    }

-- ---- the absolute value by its cases

-- the two magnitudes of ends on one side of 0
greater_above : (x y : ℤ) → pos 0 ≤ℤ x → x ≤ℤ y → pos (max (unsigned_abs x) (unsigned_abs y)) ≡ y
greater_above (pos x) (pos y) q r = omega (arith, ints)
greater_above (pos x) (negsuc y) q r = absurd (omega (arith, ints))
greater_above (negsuc x) y q r = absurd (omega (arith, ints))

lesser_above : (x y : ℤ) → pos 0 ≤ℤ x → x ≤ℤ y → pos (min (unsigned_abs x) (unsigned_abs y)) ≡ x
lesser_above (pos x) (pos y) q r = omega (arith, ints)
lesser_above (pos x) (negsuc y) q r = absurd (omega (arith, ints))
lesser_above (negsuc x) y q r = absurd (omega (arith, ints))

greater_below : (x y : ℤ) → y ≤ℤ pos 0 → x ≤ℤ y → pos (max (unsigned_abs x) (unsigned_abs y)) ≡ neg_ℤ x
greater_below x y q r = omega (arith, ints)

lesser_below : (x y : ℤ) → y ≤ℤ pos 0 → x ≤ℤ y → pos (min (unsigned_abs x) (unsigned_abs y)) ≡ neg_ℤ y
lesser_below x y q r = omega (arith, ints)

greater_around : (x y : ℤ) → x ≤ℤ pos 0 → pos 0 ≤ℤ y → pos (max (unsigned_abs x) (unsigned_abs y)) ≡ int_max y (neg_ℤ x)
greater_around x y q r = omega (arith, ints, clamps)

-- the absolute value of an interval that is not negative is the interval itself
pub absolute_above : (a : Ends) → pos 0 ≤ℤ a.lo → a.lo ≤ℤ a.hi → absolute_of a ≡ a
unfolding absolute_of
absolute_above a p o =
    let low : pos (least_magnitude a) ≡ a.lo = by_lt_z (pos 0) a.lo
    (λ s. ap pos (least_magnitude_above a s) ∙ lesser_above a.lo a.hi p o)
    (λ s. ap pos (least_magnitude_around a s (trans_ℤ (pos 0) a.lo a.hi p o)) ∙ antisym_ℤ (pos 0) a.lo p s) in
    λ i. record { lo = low i; hi = greater_above a.lo a.hi p o i }

-- the absolute value of an interval that is not positive is its negative
pub absolute_below : (a : Ends) → a.hi ≤ℤ pos 0 → a.lo ≤ℤ a.hi → absolute_of a ≡ record { lo = neg_ℤ a.hi; hi = neg_ℤ a.lo }
unfolding absolute_of
absolute_below a p o =
    let low : pos (least_magnitude a) ≡ neg_ℤ a.hi = by_lt_z a.hi (pos 0)
    (λ s. ap pos (least_magnitude_below a s) ∙ lesser_below a.lo a.hi p o)
    (λ s. ap pos (least_magnitude_around a (trans_ℤ a.lo a.hi (pos 0) o p) s) ∙ ap neg_ℤ (antisym_ℤ (pos 0) a.hi s p)) in
    λ i. record { lo = low i; hi = greater_below a.lo a.hi p o i }

-- the absolute value of an interval that holds 0 goes from 0 to the greater of its upper end and
-- the negative of its lower end
pub absolute_around : (a : Ends) → a.lo ≤ℤ pos 0 → pos 0 ≤ℤ a.hi → absolute_of a ≡ record { lo = pos 0; hi = int_max a.hi (neg_ℤ a.lo) }
unfolding absolute_of
absolute_around a p o = λ i. record { lo = ap pos (least_magnitude_around a p o) i; hi = greater_around a.lo a.hi p o i }

-- the square of an interval has the squares of the ends of its absolute value, rounded outwards
pub square_by_magnitude : (n : ℕ) (a : Ends) → square_at n a ≡ record { lo = floor_over ((absolute_of a).lo *ℤ (absolute_of a).lo) n; hi = ceil_over ((absolute_of a).hi *ℤ (absolute_of a).hi) n }
unfolding square_at absolute_of
square_by_magnitude n a = refl
