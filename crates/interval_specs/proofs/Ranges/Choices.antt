-- The ranges of cuts and of a hull.
use Rattle.std.proofs.Common.{ℕ, ℤ, pos, ◌*◌, ◌≤◌, ◌*ℤ◌, ◌≤ℤ◌, unsigned_abs, arith}
use Rattle.std.specs.Int.{int_min, int_max}
use Rattle.std.proofs.lemmas.Int.{unsigned_abs-mul}
use Rattle.interval_specs.specs.Ends.{Ends}
use Rattle.interval_specs.specs.Operations.{cut_low_at, cut_high_at, hull_of}
use Rattle.interval_specs.specs.Ranges.{MagnitudeUpTo, UpTo}
use Rattle.interval_specs.proofs.Order.{trans_ℤ, le_pos, either_max, either_min, max_left, max_right, min_left, min_right}
use Rattle.interval_specs.proofs.Ranges.Words.{magnitude_by, magnitude_of_up_to, up_to_of_magnitude, product_not_negative_ℤ}

-- ---- cuts and a hull

pub cut_low_magnitude : (n k : ℕ) (z : ℤ) (a : Ends) → unsigned_abs z * n ≤ k → MagnitudeUpTo k a → MagnitudeUpTo k (cut_low_at n z a)
unfolding cut_low_at
cut_low_magnitude n k z a h s =
    let level = z *ℤ pos n in
    let p : unsigned_abs level ≤ k = omega (arith, unsigned_abs-mul z (pos n)) in
    let l : unsigned_abs a.lo ≤ k = omega arith in
    let u : unsigned_abs a.hi ≤ k = omega arith in
    record {
      ordered = either_max (λ t. t ≤ℤ int_max a.hi level) a.lo level (trans_ℤ a.lo a.hi (int_max a.hi level) s.ordered (max_left a.hi level)) (max_right a.hi level);
      small = magnitude_by (int_max a.lo level) (int_max a.hi level) k (either_max (λ t. unsigned_abs t ≤ k) a.lo level l p) (either_max (λ t. unsigned_abs t ≤ k) a.hi level u p);
    }

-- a cut at a natural number leaves nothing negative
pub cut_low_not_negative : (n z : ℕ) (a : Ends) → pos 0 ≤ℤ (cut_low_at n (pos z) a).lo
unfolding cut_low_at
cut_low_not_negative n z a = trans_ℤ (pos 0) (pos z *ℤ pos n) (int_max a.lo (pos z *ℤ pos n)) (product_not_negative_ℤ (pos z) (pos n) (le_pos z) (le_pos n)) (max_right a.lo (pos z *ℤ pos n))

pub cut_low_up_to : (n k z : ℕ) (a : Ends) → z * n ≤ k → MagnitudeUpTo k a → UpTo k (cut_low_at n (pos z) a)
cut_low_up_to n k z a h s = up_to_of_magnitude k (cut_low_at n (pos z) a) (cut_low_not_negative n z a) (cut_low_magnitude n k (pos z) a h s)

pub cut_high_magnitude : (n k : ℕ) (z : ℤ) (a : Ends) → unsigned_abs z * n ≤ k → MagnitudeUpTo k a → MagnitudeUpTo k (cut_high_at n z a)
unfolding cut_high_at
cut_high_magnitude n k z a h s =
    let level = z *ℤ pos n in
    let p : unsigned_abs level ≤ k = omega (arith, unsigned_abs-mul z (pos n)) in
    let l : unsigned_abs a.lo ≤ k = omega arith in
    let u : unsigned_abs a.hi ≤ k = omega arith in
    record {
      ordered = either_min (λ t. int_min a.lo level ≤ℤ t) a.hi level (trans_ℤ (int_min a.lo level) a.lo a.hi (min_left a.lo level) s.ordered) (min_right a.lo level);
      small = magnitude_by (int_min a.lo level) (int_min a.hi level) k (either_min (λ t. unsigned_abs t ≤ k) a.lo level l p) (either_min (λ t. unsigned_abs t ≤ k) a.hi level u p);
    }

pub hull_magnitude : (k : ℕ) (a b : Ends) → MagnitudeUpTo k a → MagnitudeUpTo k b → MagnitudeUpTo k (hull_of a b)
unfolding hull_of
hull_magnitude k a b s t =
    let p : unsigned_abs a.lo ≤ k = omega arith in
    let q : unsigned_abs b.lo ≤ k = omega arith in
    let u : unsigned_abs a.hi ≤ k = omega arith in
    let v : unsigned_abs b.hi ≤ k = omega arith in
    record {
      ordered = trans_ℤ (int_min a.lo b.lo) a.lo (int_max a.hi b.hi) (min_left a.lo b.lo) (trans_ℤ a.lo a.hi (int_max a.hi b.hi) s.ordered (max_left a.hi b.hi));
      small = magnitude_by (int_min a.lo b.lo) (int_max a.hi b.hi) k (either_min (λ z. unsigned_abs z ≤ k) a.lo b.lo p q) (either_max (λ z. unsigned_abs z ≤ k) a.hi b.hi u v);
    }

pub hull_not_negative : (a b : Ends) → pos 0 ≤ℤ a.lo → pos 0 ≤ℤ b.lo → pos 0 ≤ℤ (hull_of a b).lo
unfolding hull_of
hull_not_negative a b p q = either_min (λ z. pos 0 ≤ℤ z) a.lo b.lo p q

pub hull_up_to : (k : ℕ) (a b : Ends) → UpTo k a → UpTo k b → UpTo k (hull_of a b)
hull_up_to k a b s t = up_to_of_magnitude k (hull_of a b) (hull_not_negative a b s.not_negative t.not_negative) (hull_magnitude k a b (magnitude_of_up_to k a s) (magnitude_of_up_to k b t))
