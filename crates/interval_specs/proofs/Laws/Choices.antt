-- The laws of the cuts and of a hull.
use Rattle.std.proofs.Common.{ℕ, ℤ, pos, ◌≡◌, ◌*◌, ◌*ℤ◌, ◌≤ℤ◌, subst, sym}
use Rattle.std.specs.Int.{int_min, int_max}
use Rattle.interval_specs.specs.Ends.{Ends}
use Rattle.interval_specs.specs.Encloses.{Encloses}
use Rattle.interval_specs.specs.Operations.{cut_low_at, cut_high_at, hull_of}
use Rattle.interval_specs.specs.Laws.{CutLowEncloses, CutHighEncloses, HullEncloses}
use Rattle.interval_specs.proofs.Order.{mono_left, trans_ℤ, refl_ℤ, mul_swap_ℤ, either_max, either_min, max_left, max_right, min_left, min_right}

-- where two numbers are at least m times two others, the greater is at least m times the greater of
-- the others
max_above : (m : ℕ) (a b a' b' : ℤ) → (pos m *ℤ a) ≤ℤ a' → (pos m *ℤ b) ≤ℤ b' → (pos m *ℤ int_max a b) ≤ℤ int_max a' b'
max_above m a b a' b' p q =
    either_max (λ z. (pos m *ℤ z) ≤ℤ int_max a' b') a b (trans_ℤ (pos m *ℤ a) a' (int_max a' b') p (max_left a' b')) (trans_ℤ (pos m *ℤ b) b' (int_max a' b') q (max_right a' b'))

max_below : (m : ℕ) (a b a' b' : ℤ) → a' ≤ℤ (pos m *ℤ a) → b' ≤ℤ (pos m *ℤ b) → int_max a' b' ≤ℤ (pos m *ℤ int_max a b)
max_below m a b a' b' p q =
    let top = int_max a b in
    either_max (λ z. z ≤ℤ (pos m *ℤ top)) a' b'
    (trans_ℤ a' (pos m *ℤ a) (pos m *ℤ top) p (mono_left m a top (max_left a b)))
    (trans_ℤ b' (pos m *ℤ b) (pos m *ℤ top) q (mono_left m b top (max_right a b)))

min_above : (m : ℕ) (a b a' b' : ℤ) → (pos m *ℤ a) ≤ℤ a' → (pos m *ℤ b) ≤ℤ b' → (pos m *ℤ int_min a b) ≤ℤ int_min a' b'
min_above m a b a' b' p q =
    let low = int_min a b in
    either_min (λ z. (pos m *ℤ low) ≤ℤ z) a' b'
    (trans_ℤ (pos m *ℤ low) (pos m *ℤ a) a' (mono_left m low a (min_left a b)) p)
    (trans_ℤ (pos m *ℤ low) (pos m *ℤ b) b' (mono_left m low b (min_right a b)) q)

min_below : (m : ℕ) (a b a' b' : ℤ) → a' ≤ℤ (pos m *ℤ a) → b' ≤ℤ (pos m *ℤ b) → int_min a' b' ≤ℤ (pos m *ℤ int_min a b)
min_below m a b a' b' p q =
    either_min (λ z. int_min a' b' ≤ℤ (pos m *ℤ z)) a b (trans_ℤ (int_min a' b') a' (pos m *ℤ a) (min_left a' b') p) (trans_ℤ (int_min a' b') b' (pos m *ℤ b) (min_right a' b') q)

-- the level of a cut at both scales
cut_level : (n m : ℕ) (k : ℤ) → pos m *ℤ (k *ℤ pos n) ≡ k *ℤ pos (m * n)
cut_level n m k = mul_swap_ℤ (pos m) k (pos n)

level_above : (n m : ℕ) (k : ℤ) → (pos m *ℤ (k *ℤ pos n)) ≤ℤ (k *ℤ pos (m * n))
level_above n m k = subst (λ z. z ≤ℤ (k *ℤ pos (m * n))) (sym (cut_level n m k)) (refl_ℤ (k *ℤ pos (m * n)))

level_below : (n m : ℕ) (k : ℤ) → (k *ℤ pos (m * n)) ≤ℤ (pos m *ℤ (k *ℤ pos n))
level_below n m k = subst (λ z. (k *ℤ pos (m * n)) ≤ℤ z) (sym (cut_level n m k)) (refl_ℤ (k *ℤ pos (m * n)))

pub cut_low_encloses : CutLowEncloses
unfolding cut_low_at
cut_low_encloses n m k a a' p =
    let level = k *ℤ pos (m * n) in
    record {
      low = max_above m a.lo (k *ℤ pos n) a'.lo level p.low (level_above n m k);
      high = max_below m a.hi (k *ℤ pos n) a'.hi level p.high (level_below n m k);
      ordered = either_max (λ z. z ≤ℤ int_max a'.hi level) a'.lo level (trans_ℤ a'.lo a'.hi (int_max a'.hi level) p.ordered (max_left a'.hi level)) (max_right a'.hi level);
    }

pub cut_high_encloses : CutHighEncloses
unfolding cut_high_at
cut_high_encloses n m k a a' p =
    let level = k *ℤ pos (m * n) in
    record {
      low = min_above m a.lo (k *ℤ pos n) a'.lo level p.low (level_above n m k);
      high = min_below m a.hi (k *ℤ pos n) a'.hi level p.high (level_below n m k);
      ordered = either_min (λ z. int_min a'.lo level ≤ℤ z) a'.hi level (trans_ℤ (int_min a'.lo level) a'.lo a'.hi (min_left a'.lo level) p.ordered) (min_right a'.lo level);
    }

pub hull_encloses : HullEncloses
unfolding hull_of
hull_encloses m a b a' b' p q =
    record {
      low = min_above m a.lo b.lo a'.lo b'.lo p.low q.low;
      high = max_below m a.hi b.hi a'.hi b'.hi p.high q.high;
      ordered = trans_ℤ (int_min a'.lo b'.lo) a'.lo (int_max a'.hi b'.hi) (min_left a'.lo b'.lo) (trans_ℤ a'.lo a'.hi (int_max a'.hi b'.hi) p.ordered (max_left a'.hi b'.hi));
    }

-- the hull of two intervals encloses each interval that one of them encloses
pub hull_first : (m : ℕ) (a b x : Ends) → Encloses m a x → Encloses m (hull_of a b) x
unfolding hull_of
hull_first m a b x h =
    record {
      low = trans_ℤ (pos m *ℤ int_min a.lo b.lo) (pos m *ℤ a.lo) x.lo (mono_left m (int_min a.lo b.lo) a.lo (min_left a.lo b.lo)) h.low;
      high = trans_ℤ x.hi (pos m *ℤ a.hi) (pos m *ℤ int_max a.hi b.hi) h.high (mono_left m a.hi (int_max a.hi b.hi) (max_left a.hi b.hi));
      ordered = h.ordered;
    }

pub hull_second : (m : ℕ) (a b x : Ends) → Encloses m b x → Encloses m (hull_of a b) x
unfolding hull_of
hull_second m a b x h =
    record {
      low = trans_ℤ (pos m *ℤ int_min a.lo b.lo) (pos m *ℤ b.lo) x.lo (mono_left m (int_min a.lo b.lo) b.lo (min_right a.lo b.lo)) h.low;
      high = trans_ℤ x.hi (pos m *ℤ b.hi) (pos m *ℤ int_max a.hi b.hi) h.high (mono_left m b.hi (int_max a.hi b.hi) (max_right a.hi b.hi));
      ordered = h.ordered;
    }
