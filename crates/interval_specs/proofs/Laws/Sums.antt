-- The laws of a sum, a difference and a whole multiple.
use Rattle.std.proofs.Common.{ℕ, ℤ, pos, ◌+ℤ◌, ◌*ℤ◌, neg_ℤ, ◌≤ℤ◌, subst, sym}
use Rattle.std.specs.Int.{int_min, int_max}
use Rattle.interval_specs.specs.Operations.{sum_of, difference_of, multiple_of}
use Rattle.interval_specs.specs.Laws.{SumEncloses, DifferenceEncloses, MultipleEncloses}
use Rattle.interval_specs.proofs.Order.{add_mono_ℤ, sub_mono_ℤ, neg_mono_ℤ, mono_left, trans_ℤ, mul-add_ℤ, mul-neg_ℤ, mul_swap_ℤ, between_low, between_high, either_max, either_min, max_left, max_right, min_left, min_right}

-- the sum of two numbers that are each at least m times another
sum_above : (m : ℕ) (a b a' b' : ℤ) → (pos m *ℤ a) ≤ℤ a' → (pos m *ℤ b) ≤ℤ b' → (pos m *ℤ (a +ℤ b)) ≤ℤ (a' +ℤ b')
sum_above m a b a' b' p q = subst (λ z. z ≤ℤ (a' +ℤ b')) (sym (mul-add_ℤ (pos m) a b)) (add_mono_ℤ (pos m *ℤ a) (pos m *ℤ b) a' b' p q)

sum_below : (m : ℕ) (a b a' b' : ℤ) → a' ≤ℤ (pos m *ℤ a) → b' ≤ℤ (pos m *ℤ b) → (a' +ℤ b') ≤ℤ (pos m *ℤ (a +ℤ b))
sum_below m a b a' b' p q = subst (λ z. (a' +ℤ b') ≤ℤ z) (sym (mul-add_ℤ (pos m) a b)) (add_mono_ℤ a' b' (pos m *ℤ a) (pos m *ℤ b) p q)

neg_above : (m : ℕ) (b b' : ℤ) → b' ≤ℤ (pos m *ℤ b) → (pos m *ℤ neg_ℤ b) ≤ℤ neg_ℤ b'
neg_above m b b' h = subst (λ z. z ≤ℤ neg_ℤ b') (sym (mul-neg_ℤ (pos m) b)) (neg_mono_ℤ b' (pos m *ℤ b) h)

neg_below : (m : ℕ) (b b' : ℤ) → (pos m *ℤ b) ≤ℤ b' → neg_ℤ b' ≤ℤ (pos m *ℤ neg_ℤ b)
neg_below m b b' h = subst (λ z. neg_ℤ b' ≤ℤ z) (sym (mul-neg_ℤ (pos m) b)) (neg_mono_ℤ (pos m *ℤ b) b' h)

pub sum_encloses : SumEncloses
unfolding sum_of
sum_encloses m a b a' b' p q =
    record {
      low = sum_above m a.lo b.lo a'.lo b'.lo p.low q.low;
      high = sum_below m a.hi b.hi a'.hi b'.hi p.high q.high;
      ordered = add_mono_ℤ a'.lo b'.lo a'.hi b'.hi p.ordered q.ordered;
    }

pub difference_encloses : DifferenceEncloses
unfolding difference_of
difference_encloses m a b a' b' p q =
    record {
      low = sum_above m a.lo (neg_ℤ b.hi) a'.lo (neg_ℤ b'.hi) p.low (neg_above m b.hi b'.hi q.high);
      high = sum_below m a.hi (neg_ℤ b.lo) a'.hi (neg_ℤ b'.lo) p.high (neg_below m b.lo b'.lo q.low);
      ordered = sub_mono_ℤ a'.lo b'.lo a'.hi b'.hi p.ordered q.ordered;
    }

-- m times the least end product is at most each product between
least_below : (m : ℕ) (k l h x : ℤ) → (pos m *ℤ l) ≤ℤ x → x ≤ℤ (pos m *ℤ h) → (pos m *ℤ int_min (k *ℤ l) (k *ℤ h)) ≤ℤ (k *ℤ x)
least_below m k l h x p q =
    let least = int_min (k *ℤ l) (k *ℤ h) in
    between_low (pos m *ℤ least) k (pos m *ℤ l) x (pos m *ℤ h) p q
    (subst (λ z. (pos m *ℤ least) ≤ℤ z) (mul_swap_ℤ (pos m) k l) (mono_left m least (k *ℤ l) (min_left (k *ℤ l) (k *ℤ h))))
    (subst (λ z. (pos m *ℤ least) ≤ℤ z) (mul_swap_ℤ (pos m) k h) (mono_left m least (k *ℤ h) (min_right (k *ℤ l) (k *ℤ h))))

greatest_above : (m : ℕ) (k l h x : ℤ) → (pos m *ℤ l) ≤ℤ x → x ≤ℤ (pos m *ℤ h) → (k *ℤ x) ≤ℤ (pos m *ℤ int_max (k *ℤ l) (k *ℤ h))
greatest_above m k l h x p q =
    let most = int_max (k *ℤ l) (k *ℤ h) in
    between_high (pos m *ℤ most) k (pos m *ℤ l) x (pos m *ℤ h) p q
    (subst (λ z. z ≤ℤ (pos m *ℤ most)) (mul_swap_ℤ (pos m) k l) (mono_left m (k *ℤ l) most (max_left (k *ℤ l) (k *ℤ h))))
    (subst (λ z. z ≤ℤ (pos m *ℤ most)) (mul_swap_ℤ (pos m) k h) (mono_left m (k *ℤ h) most (max_right (k *ℤ l) (k *ℤ h))))

pub multiple_encloses : MultipleEncloses
unfolding multiple_of
multiple_encloses m k a a' p =
    let over = trans_ℤ a'.lo a'.hi (pos m *ℤ a.hi) p.ordered p.high in
    let under = trans_ℤ (pos m *ℤ a.lo) a'.lo a'.hi p.low p.ordered in
    record {
      low = either_min (λ z. (pos m *ℤ int_min (k *ℤ a.lo) (k *ℤ a.hi)) ≤ℤ z) (k *ℤ a'.lo) (k *ℤ a'.hi) (least_below m k a.lo a.hi a'.lo p.low over) (least_below m k a.lo a.hi a'.hi under p.high);
      high = either_max (λ z. z ≤ℤ (pos m *ℤ int_max (k *ℤ a.lo) (k *ℤ a.hi))) (k *ℤ a'.lo) (k *ℤ a'.hi) (greatest_above m k a.lo a.hi a'.lo p.low over) (greatest_above m k a.lo a.hi a'.hi under p.high);
      ordered = trans_ℤ _ (k *ℤ a'.lo) _ (min_left (k *ℤ a'.lo) (k *ℤ a'.hi)) (max_left (k *ℤ a'.lo) (k *ℤ a'.hi));
    }
