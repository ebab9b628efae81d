-- Corrected ratios: their range, and their law.
use Rattle.std.proofs.Common.{ℕ, pos, Bool, true, false, ◌≡◌, ◌*◌, ◌<◌, ◌*ℤ◌, ◌≤ℤ◌, ◌<ℤ◌, int_lt, unsigned_abs, arith, refl, mul-le-mul_left}
use Rattle.std.proofs.lemmas.Int.{ints}
use Rattle.std.specs.Int.{int_min}
use Rattle.interval_specs.specs.Ends.{Ends}
use Rattle.interval_specs.specs.Encloses.{Encloses}
use Rattle.interval_specs.specs.Operations.{cut_high_at, product_at, quotient_at}
use Rattle.interval_specs.specs.Ranges.{UpTo}
use Rattle.interval_specs.proofs.Laws.{cut_high_encloses, low_not_negative, lt_holds, lt_test, product_encloses, quotient_encloses, quotients_ordered}
use Rattle.interval_specs.proofs.Order.{either_min, le_pos, min_left, min_right, refl_ℤ, times_positive, trans_ℤ}
use Rattle.interval_specs.proofs.Ranges.{product_up_to, quotient_not_negative}
use Rattle.metamerism.specs.Correction.{any_ratio, corrected_ratio}
use Rattle.metamerism.specs.Laws.{CorrectedEnclose, CorrectedInRange, IsAtLeast0}

-- an interval that is not below 0 lies, cut at k, from 0 to k
cut_high_up_to : (n k : ℕ) (a : Ends) → IsAtLeast0 a → UpTo (k * n) (cut_high_at n (pos k) a)
unfolding cut_high_at
cut_high_up_to n k a h =
    let level = pos k *ℤ pos n in
    record {
      not_negative = either_min (λ x. pos 0 ≤ℤ x) a.lo level h.low (omega (arith, ints));
      ordered = either_min (λ x. int_min a.lo level ≤ℤ x) a.hi level (trans_ℤ (int_min a.lo level) a.lo a.hi (min_left a.lo level) h.ordered) (min_right a.lo level);
      below = trans_ℤ (int_min a.hi level) level (pos (k * n)) (min_right a.hi level) (omega (arith, ints));
    }

up_to_itself : (a : Ends) → IsAtLeast0 a → UpTo (unsigned_abs a.hi) a
up_to_itself a h = record { not_negative = h.low; ordered = h.ordered; below = omega (arith, ints) }

product_at_least_0 : (n : ℕ) (a b : Ends) → 0 < n → IsAtLeast0 a → IsAtLeast0 b → IsAtLeast0 (product_at n a b)
product_at_least_0 n a b some p q =
    let j = unsigned_abs a.hi in
    let k = unsigned_abs b.hi in
    let more = mul-le-mul_left (j * k) some in
    let u = product_up_to n (j * k) j k a b some (omega arith) (up_to_itself a p) (up_to_itself b q) in
    record { low = u.not_negative; ordered = u.ordered }

quotient_at_least_0 : (n : ℕ) (a b : Ends) → pos 0 <ℤ b.lo → IsAtLeast0 a → IsAtLeast0 b → IsAtLeast0 (quotient_at n a b)
quotient_at_least_0 n a b low p q = record { low = quotient_not_negative n a b low q.ordered p.low p.ordered; ordered = quotients_ordered n a b p.ordered }

-- ---- one ratio

pub any_of : (n : ℕ) (s t d : Ends) → int_lt (pos 0) d.lo ≡ false → corrected_ratio n s t d ≡ any_ratio n
unfolding corrected_ratio
any_of n s t d e = rw e refl

pub quotient_of : (n : ℕ) (s t d : Ends) → int_lt (pos 0) d.lo ≡ true → corrected_ratio n s t d ≡ cut_high_at n (pos 3) (quotient_at n (product_at n s t) d)
unfolding corrected_ratio
quotient_of n s t d e = rw e refl

pub any_up_to : (n : ℕ) → UpTo (3 * n) (any_ratio n)
any_up_to n = record { not_negative = le_pos 0; ordered = le_pos (3 * n); below = refl_ℤ (pos (3 * n)) }

pub corrected_up_to : (n : ℕ) (s t d : Ends) → 0 < n → IsAtLeast0 s → IsAtLeast0 t → IsAtLeast0 d → UpTo (3 * n) (corrected_ratio n s t d)
corrected_up_to n s t d some p q r = by (int_lt (pos 0) d.lo) refl
  where
    by : (b : Bool) → int_lt (pos 0) d.lo ≡ b → UpTo (3 * n) (corrected_ratio n s t d)
    by true e = rw (quotient_of n s t d e) (cut_high_up_to n 3 _ (quotient_at_least_0 n _ d (lt_holds (pos 0) d.lo e) (product_at_least_0 n s t some p q) r))
    by false e = rw (any_of n s t d e) (any_up_to n)

-- any ratio encloses each finer one
any_encloses : (n m : ℕ) (x : Ends) → UpTo (3 * (m * n)) x → Encloses m (any_ratio n) x
any_encloses n m x u = let z = u.not_negative in let b = u.below in record { low = omega (arith, ints); high = omega (arith, ints); ordered = u.ordered }

-- a finer interval is not below 0 either
finer_at_least_0 : (m : ℕ) (a a' : Ends) → Encloses m a a' → IsAtLeast0 a → IsAtLeast0 a'
finer_at_least_0 m a a' h p = record { low = low_not_negative m a a' h p.low; ordered = h.ordered }

-- where the coarse divisor may be 0 and the finer one not, the finer ratio is one of all ratios
corrected_encloses : (n m : ℕ) (s t d s' t' d' : Ends) → 0 < n → 0 < m → IsAtLeast0 s → IsAtLeast0 t → IsAtLeast0 d
    → Encloses m s s' → Encloses m t t' → Encloses m d d' → Encloses m (corrected_ratio n s t d) (corrected_ratio (m * n) s' t' d')
corrected_encloses n m s t d s' t' d' some finer p q r hs ht hd = by (int_lt (pos 0) d.lo) refl
  where
    by : (b : Bool) → int_lt (pos 0) d.lo ≡ b → Encloses m (corrected_ratio n s t d) (corrected_ratio (m * n) s' t' d')
    by true e =
        let low = lt_holds (pos 0) d.lo e in
        let fine = lt_test (pos 0) d'.lo (times_positive m d.lo d'.lo finer low hd.low) in
        rw (quotient_of n s t d e, quotient_of (m * n) s' t' d' fine)
        (cut_high_encloses n m (pos 3) _ _ (quotient_encloses n m _ d _ d' finer low (product_encloses n m s t s' t' some finer hs ht) hd))
    by false e =
        let more = mul-le-mul_left m some in
        rw (any_of n s t d e)
        (any_encloses n m _ (corrected_up_to (m * n) s' t' d' (omega arith) (finer_at_least_0 m s s' hs p) (finer_at_least_0 m t t' ht q) (finer_at_least_0 m d d' hd r)))

-- ---- the three ratios

pub corrected_in_range : CorrectedInRange
corrected_in_range n s t d some p q r =
    record { x = corrected_up_to n s.x t.x d.x some p.x q.x r.x; y = corrected_up_to n s.y t.y d.y some p.y q.y r.y; z = corrected_up_to n s.z t.z d.z some p.z q.z r.z }

pub corrected_enclose : CorrectedEnclose
corrected_enclose n m a b c a' b' c' some finer p q r ha hb hc =
    record {
      x = corrected_encloses n m a.x b.x c.x a'.x b'.x c'.x some finer p.x q.x r.x ha.x hb.x hc.x;
      y = corrected_encloses n m a.y b.y c.y a'.y b'.y c'.y some finer p.y q.y r.y ha.y hb.y hc.y;
      z = corrected_encloses n m a.z b.z c.z a'.z b'.z c'.z some finer p.z q.z r.z ha.z hb.z hc.z;
    }
