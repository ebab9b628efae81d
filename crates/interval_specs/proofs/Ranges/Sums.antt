-- The ranges of a ratio, of the number one, of a sum and of a difference.
use Rattle.std.proofs.Common.{ℕ, ℤ, pos, ◌+◌, ◌*◌, ◌≤◌, ◌<◌, ◌+ℤ◌, ◌*ℤ◌, ◌≤ℤ◌, ◌<ℤ◌, unsigned_abs, arith, ◌-ℤ◌}
use Rattle.std.proofs.lemmas.Int.{ints, unsigned_abs-mul}
use Rattle.interval_specs.specs.Ends.{Ends, one_at}
use Rattle.interval_specs.specs.Operations.{ratio_at, sum_of, difference_of}
use Rattle.interval_specs.specs.Ranges.{MagnitudeUpTo, UpTo}
use Rattle.interval_specs.proofs.Order.{add_mono_ℤ, sub_mono_ℤ, trans_ℤ, refl_ℤ, le_pos}
use Rattle.interval_specs.proofs.Ranges.Words.{magnitude_by, magnitude_of_up_to, up_to_of_magnitude, rounded_magnitude, floor_not_negative, product_not_negative_ℤ}

-- ---- a ratio and the number one

pub ratio_magnitude : (n r : ℕ) (p : ℤ) (q : ℕ) → 0 < q → unsigned_abs p * n ≤ r * q → MagnitudeUpTo r (ratio_at n p q)
unfolding ratio_at
ratio_magnitude n r p q some h =
    let k : unsigned_abs (p *ℤ pos n) ≤ r * q = omega (arith, unsigned_abs-mul p (pos n)) in
    rounded_magnitude (p *ℤ pos n) (p *ℤ pos n) q r some (refl_ℤ (p *ℤ pos n)) k k

pub ratio_not_negative : (n : ℕ) (p : ℤ) (q : ℕ) → 0 < q → pos 0 ≤ℤ p → pos 0 ≤ℤ (ratio_at n p q).lo
unfolding ratio_at
ratio_not_negative n p q some h = floor_not_negative (p *ℤ pos n) q some (product_not_negative_ℤ p (pos n) h (le_pos n))

pub ratio_up_to : (n r : ℕ) (p : ℤ) (q : ℕ) → 0 < q → pos 0 ≤ℤ p → unsigned_abs p * n ≤ r * q → UpTo r (ratio_at n p q)
ratio_up_to n r p q some h k = up_to_of_magnitude r (ratio_at n p q) (ratio_not_negative n p q some h) (ratio_magnitude n r p q some k)

pub one_up_to : (n : ℕ) → UpTo n (one_at n)
unfolding one_at
one_up_to n = record { not_negative = le_pos n; ordered = refl_ℤ (pos n); below = refl_ℤ (pos n) }

pub one_magnitude : (n : ℕ) → MagnitudeUpTo n (one_at n)
one_magnitude n = magnitude_of_up_to n (one_at n) (one_up_to n)

-- ---- a sum and a difference

pub sum_magnitude : (j k : ℕ) (a b : Ends) → MagnitudeUpTo j a → MagnitudeUpTo k b → MagnitudeUpTo (j + k) (sum_of a b)
unfolding sum_of
sum_magnitude j k a b s t =
    record { ordered = add_mono_ℤ a.lo b.lo a.hi b.hi s.ordered t.ordered; small = magnitude_by (a.lo +ℤ b.lo) (a.hi +ℤ b.hi) (j + k) (magnitudes a.lo b.lo (omega arith) (omega arith)) (magnitudes a.hi b.hi (omega arith) (omega arith)) }
  where
    magnitudes : (x y : ℤ) → unsigned_abs x ≤ j → unsigned_abs y ≤ k → unsigned_abs (x +ℤ y) ≤ j + k
    magnitudes x y p q = omega (arith, ints)

pub sum_not_negative : (a b : Ends) → pos 0 ≤ℤ a.lo → pos 0 ≤ℤ b.lo → pos 0 ≤ℤ (sum_of a b).lo
unfolding sum_of
sum_not_negative a b p q = omega (arith, ints)

pub sum_positive : (a b : Ends) → pos 0 <ℤ a.lo → pos 0 ≤ℤ b.lo → pos 0 <ℤ (sum_of a b).lo
unfolding sum_of
sum_positive a b p q = omega (arith, ints)

-- the lower end of a sum is at least that of its first term, where the second is not negative
pub sum_at_least : (a b : Ends) → pos 0 ≤ℤ b.lo → a.lo ≤ℤ (sum_of a b).lo
unfolding sum_of
sum_at_least a b q = omega (arith, ints)

pub sum_up_to : (j k : ℕ) (a b : Ends) → UpTo j a → UpTo k b → UpTo (j + k) (sum_of a b)
sum_up_to j k a b s t = up_to_of_magnitude (j + k) (sum_of a b) (sum_not_negative a b s.not_negative t.not_negative) (sum_magnitude j k a b (magnitude_of_up_to j a s) (magnitude_of_up_to k b t))

pub difference_magnitude : (j k : ℕ) (a b : Ends) → MagnitudeUpTo j a → MagnitudeUpTo k b → MagnitudeUpTo (j + k) (difference_of a b)
unfolding difference_of
difference_magnitude j k a b s t =
    record { ordered = sub_mono_ℤ a.lo b.lo a.hi b.hi s.ordered t.ordered; small = magnitude_by (a.lo -ℤ b.hi) (a.hi -ℤ b.lo) (j + k) (magnitudes a.lo b.hi (omega arith) (omega arith)) (magnitudes a.hi b.lo (omega arith) (omega arith)) }
  where
    magnitudes : (x y : ℤ) → unsigned_abs x ≤ j → unsigned_abs y ≤ k → unsigned_abs (x -ℤ y) ≤ j + k
    magnitudes x y p q = omega (arith, ints)

difference_at_most : (x y : ℤ) (k : ℕ) → pos 0 ≤ℤ x → x ≤ℤ pos k → pos 0 ≤ℤ y → y ≤ℤ pos k → unsigned_abs (x -ℤ y) ≤ k
difference_at_most x y k p q u v = omega (arith, ints)

-- two numbers from 0 to k differ by at most k
pub difference_within : (k : ℕ) (a b : Ends) → UpTo k a → UpTo k b → MagnitudeUpTo k (difference_of a b)
unfolding difference_of
difference_within k a b s t =
    let d = difference_magnitude k k a b (magnitude_of_up_to k a s) (magnitude_of_up_to k b t) in
    let al = trans_ℤ a.lo a.hi (pos k) s.ordered s.below in
    let bl = trans_ℤ b.lo b.hi (pos k) t.ordered t.below in
    let ah = trans_ℤ (pos 0) a.lo a.hi s.not_negative s.ordered in
    let bh = trans_ℤ (pos 0) b.lo b.hi t.not_negative t.ordered in
    record {
      ordered = d.ordered;
      small = magnitude_by (a.lo -ℤ b.hi) (a.hi -ℤ b.lo) k (difference_at_most a.lo b.hi k s.not_negative al bh t.below) (difference_at_most a.hi b.lo k ah s.below t.not_negative bl);
    }
