-- The range of a quotient by an interval above 0.
use Rattle.std.proofs.Common.{ℕ, ℤ, pos, ◌*◌, ◌≤◌, ◌*ℤ◌, ◌≤ℤ◌, ◌<ℤ◌, unsigned_abs, arith, mul-le-mul_left, le_trans, le_refl}
use Rattle.std.proofs.lemmas.Int.{ints}
use Rattle.std.specs.Int.Signed.{<ℤ-≤ℤ_trans}
use Rattle.interval_specs.specs.Ends.{Ends, IsOrdered}
use Rattle.interval_specs.specs.Operations.{quotient_at, quotient_down, quotient_up}
use Rattle.interval_specs.specs.Ranges.{MagnitudeUpTo, UpTo}
use Rattle.interval_specs.proofs.Order.{trans_ℤ, magnitude_positive, le_pos, any_least, any_greatest}
use Rattle.interval_specs.proofs.Rounds.{floor_small, ceil_small}
use Rattle.interval_specs.proofs.Laws.{quotients_ordered}
use Rattle.interval_specs.proofs.Ranges.Words.{magnitude_by, magnitude_of_up_to, up_to_of_magnitude, floor_not_negative, product_small, product_not_negative_ℤ}

-- ---- a quotient

-- the upper end of a divisor above 0 has at least the magnitude of its lower end
pub divisor_magnitude : (b : Ends) → pos 0 <ℤ b.lo → IsOrdered b → unsigned_abs b.lo ≤ unsigned_abs b.hi
divisor_magnitude b p o = omega (arith, ints)

pub quotient_magnitude : (n r k c : ℕ) (a b : Ends) → pos 0 <ℤ b.lo → IsOrdered b → c ≤ unsigned_abs b.lo → k * n ≤ r * c → MagnitudeUpTo k a → MagnitudeUpTo r (quotient_at n a b)
unfolding quotient_at
quotient_magnitude n r k c a b low o wide h s =
    let high = <ℤ-≤ℤ_trans low o in
    let al : unsigned_abs a.lo ≤ k = omega arith in
    let ah : unsigned_abs a.hi ≤ k = omega arith in
    let near : k * n ≤ r * unsigned_abs b.lo = le_trans h (mul-le-mul_left r wide) in
    let far : k * n ≤ r * unsigned_abs b.hi = le_trans near (mul-le-mul_left r (divisor_magnitude b low o)) in
    let dividend = λ (x : ℤ) (p : unsigned_abs x ≤ k). product_small x (pos n) k n p (le_refl n) in
    let down = λ (x y : ℤ) (p : unsigned_abs x ≤ k) (q : pos 0 <ℤ y) (t : k * n ≤ r * unsigned_abs y). floor_small (x *ℤ pos n) (unsigned_abs y) r (magnitude_positive y q) (le_trans (dividend x p) t) in
    let up = λ (x y : ℤ) (p : unsigned_abs x ≤ k) (q : pos 0 <ℤ y) (t : k * n ≤ r * unsigned_abs y). ceil_small (x *ℤ pos n) (unsigned_abs y) r (magnitude_positive y q) (le_trans (dividend x p) t) in
    record {
      ordered = quotients_ordered n a b s.ordered;
      small = magnitude_by (quotient_at n a b).lo (quotient_at n a b).hi r
          (any_least (λ z. unsigned_abs z ≤ r) (quotient_down n a.lo b.lo) (quotient_down n a.lo b.hi) (quotient_down n a.hi b.lo) (quotient_down n a.hi b.hi)
          (down a.lo b.lo al low near) (down a.lo b.hi al high far) (down a.hi b.lo ah low near) (down a.hi b.hi ah high far))
          (any_greatest (λ z. unsigned_abs z ≤ r) (quotient_up n a.lo b.lo) (quotient_up n a.lo b.hi) (quotient_up n a.hi b.lo) (quotient_up n a.hi b.hi)
          (up a.lo b.lo al low near) (up a.lo b.hi al high far) (up a.hi b.lo ah low near) (up a.hi b.hi ah high far));
    }

pub quotient_not_negative : (n : ℕ) (a b : Ends) → pos 0 <ℤ b.lo → IsOrdered b → pos 0 ≤ℤ a.lo → IsOrdered a → pos 0 ≤ℤ (quotient_at n a b).lo
unfolding quotient_at
quotient_not_negative n a b low o p u =
    let high = <ℤ-≤ℤ_trans low o in
    let ah = trans_ℤ (pos 0) a.lo a.hi p u in
    let down = λ (x y : ℤ) (p : pos 0 ≤ℤ x) (q : pos 0 <ℤ y). floor_not_negative (x *ℤ pos n) (unsigned_abs y) (magnitude_positive y q) (product_not_negative_ℤ x (pos n) p (le_pos n)) in
    any_least (λ z. pos 0 ≤ℤ z) (quotient_down n a.lo b.lo) (quotient_down n a.lo b.hi) (quotient_down n a.hi b.lo) (quotient_down n a.hi b.hi)
    (down a.lo b.lo p low) (down a.lo b.hi p high) (down a.hi b.lo ah low) (down a.hi b.hi ah high)

pub quotient_up_to : (n r k c : ℕ) (a b : Ends) → pos 0 <ℤ b.lo → IsOrdered b → c ≤ unsigned_abs b.lo → k * n ≤ r * c → UpTo k a → UpTo r (quotient_at n a b)
quotient_up_to n r k c a b low o wide h u =
    up_to_of_magnitude r (quotient_at n a b) (quotient_not_negative n a b low o u.not_negative u.ordered) (quotient_magnitude n r k c a b low o wide h (magnitude_of_up_to k a u))
