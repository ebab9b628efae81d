-- A quotient by 0, as the definitions give it: -1 or 0 rounded down, and 0 or 1 rounded up, by the
-- sign of the dividend.
use Rattle.std.proofs.Common.{ℕ, zero, suc, ℤ, pos, negsuc, ◌≡◌, ◌<◌, ◌*ℤ◌, neg_ℤ, ◌≤ℤ◌, ap, arith}
use Rattle.std.proofs.Math.Nat.{div-zero}
use Rattle.std.proofs.lemmas.Int.{ints}
use Rattle.interval_specs.specs.Rounding.{floor_over, ceil_over}
use Rattle.interval_specs.proofs.Order.{parts, by_parts, to_parts}

floor_pos : (a : ℕ) → floor_over (pos a) 0 ≡ pos 0
unfolding floor_over
floor_pos a = ap pos (div-zero a)

floor_neg : (a : ℕ) → floor_over (negsuc a) 0 ≡ negsuc 0
unfolding floor_over
floor_neg a = ap negsuc (div-zero a)

-- a dividend that is at least m times as large has a floor that is at least m times as large
pub floor_over_zero : (m : ℕ) (z z' : ℤ) → (pos m *ℤ z) ≤ℤ z' → (pos m *ℤ floor_over z 0) ≤ℤ floor_over z' 0
floor_over_zero m (pos a) (pos b) h = rw (floor_pos a, floor_pos b) (by_parts (pos m *ℤ pos 0) (pos 0) (simp parts (omega arith)))
floor_over_zero m (negsuc a) (pos b) h = rw (floor_neg a, floor_pos b) (by_parts (pos m *ℤ negsuc 0) (pos 0) (simp parts (omega arith)))
floor_over_zero m (pos a) (negsuc b) h = let p = simp parts at (to_parts (pos m *ℤ pos a) (negsuc b) h) in absurd (omega (arith, p))
floor_over_zero zero (negsuc a) (negsuc b) h = let p = simp parts at (to_parts (pos 0 *ℤ negsuc a) (negsuc b) h) in absurd (omega (arith, p))
floor_over_zero (suc m) (negsuc a) (negsuc b) h = rw (floor_neg a, floor_neg b) (by_parts (pos (suc m) *ℤ negsuc 0) (negsuc 0) (simp parts (omega arith)))

-- the same where a dividend that is not negative stays so at a scale that is m times finer
pub floor_by_zero : (m : ℕ) (z z' : ℤ) → 0 < m → (pos 0 ≤ℤ z → pos 0 ≤ℤ z') → (pos m *ℤ floor_over z 0) ≤ℤ floor_over z' 0
floor_by_zero m (pos a) (pos b) some h = rw (floor_pos a, floor_pos b) (by_parts (pos m *ℤ pos 0) (pos 0) (simp parts (omega arith)))
floor_by_zero m (pos a) (negsuc b) some h = let p = h (omega (arith, ints)) in absurd (omega (arith, ints))
floor_by_zero m (negsuc a) (pos b) some h = rw (floor_neg a, floor_pos b) (by_parts (pos m *ℤ negsuc 0) (pos 0) (simp parts (omega arith)))
floor_by_zero m (negsuc a) (negsuc b) some h = rw (floor_neg a, floor_neg b) (by_parts (pos m *ℤ negsuc 0) (negsuc 0) (simp parts (omega arith)))

-- the same of the ceiling, where a dividend that is not positive stays so
pub ceil_by_zero : (m : ℕ) (z z' : ℤ) → 0 < m → (z ≤ℤ pos 0 → z' ≤ℤ pos 0) → ceil_over z' 0 ≤ℤ (pos m *ℤ ceil_over z 0)
unfolding ceil_over
ceil_by_zero m z z' some h =
    let low = floor_by_zero m (neg_ℤ z) (neg_ℤ z') some (λ p. let q = h (omega (arith, ints)) in omega (arith, ints)) in
    let p = simp parts at (to_parts (pos m *ℤ floor_over (neg_ℤ z) 0) (floor_over (neg_ℤ z') 0) low) in
    by_parts (neg_ℤ (floor_over (neg_ℤ z') 0)) (pos m *ℤ neg_ℤ (floor_over (neg_ℤ z) 0)) (simp parts (omega arith))

floor_at_most : (z : ℤ) → floor_over z 0 ≤ℤ pos 0
floor_at_most (pos a) = rw (floor_pos a) (omega (arith, ints))
floor_at_most (negsuc a) = rw (floor_neg a) (omega (arith, ints))

pub by_zero_ordered : (z y : ℤ) → floor_over z 0 ≤ℤ ceil_over y 0
unfolding ceil_over
by_zero_ordered z y =
    let low = floor_at_most z in
    let high = floor_at_most (neg_ℤ y) in
    omega (arith, ints)
