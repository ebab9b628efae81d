-- From one predicate of ranges to another, and the range of two rounded ends.
use Rattle.std.proofs.Common.{ℕ, ℤ, pos, negsuc, ◌≡◌, ◌*◌, ◌≤◌, ◌<◌, ◌*ℤ◌, ◌≤ℤ◌, unsigned_abs, subst, arith, sym, ◌^◌, mul-le-mul}
use Rattle.std.proofs.lemmas.Int.{ints, unsigned_abs-mul}
use Rattle.interval_specs.specs.Rounding.{floor_over, ceil_over}
use Rattle.interval_specs.specs.Ends.{Ends, IsHeld, magnitude_of}
use Rattle.interval_specs.specs.Ranges.{MagnitudeUpTo, UpTo}
use Rattle.interval_specs.proofs.Order.{parts, by_parts, to_parts, trans_ℤ}
use Rattle.interval_specs.proofs.Rounds.{floor_greatest, floor_le_ceil, floor_small, ceil_small}

-- ---- from one predicate to another

-- two ends of magnitude at most k
pub magnitude_by : (x y : ℤ) (k : ℕ) → unsigned_abs x ≤ k → unsigned_abs y ≤ k → magnitude_of (record { lo = x; hi = y }) ≤ k
magnitude_by x y k p q = omega arith

pub lo_small : (a : Ends) → unsigned_abs a.lo ≤ magnitude_of a
lo_small a = omega arith

pub hi_small : (a : Ends) → unsigned_abs a.hi ≤ magnitude_of a
hi_small a = omega arith

pub held : (a : Ends) → MagnitudeUpTo (10 ^ 25) a → IsHeld a
held a s = record { ordered = s.ordered; small = s.small }

pub of_held : (a : Ends) → IsHeld a → MagnitudeUpTo (10 ^ 25) a
of_held a h = record { ordered = h.ordered; small = h.small }

pub magnitude_of_held : (a : Ends) → IsHeld a → MagnitudeUpTo (magnitude_of a) a
magnitude_of_held a h = record { ordered = h.ordered; small = omega arith }

pub magnitude_wider : (k j : ℕ) (a : Ends) → k ≤ j → MagnitudeUpTo k a → MagnitudeUpTo j a
magnitude_wider k j a h s = record { ordered = s.ordered; small = omega arith }

pub up_to_wider : (k j : ℕ) (a : Ends) → k ≤ j → UpTo k a → UpTo j a
up_to_wider k j a h s = record { not_negative = s.not_negative; ordered = s.ordered; below = let b = s.below in omega (arith, ints) }

pub magnitude_of_up_to : (k : ℕ) (a : Ends) → UpTo k a → MagnitudeUpTo k a
magnitude_of_up_to k a u = record { ordered = u.ordered; small = magnitude_by a.lo a.hi k (from_0 a.lo k u.not_negative (trans_ℤ a.lo a.hi (pos k) u.ordered u.below)) (from_0 a.hi k (trans_ℤ (pos 0) a.lo a.hi u.not_negative u.ordered) u.below) }
  where
    from_0 : (z : ℤ) (k : ℕ) → pos 0 ≤ℤ z → z ≤ℤ pos k → unsigned_abs z ≤ k
    from_0 (pos z) k p q = omega (arith, ints)
    from_0 (negsuc z) k p q = absurd (omega (arith, ints))

pub up_to_of_magnitude : (k : ℕ) (a : Ends) → pos 0 ≤ℤ a.lo → MagnitudeUpTo k a → UpTo k a
up_to_of_magnitude k a p s = record { not_negative = p; ordered = s.ordered; below = let h = hi_small a in top a.hi k (omega arith) }
  where
    top : (z : ℤ) (k : ℕ) → unsigned_abs z ≤ k → z ≤ℤ pos k
    top (pos z) k h = omega (arith, ints)
    top (negsuc z) k h = omega (arith, ints)

-- the range of a call's result, from that of its definition
pub carry_magnitude : (k : ℕ) (r e : Ends) → r ≡ e → MagnitudeUpTo k e → MagnitudeUpTo k r
carry_magnitude k r e h s = subst (λ x. MagnitudeUpTo k x) (sym h) s

pub carry_up_to : (k : ℕ) (r e : Ends) → r ≡ e → UpTo k e → UpTo k r
carry_up_to k r e h s = subst (λ x. UpTo k x) (sym h) s

-- ---- rounded ends

pub rounded_magnitude : (z y : ℤ) (n r : ℕ) → 0 < n → z ≤ℤ y → unsigned_abs z ≤ r * n → unsigned_abs y ≤ r * n → MagnitudeUpTo r (record { lo = floor_over z n; hi = ceil_over y n })
rounded_magnitude z y n r some o p q =
    record { ordered = floor_le_ceil z y n o; small = magnitude_by (floor_over z n) (ceil_over y n) r (floor_small z n r some p) (ceil_small y n r some q) }

pub floor_not_negative : (z : ℤ) (n : ℕ) → 0 < n → pos 0 ≤ℤ z → pos 0 ≤ℤ floor_over z n
floor_not_negative z n some h = floor_greatest z (pos 0) n some (by_parts (pos 0 *ℤ pos n) z (simp parts (let p = to_parts (pos 0) z h in omega arith)))

-- the magnitude of a product
pub product_small : (x y : ℤ) (j k : ℕ) → unsigned_abs x ≤ j → unsigned_abs y ≤ k → unsigned_abs (x *ℤ y) ≤ j * k
product_small x y j k p q = subst (λ z. z ≤ j * k) (sym (unsigned_abs-mul x y)) (mul-le-mul p q)

pub product_not_negative_ℤ : (x y : ℤ) → pos 0 ≤ℤ x → pos 0 ≤ℤ y → pos 0 ≤ℤ (x *ℤ y)
product_not_negative_ℤ (pos x) (pos y) p q = omega (arith, ints)
product_not_negative_ℤ (negsuc x) y p q = absurd (omega (arith, ints))
product_not_negative_ℤ x (negsuc y) p q = absurd (omega (arith, ints))
