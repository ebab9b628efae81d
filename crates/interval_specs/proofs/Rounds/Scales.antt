-- Rounded quotients at a coarse scale and at a fine one.
use Rattle.std.proofs.Common.{ℕ, zero, suc, ℤ, pos, ◌*◌, ◌<◌, ◌*ℤ◌, neg_ℤ, ◌≤ℤ◌, arith}
use Rattle.interval_specs.specs.Rounding.{floor_over, ceil_over}
use Rattle.interval_specs.proofs.Order.{parts, by_parts, to_parts, mono_left, cancel_left}
use Rattle.interval_specs.proofs.Rounds.ByZero.{floor_over_zero, by_zero_ordered}
use Rattle.interval_specs.proofs.Rounds.Floors.{floor_below, floor_greatest, ceil_above, ceil_least}

-- the floor at a coarse scale, in fine units, is at most the floor at the fine scale
pub floor_encloses : (m n n' : ℕ) (z z' : ℤ) → 0 < n → 0 < n' → (pos (m * n') *ℤ z) ≤ℤ (pos n *ℤ z') → (pos m *ℤ floor_over z n) ≤ℤ floor_over z' n'
floor_encloses m n n' z z' some some' h =
    let f = floor_over z n in
    let k = mono_left (m * n') (f *ℤ pos n) z (floor_below z n some) in
    let p = simp parts at (to_parts (pos (m * n') *ℤ (f *ℤ pos n)) (pos (m * n') *ℤ z) k) in
    let q = simp parts at (to_parts (pos (m * n') *ℤ z) (pos n *ℤ z') h) in
    let fine = cancel_left n ((pos m *ℤ f) *ℤ pos n') z' some (by_parts (pos n *ℤ ((pos m *ℤ f) *ℤ pos n')) (pos n *ℤ z') (simp parts (omega arith))) in
    floor_greatest z' (pos m *ℤ f) n' some' fine

-- the ceiling at the fine scale is at most the ceiling at a coarse scale, in fine units
pub ceil_encloses : (m n n' : ℕ) (z z' : ℤ) → 0 < n → 0 < n' → (pos n *ℤ z') ≤ℤ (pos (m * n') *ℤ z) → ceil_over z' n' ≤ℤ (pos m *ℤ ceil_over z n)
ceil_encloses m n n' z z' some some' h =
    let f = ceil_over z n in
    let k = mono_left (m * n') z (f *ℤ pos n) (ceil_above z n some) in
    let p = simp parts at (to_parts (pos (m * n') *ℤ z) (pos (m * n') *ℤ (f *ℤ pos n)) k) in
    let q = simp parts at (to_parts (pos n *ℤ z') (pos (m * n') *ℤ z) h) in
    let fine = cancel_left n z' ((pos m *ℤ f) *ℤ pos n') some (by_parts (pos n *ℤ z') (pos n *ℤ ((pos m *ℤ f) *ℤ pos n')) (simp parts (omega arith))) in
    ceil_least z' (pos m *ℤ f) n' some' fine

-- the floor is at most the ceiling, also of a greater number, by any divisor
pub floor_le_ceil : (z y : ℤ) (n : ℕ) → z ≤ℤ y → floor_over z n ≤ℤ ceil_over y n
floor_le_ceil z y zero h = by_zero_ordered z y
floor_le_ceil z y (suc d) h =
    let n = suc d in
    let some : 0 < n = omega arith in
    let f = floor_over z n in
    let g = ceil_over y n in
    let p = simp parts at (to_parts (f *ℤ pos n) z (floor_below z n some)) in
    let q = simp parts at (to_parts y (g *ℤ pos n) (ceil_above y n some)) in
    let o = to_parts z y h in
    cancel_left n f g some (by_parts (pos n *ℤ f) (pos n *ℤ g) (simp parts (omega arith)))

-- by one divisor at both scales, 0 included: m times the coarse floor is at most the fine one, and
-- the fine ceiling at most m times the coarse one
pub floor_finer : (m n : ℕ) (z z' : ℤ) → (pos m *ℤ z) ≤ℤ z' → (pos m *ℤ floor_over z n) ≤ℤ floor_over z' n
floor_finer m zero z z' h = floor_over_zero m z z' h
floor_finer m (suc d) z z' h =
    let n = suc d in
    let some : 0 < n = omega arith in
    let k = simp parts at (to_parts (pos n *ℤ (pos m *ℤ z)) (pos n *ℤ z') (mono_left n (pos m *ℤ z) z' h)) in
    floor_encloses m n n z z' some some (by_parts (pos (m * n) *ℤ z) (pos n *ℤ z') (simp parts (omega arith)))

pub ceil_finer : (m n : ℕ) (z z' : ℤ) → z' ≤ℤ (pos m *ℤ z) → ceil_over z' n ≤ℤ (pos m *ℤ ceil_over z n)
unfolding ceil_over
ceil_finer m n z z' h =
    let p = simp parts at (to_parts z' (pos m *ℤ z) h) in
    let low = floor_finer m n (neg_ℤ z) (neg_ℤ z') (by_parts (pos m *ℤ neg_ℤ z) (neg_ℤ z') (simp parts (omega arith))) in
    let q = simp parts at (to_parts (pos m *ℤ floor_over (neg_ℤ z) n) (floor_over (neg_ℤ z') n) low) in
    by_parts (neg_ℤ (floor_over (neg_ℤ z') n)) (pos m *ℤ neg_ℤ (floor_over (neg_ℤ z) n)) (simp parts (omega arith))
