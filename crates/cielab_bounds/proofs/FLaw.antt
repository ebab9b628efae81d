-- The law of f.
use Rattle.std.proofs.Common.{ℕ, ℤ, pos, ◌≡◌, ◌*◌, ◌/◌, ◌≤◌, ◌<◌, ◌*ℤ◌, ◌≤ℤ◌, Bool, true, false, cond, refl, sym, arith, lit<, mul-le-mul_left, mul-le-mul_right, unsigned_abs, div-add-mod', add-one-le}
use Rattle.std.proofs.lemmas.Int.{ints}
use Rattle.interval_specs.specs.Rounding.{floor_over, ceil_over}
use Rattle.interval_specs.specs.Roots.{cube, root_below, root_above}
use Rattle.interval_specs.proofs.Order.{trans_ℤ, parts, by_parts}
use Rattle.interval_specs.proofs.Rounds.{floor_encloses, ceil_encloses, floor_le_ceil, ceil_least, floor_of_natural}
use Rattle.interval_specs.proofs.Roots.{cube_power, below_le_above, cbrt_low, cbrt_high, low_magnitude, high_magnitude, not_below, magnitudes_rise}
use Rattle.cielab_bounds.specs.Cielab.{is_on_root, linear, f_down, f_up, f_at}
use Rattle.cielab_bounds.specs.Laws.{FEncloses}
use Rattle.cielab_bounds.proofs.Parts.{on_root, off_root, linear_below, root_beyond, root_above_threshold}

-- two choices of two values each are in order, where they are so in each case
pick_low : (m : ℕ) (r s r' s' : ℤ) (b b' : Bool) → (b ≡ true → b' ≡ true → (pos m *ℤ r) ≤ℤ r') → (b ≡ true → b' ≡ false → (pos m *ℤ r) ≤ℤ s') → (b ≡ false → b' ≡ true → (pos m *ℤ s) ≤ℤ r') → (b ≡ false → b' ≡ false → (pos m *ℤ s) ≤ℤ s') → (pos m *ℤ cond b r s) ≤ℤ cond b' r' s'
pick_low m r s r' s' true true p q u v = p refl refl
pick_low m r s r' s' true false p q u v = q refl refl
pick_low m r s r' s' false true p q u v = u refl refl
pick_low m r s r' s' false false p q u v = v refl refl

pick_high : (m : ℕ) (r s r' s' : ℤ) (b b' : Bool) → (b ≡ true → b' ≡ true → r' ≤ℤ (pos m *ℤ r)) → (b ≡ true → b' ≡ false → s' ≤ℤ (pos m *ℤ r)) → (b ≡ false → b' ≡ true → r' ≤ℤ (pos m *ℤ s)) → (b ≡ false → b' ≡ false → s' ≤ℤ (pos m *ℤ s)) → cond b' r' s' ≤ℤ (pos m *ℤ cond b r s)
pick_high m r s r' s' true true p q u v = p refl refl
pick_high m r s r' s' true false p q u v = q refl refl
pick_high m r s r' s' false true p q u v = u refl refl
pick_high m r s r' s' false false p q u v = v refl refl

pick_ordered : (r s r' s' : ℤ) (b b' : Bool) → (b ≡ true → b' ≡ true → r ≤ℤ r') → (b ≡ true → b' ≡ false → r ≤ℤ s') → (b ≡ false → b' ≡ true → s ≤ℤ r') → (b ≡ false → b' ≡ false → s ≤ℤ s') → cond b r s ≤ℤ cond b' r' s'
pick_ordered r s r' s' true true p q u v = p refl refl
pick_ordered r s r' s' true false p q u v = q refl refl
pick_ordered r s r' s' false true p q u v = u refl refl
pick_ordered r s r' s' false false p q u v = v refl refl

floor_fits : (z : ℕ) → z / 3132 * 3132 ≤ z
floor_fits z = omega (arith, div-add-mod' z 3132)

-- where a coarse lower end is on the root, so is the fine one; where a coarse upper end is not, nor
-- is the fine one
still_on_root : (n m t t' : ℕ) → 0 < m → m * t ≤ t' → 216 * n < 24389 * t → 24389 * t' ≤ 216 * (m * n) → ⊥
still_on_root n m t t' some h on off = let p = mul-le-mul_left m (add-one-le on) in omega arith

still_off_root : (n m t t' : ℕ) → t' ≤ m * t → 24389 * t ≤ 216 * n → 216 * (m * n) < 24389 * t' → ⊥
still_off_root n m t t' h off on = let p = mul-le-mul_left m off in omega arith

-- m times a coarse lower end on the linear part is at most a fine one on the root
linear_to_root : (n m t t' : ℕ) → 24389 * t ≤ 216 * n → 216 * (m * n) < 24389 * t' → (pos m *ℤ floor_over (pos (linear n t)) 3132) ≤ℤ pos (root_below cube (t' * ((m * n) * (m * n))))
linear_to_root n m t t' off on =
    let f = linear n t / 3132 in
    let s = linear_below n t f off (floor_fits (linear n t)) in
    let k = mul-le-mul_left m s in
    let r : m * f ≤ root_below cube (t' * ((m * n) * (m * n))) = root_beyond (m * n) t' (m * f) on (omega arith) in
    rw (sym (floor_of_natural (linear n t) 3132)) (omega (arith, ints))

-- a fine upper end on the linear part is at most m times a coarse one on the root
root_to_linear : (n m t t' : ℕ) → 216 * n < 24389 * t → 24389 * t' ≤ 216 * (m * n) → ceil_over (pos (linear (m * n) t')) 3132 ≤ℤ (pos m *ℤ pos (root_above cube (t * (n * n))))
root_to_linear n m t t' on off =
    let r = root_above cube (t * (n * n)) in
    let b = root_above_threshold n t on in
    let k = mul-le-mul_left m b in
    ceil_least (pos (linear (m * n) t')) (pos m *ℤ pos r) 3132 (lit< tt) (by_parts (pos (linear (m * n) t')) ((pos m *ℤ pos r) *ℤ pos 3132) (simp parts (omega arith)))

-- at one scale, a lower end on the linear part is at most an upper end on the root
linear_under_root : (n t u : ℕ) → 24389 * t ≤ 216 * n → 216 * n < 24389 * u → floor_over (pos (linear n t)) 3132 ≤ℤ pos (root_above cube (u * (n * n)))
linear_under_root n t u off on =
    let f = linear n t / 3132 in
    let s = linear_below n t f off (floor_fits (linear n t)) in
    let b = root_above_threshold n u on in
    rw (sym (floor_of_natural (linear n t) 3132)) (omega (arith, ints))

linears_low : (n m t t' : ℕ) → m * t ≤ t' → (pos (m * 3132) *ℤ pos (linear n t)) ≤ℤ (pos 3132 *ℤ pos (linear (m * n) t'))
linears_low n m t t' h = by_parts (pos (m * 3132) *ℤ pos (linear n t)) (pos 3132 *ℤ pos (linear (m * n) t')) (simp parts (omega arith))

linears_high : (n m t t' : ℕ) → t' ≤ m * t → (pos 3132 *ℤ pos (linear (m * n) t')) ≤ℤ (pos (m * 3132) *ℤ pos (linear n t))
linears_high n m t t' h = by_parts (pos 3132 *ℤ pos (linear (m * n) t')) (pos (m * 3132) *ℤ pos (linear n t)) (simp parts (omega arith))

down_encloses : (n m t t' : ℕ) → 0 < m → m * t ≤ t' → (pos m *ℤ f_down n t) ≤ℤ f_down (m * n) t'
unfolding f_down
down_encloses n m t t' some h =
    pick_low m _ _ _ _ (is_on_root n t) (is_on_root (m * n) t')
    (λ e e'. let c = cbrt_low n m t t' h in omega (arith, ints))
    (λ e e'. absurd (still_on_root n m t t' some h (on_root n t e) (off_root (m * n) t' e')))
    (λ e e'. linear_to_root n m t t' (off_root n t e) (on_root (m * n) t' e'))
    (λ e e'. floor_encloses m 3132 3132 (pos (linear n t)) (pos (linear (m * n) t')) (lit< tt) (lit< tt) (linears_low n m t t' h))

up_encloses : (n m t t' : ℕ) → t' ≤ m * t → f_up (m * n) t' ≤ℤ (pos m *ℤ f_up n t)
unfolding f_up
up_encloses n m t t' h =
    pick_high m _ _ _ _ (is_on_root n t) (is_on_root (m * n) t')
    (λ e e'. let c = cbrt_high n m t t' h in omega (arith, ints))
    (λ e e'. root_to_linear n m t t' (on_root n t e) (off_root (m * n) t' e'))
    (λ e e'. absurd (still_off_root n m t t' h (off_root n t e) (on_root (m * n) t' e')))
    (λ e e'. ceil_encloses m 3132 3132 (pos (linear n t)) (pos (linear (m * n) t')) (lit< tt) (lit< tt) (linears_high n m t t' h))

pub f_ordered : (n t u : ℕ) → t ≤ u → f_down n t ≤ℤ f_up n u
unfolding f_down f_up
f_ordered n t u h =
    pick_ordered _ _ _ _ (is_on_root n t) (is_on_root n u)
    (λ e e'. let o = below_le_above cube cube_power (t * (n * n)) (u * (n * n)) (mul-le-mul_right (n * n) h) in omega (arith, ints))
    (λ e e'. let p = on_root n t e in let q = off_root n u e' in absurd (omega arith))
    (λ e e'. linear_under_root n t u (off_root n t e) (on_root n u e'))
    (λ e e'. floor_le_ceil (pos (linear n t)) (pos (linear n u)) 3132 (omega (arith, ints)))

pub f_encloses : FEncloses
unfolding f_at
f_encloses n m t t' some z h =
    let z' = not_below m t.lo t'.lo z h.low in
    let up = trans_ℤ (pos 0) t'.lo t'.hi z' h.ordered in
    record {
      low = down_encloses n m (unsigned_abs t.lo) (unsigned_abs t'.lo) some (low_magnitude m t.lo t'.lo z h.low);
      high = up_encloses n m (unsigned_abs t.hi) (unsigned_abs t'.hi) (high_magnitude m t.hi t'.hi up h.high);
      ordered = f_ordered (m * n) (unsigned_abs t'.lo) (unsigned_abs t'.hi) (magnitudes_rise t'.lo t'.hi z' h.ordered);
    }
