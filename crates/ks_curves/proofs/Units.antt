-- A number times units, and a multiple by 1.
use Rattle.std.proofs.Common.{◌≤ℤ◌, ◌*ℤ◌, ◌≤◌, ℕ, ℤ, pos, arith}
use Rattle.std.proofs.lemmas.Int.{ints}
use Rattle.interval_specs.proofs.Order.{parts, by_parts, to_parts, mono_left, wider, trans_ℤ}

pub once : (x y : ℤ) → x ≤ℤ y → (pos 1 *ℤ x) ≤ℤ y
once x y h = omega (arith, ints)

pub at_once : (x y : ℤ) → x ≤ℤ y → x ≤ℤ (pos 1 *ℤ y)
at_once x y h = omega (arith, ints)

-- a number times more units, neither below 0
pub more_units : (x y : ℤ) (few many : ℕ) → pos 0 ≤ℤ x → x ≤ℤ y → few ≤ many → (x *ℤ pos few) ≤ℤ (y *ℤ pos many)
more_units x y few many some le more =
    let first = mono_left few x y le in
    let second = wider y (pos few) (pos many) (trans_ℤ (pos 0) x y some le) (omega (arith, ints)) in
    let p = simp parts at (to_parts (pos few *ℤ x) (pos few *ℤ y) first) in
    let q = simp parts at (to_parts (pos few *ℤ y) (pos many *ℤ y) second) in
    by_parts (x *ℤ pos few) (y *ℤ pos many) (simp parts (omega (arith, p, q)))
