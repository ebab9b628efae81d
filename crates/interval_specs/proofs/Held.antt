-- Results that satisfy IsHeld: intervals made of two ends, and the roots of held intervals.
use Rattle.std.proofs.Common.{ℕ, ℤ, pos, ◌≡◌, ◌*◌, ◌≤◌, ◌≤ℤ◌, unsigned_abs, subst, arith, sym, ◌^◌, ◌∙◌, mul-le-mul}
use Rattle.std.proofs.lemmas.Int.{ints}
use Rattle.interval_specs.specs.Ends.{Ends, IsHeld}
use Rattle.interval_specs.specs.Roots.{square, cube, sqrt_at, cbrt_at}
use Rattle.interval_specs.proofs.Roots.{square_power, cube_power, below_le_above, magnitudes_in_order, sqrt_magnitude, cbrt_magnitude}

-- two numbers that are the ends of e make up e
pub same_ends : (x y : ℤ) (e : Ends) → x ≡ e.lo → y ≡ e.hi → record { lo = x; hi = y } ≡ e
same_ends x y e p q = λ i. record { lo = p i; hi = q i }

-- a result that is made of the ends of e is e
pub is_ends : (r : Ends) (x y : ℤ) (e : Ends) → r ≡ record { lo = x; hi = y } → x ≡ e.lo → y ≡ e.hi → r ≡ e
is_ends r x y e h p q = h ∙ same_ends x y e p q

-- ends of a held interval e are held
pub held_by : (x y : ℤ) (e : Ends) → x ≡ e.lo → y ≡ e.hi → IsHeld e → IsHeld (record { lo = x; hi = y })
held_by x y e p q h = subst IsHeld (sym (same_ends x y e p q)) h

roots_held : (r s : ℕ) → r ≤ s → s ≤ 10 ^ 25 → IsHeld (record { lo = pos r; hi = pos s })
roots_held r s h k = record { ordered = omega (arith, ints); small = omega arith }

-- roots of held intervals are held
pub sqrt_held : (n : ℕ) (a : Ends) → n ≤ 10 ^ 12 → pos 0 ≤ℤ a.lo → IsHeld a → IsHeld (sqrt_at n a)
unfolding sqrt_at
sqrt_held n a few z h =
    let o = below_le_above square square_power (unsigned_abs a.lo * n) (unsigned_abs a.hi * n) (magnitudes_in_order a.lo a.hi n z h.ordered) in
    let magnitude : unsigned_abs a.hi ≤ 10 ^ 25 = omega (arith, h.small) in
    let p = mul-le-mul magnitude few in
    let top = sqrt_magnitude n (10 ^ 25) a.hi (omega arith) in
    roots_held _ _ o top

pub cbrt_held : (n : ℕ) (a : Ends) → n ≤ 10 ^ 12 → pos 0 ≤ℤ a.lo → IsHeld a → IsHeld (cbrt_at n a)
unfolding cbrt_at
cbrt_held n a few z h =
    let o = below_le_above cube cube_power (unsigned_abs a.lo * (n * n)) (unsigned_abs a.hi * (n * n)) (magnitudes_in_order a.lo a.hi (n * n) z h.ordered) in
    let magnitude : unsigned_abs a.hi ≤ 10 ^ 25 = omega (arith, h.small) in
    let p = mul-le-mul magnitude (mul-le-mul few few) in
    let top = cbrt_magnitude n (10 ^ 25) a.hi (omega arith) in
    roots_held _ _ o top
