-- Roots at a coarse scale and at a fine one, and the magnitudes of the ends under the root.
use Rattle.std.proofs.Common.{ℕ, ℤ, pos, negsuc, ◌*◌, ◌≤◌, ◌*ℤ◌, ◌≤ℤ◌, unsigned_abs, arith, mul-le-mul_left, mul-le-mul_right}
use Rattle.std.proofs.lemmas.Int.{ints}
use Rattle.interval_specs.specs.Roots.{square, cube, root_below, root_above}
use Rattle.interval_specs.proofs.Roots.Powers.{IsPower, square_power, cube_power, below_fits, below_greatest, above_fits, above_least, below_le_above}

-- m times the coarse square root rounded down is at most the fine one rounded down, and likewise
-- for those rounded up
pub sqrt_low : (n m a a' : ℕ) → m * a ≤ a' → m * root_below square (a * n) ≤ root_below square (a' * (m * n))
sqrt_low n m a a' h =
    let r = root_below square (a * n) in
    let f = below_fits square square_power (a * n) in
    let p = mul-le-mul_left (m * m) f in
    let q = mul-le-mul_left (m * n) h in
    below_greatest square square_power (a' * (m * n)) (m * r) (omega arith)

pub sqrt_high : (n m b b' : ℕ) → b' ≤ m * b → root_above square (b' * (m * n)) ≤ m * root_above square (b * n)
sqrt_high n m b b' h =
    let r = root_above square (b * n) in
    let f = above_fits square square_power (b * n) in
    let p = mul-le-mul_left (m * m) f in
    let q = mul-le-mul_left (m * n) h in
    above_least square square_power (b' * (m * n)) (m * r) (omega arith)

pub cbrt_low : (n m a a' : ℕ) → m * a ≤ a' → m * root_below cube (a * (n * n)) ≤ root_below cube (a' * ((m * n) * (m * n)))
cbrt_low n m a a' h =
    let r = root_below cube (a * (n * n)) in
    let f = below_fits cube cube_power (a * (n * n)) in
    let p = mul-le-mul_left (m * m * m) f in
    let q = mul-le-mul_left ((m * n) * (m * n)) h in
    below_greatest cube cube_power (a' * ((m * n) * (m * n))) (m * r) (omega arith)

pub cbrt_high : (n m b b' : ℕ) → b' ≤ m * b → root_above cube (b' * ((m * n) * (m * n))) ≤ m * root_above cube (b * (n * n))
cbrt_high n m b b' h =
    let r = root_above cube (b * (n * n)) in
    let f = above_fits cube cube_power (b * (n * n)) in
    let p = mul-le-mul_left (m * m * m) f in
    let q = mul-le-mul_left ((m * n) * (m * n)) h in
    above_least cube cube_power (b' * ((m * n) * (m * n))) (m * r) (omega arith)

-- the magnitudes of ends that are not below 0, one of them in finer parts
pub low_magnitude : (m : ℕ) (x x' : ℤ) → pos 0 ≤ℤ x → (pos m *ℤ x) ≤ℤ x' → m * unsigned_abs x ≤ unsigned_abs x'
low_magnitude m (pos a) (pos b) z h = omega (arith, ints)
low_magnitude m (pos a) (negsuc b) z h = absurd (omega (arith, ints))
low_magnitude m (negsuc a) x' z h = absurd (omega (arith, ints))

pub high_magnitude : (m : ℕ) (y y' : ℤ) → pos 0 ≤ℤ y' → y' ≤ℤ (pos m *ℤ y) → unsigned_abs y' ≤ m * unsigned_abs y
high_magnitude m (pos b) (pos b') z h = omega (arith, ints)
high_magnitude m (negsuc b) (pos b') z h = omega (arith, ints)
high_magnitude m y (negsuc b') z h = absurd (omega (arith, ints))

pub not_below : (m : ℕ) (x x' : ℤ) → pos 0 ≤ℤ x → (pos m *ℤ x) ≤ℤ x' → pos 0 ≤ℤ x'
not_below m (pos a) x' z h = omega (arith, ints)
not_below m (negsuc a) x' z h = absurd (omega (arith, ints))

pub as_whole : (m r s : ℕ) → m * r ≤ s → (pos m *ℤ pos r) ≤ℤ pos s
as_whole m r s h = omega (arith, ints)

pub as_whole_above : (m r s : ℕ) → s ≤ m * r → pos s ≤ℤ (pos m *ℤ pos r)
as_whole_above m r s h = omega (arith, ints)

pub magnitudes_in_order : (x y : ℤ) (n : ℕ) → pos 0 ≤ℤ x → x ≤ℤ y → unsigned_abs x * n ≤ unsigned_abs y * n
magnitudes_in_order (pos a) (pos b) n z h = mul-le-mul_right n (omega (arith, ints))
magnitudes_in_order (pos a) (negsuc b) n z h = absurd (omega (arith, ints))
magnitudes_in_order (negsuc a) y n z h = absurd (omega (arith, ints))

pub magnitudes_rise : (x y : ℤ) → pos 0 ≤ℤ x → x ≤ℤ y → unsigned_abs x ≤ unsigned_abs y
magnitudes_rise x y z h = let s = magnitudes_in_order x y 1 z h in omega arith

pub ordered_roots : (power : ℕ → ℕ) → IsPower power → (x y : ℕ) → x ≤ y → pos (root_below power x) ≤ℤ pos (root_above power y)
ordered_roots power p x y h = let b = below_le_above power p x y h in omega (arith, ints)

-- a root rounded up is at most k where the number under it is at most the power of k
pub sqrt_magnitude : (n k : ℕ) (z : ℤ) → unsigned_abs z * n ≤ k * k → root_above square (unsigned_abs z * n) ≤ k
sqrt_magnitude n k z h = above_least square square_power (unsigned_abs z * n) k h

pub cbrt_magnitude : (n k : ℕ) (z : ℤ) → unsigned_abs z * (n * n) ≤ k * k * k → root_above cube (unsigned_abs z * (n * n)) ≤ k
cbrt_magnitude n k z h = above_least cube cube_power (unsigned_abs z * (n * n)) k h
