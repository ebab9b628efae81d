-- The ranges of K/S and of a contribution, and that no call of their evaluation overflows.
use Rattle.std.proofs.Common.{◌≡◌, ◌+◌, ◌-◌, ◌*◌, ◌^◌, ◌≤◌, ℕ, ℤ, pos, subst, sym, arith, unsigned_abs, mul-le-mul, mul-le-mul_left, mul-le-mul_right}
use Rattle.interval_specs.specs.Ends.{Ends, magnitude_of}
use Rattle.interval_specs.specs.Ranges.{MagnitudeUpTo, UpTo}
use Rattle.interval_specs.specs.Operations.{difference_of, multiple_of}
use Rattle.interval_specs.proofs.Order.{le_pos}
use Rattle.interval_specs.proofs.Ranges.{ratio_up_to, difference_magnitude, multiple_magnitude, magnitude_of_up_to}
use Rattle.spectral_tables.specs.Curve.{IsReflectance}
use Rattle.ks_curves.specs.KubelkaMunk.{ks_at}

-- (1 - R)^2 at a scale
square_small : (m n : ℕ) → (10 ^ 6 - m) * (10 ^ 6 - m) * n ≤ 10 ^ 12 * n
square_small m n = let one : 10 ^ 6 - m ≤ 10 ^ 6 = omega arith in mul-le-mul_right n (mul-le-mul one one)

pub ks_room : (m n : ℕ) (z : ℤ) → z ≡ pos ((10 ^ 6 - m) * (10 ^ 6 - m)) → n ≤ 10 ^ 12 → unsigned_abs z * n ≤ 10 ^ 37
ks_room m n z e h =
    let P : ℤ → Type 0 = λ z. unsigned_abs z * n ≤ 10 ^ 37 in let small = square_small m n in subst P (sym e) (omega arith)

pub ks_magnitude : (m n : ℕ) (y z : ℤ) → z ≡ pos ((10 ^ 6 - m) * (10 ^ 6 - m)) → y ≡ pos (2 * 10 ^ 6 * m) → n ≤ 10 ^ 12 → 100 ≤ m → unsigned_abs z * n ≤ 10 ^ 25 * unsigned_abs y
ks_magnitude m n y z e f h least =
    let P : ℤ → Type 0 = λ z. unsigned_abs z * n ≤ 10 ^ 25 * unsigned_abs y in
    let Q : ℤ → Type 0 = λ y. (10 ^ 6 - m) * (10 ^ 6 - m) * n ≤ 10 ^ 25 * unsigned_abs y in
    let small = square_small m n in subst P (sym e) (subst Q (sym f) (omega arith))

-- K/S is from 0 to 5000
pub ks_up_to : (n m : ℕ) → IsReflectance m → UpTo (5000 * n) (ks_at n m)
unfolding ks_at
ks_up_to n m within =
    let small = square_small m n in
    let dark = mul-le-mul_left n within.0 in
    ratio_up_to n (5000 * n) (pos ((10 ^ 6 - m) * (10 ^ 6 - m))) (2 * 10 ^ 6 * m) (omega (arith, within)) (le_pos _) (omega arith)

-- what is added to the K/S of the substrate
pub addition_room : (n : ℕ) (a b : Ends) → n ≤ 10 ^ 12 → UpTo (5000 * n) a → UpTo (5000 * n) b → magnitude_of a + magnitude_of b ≤ 10 ^ 25
addition_room n a b few u v =
    let s = (magnitude_of_up_to (5000 * n) a u).small in
    let t = (magnitude_of_up_to (5000 * n) b v).small in
    omega arith

pub addition_magnitude : (n : ℕ) (a b : Ends) → UpTo (5000 * n) a → UpTo (5000 * n) b → MagnitudeUpTo (10 ^ 4 * n) (difference_of a b)
addition_magnitude n a b u v =
    subst (λ k. MagnitudeUpTo k (difference_of a b)) (omega arith) (difference_magnitude (5000 * n) (5000 * n) a b (magnitude_of_up_to (5000 * n) a u) (magnitude_of_up_to (5000 * n) b v))

pub weighted_room : (n units : ℕ) (a : Ends) → n ≤ 10 ^ 12 → units ≤ 20000 → MagnitudeUpTo (10 ^ 4 * n) a → magnitude_of a * units ≤ 10 ^ 25
weighted_room n units a few most s = let m = mul-le-mul s.small most in omega arith

pub weighted_magnitude : (n units : ℕ) (a : Ends) → MagnitudeUpTo (10 ^ 4 * n) a → MagnitudeUpTo (units * (10 ^ 4 * n)) (multiple_of (pos units) a)
weighted_magnitude n units a s = subst (λ k. MagnitudeUpTo k (multiple_of (pos units) a)) (omega arith) (multiple_magnitude (10 ^ 4 * n) (pos units) a s)
