-- Room in 128 bits: magnitudes that meet what the operations require, at scales from 10^6 to 10^12.
use Rattle.std.proofs.Common.{ℕ, pos, ◌+◌, ◌*◌, ◌^◌, ◌≤◌, ◌<◌, ◌<ℤ◌, unsigned_abs, arith, mul-le-mul, mul-le-mul_right}
use Rattle.std.proofs.Math.Nat.{le_of_mul-le-mul_left}
use Rattle.interval_specs.specs.Ends.{Ends, IsHeld, magnitude_of}
use Rattle.interval_specs.specs.Ranges.{UpTo, AtLeast}
use Rattle.interval_specs.proofs.Ranges.{held, magnitude_of_up_to, magnitude_wider, positive, low_magnitude_at_least}

pub some_units : (n : ℕ) → 10 ^ 6 ≤ n → 0 < n
some_units n large = omega arith

-- an interval of a small range satisfies IsHeld
pub held_up_to : (n k : ℕ) (a : Ends) → n ≤ 10 ^ 12 → k ≤ 10 ^ 13 → UpTo (k * n) a → IsHeld a
held_up_to n k a few small u = let m = mul-le-mul small few in held a (magnitude_wider (k * n) (10 ^ 25) a (omega arith) (magnitude_of_up_to (k * n) a u))

-- a magnitude is at most its bound
pub up_to_magnitude : (k : ℕ) (a : Ends) → UpTo k a → magnitude_of a ≤ k
up_to_magnitude k a u = (magnitude_of_up_to k a u).small

pub unit_magnitude : (n : ℕ) (a : Ends) → UpTo n a → magnitude_of a ≤ 1 * n
unit_magnitude n a u = let s = up_to_magnitude n a u in omega arith

-- ---- of sums, products and quotients

pub sum_room : (n j k : ℕ) (a b : Ends) → n ≤ 10 ^ 12 → j ≤ 10 ^ 12 → k ≤ 10 ^ 12 → magnitude_of a ≤ j * n → magnitude_of b ≤ k * n → magnitude_of a + magnitude_of b ≤ 10 ^ 25
sum_room n j k a b few p q s t = let m = mul-le-mul p few in let o = mul-le-mul q few in omega arith

pub product_room : (n j k : ℕ) (a b : Ends) → n ≤ 10 ^ 12 → j ≤ 3 * 10 ^ 6 → k ≤ 3 * 10 ^ 6 → magnitude_of a ≤ j * n → magnitude_of b ≤ k * n → magnitude_of a * magnitude_of b ≤ 10 ^ 25 * n
product_room n j k a b few p q s t =
    let magnitudes = mul-le-mul s t in
    let factors = mul-le-mul_right (n * n) (mul-le-mul p q) in
    let units = mul-le-mul_right n few in
    omega arith

pub square_room : (n k : ℕ) (a : Ends) → n ≤ 10 ^ 12 → k ≤ 3 * 10 ^ 6 → magnitude_of a ≤ k * n → magnitude_of a * magnitude_of a ≤ 10 ^ 25 * n
square_room n k a few p s = product_room n k k a a few p p s s

pub quotient_room : (n k : ℕ) (a b : Ends) → n ≤ 10 ^ 12 → k ≤ 10 ^ 9 → magnitude_of a ≤ k * n → n ≤ 1000 * unsigned_abs b.lo → magnitude_of a * n ≤ 10 ^ 25 * unsigned_abs b.lo
quotient_room n k a b few p s low =
    let magnitudes = mul-le-mul_right n s in
    let factors = mul-le-mul_right (n * n) p in
    let units = mul-le-mul_right n few in
    omega arith

-- ---- divisors with a lower bound

pub above_0 : (p q n : ℕ) (r : Ends) → 10 ^ 6 ≤ n → 0 < p → AtLeast p q n r → pos 0 <ℤ r.lo
above_0 p q n r large some low = let m = mul-le-mul some large in positive p q n r (omega arith) low

pub far_from_0 : (p q n : ℕ) (r : Ends) → 10 ^ 6 ≤ n → 0 < p → q ≤ 1000 * p → AtLeast p q n r → n ≤ 1000 * unsigned_abs r.lo
far_from_0 p q n r large some few low =
    let m = mul-le-mul some large in
    let l = low_magnitude_at_least p q n r (omega arith) low in
    let f = mul-le-mul_right (unsigned_abs r.lo) few in
    far n p (unsigned_abs r.lo) some (omega arith)
  where
    far : (n p x : ℕ) → 0 < p → p * n ≤ p * (1000 * x) → n ≤ 1000 * x
    far n p x some h = le_of_mul-le-mul_left {k = p} h some
