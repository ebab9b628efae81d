-- Which of the results at the ends is the least or the greatest, and that products of ends have
-- room.
use Rattle.std.proofs.Common.{ℕ, ℤ, pos, true, false, ◌≡◌, ◌*◌, ◌≤◌, ◌^◌, ◌∙◌, ◌*ℤ◌, ◌≤ℤ◌, ◌<ℤ◌, FitsSigned, unsigned_abs, ap, sym, arith, le_trans, le_refl}
use Rattle.std.proofs.lemmas.Int.{to_z-of_z, ints}
use Rattle.std.specs.Int.{w128, int_min, int_max}
use lib.Signed.{le_z}
use Rattle.interval_specs.specs.Ends.{Ends, magnitude_of}
use Rattle.interval_specs.specs.Operations.{least_product, greatest_product, absolute_of}
use Rattle.interval_specs.specs.Rounding.{floor_over, ceil_over}
use Rattle.interval_specs.proofs.Order.{any_least, any_greatest, magnitude_positive, min_first, min_second, max_first, max_second}
use Rattle.interval_specs.proofs.Rounds.{floor_far, floor_near_0, ceil_far, ceil_near_0}
use Rattle.interval_specs.proofs.Ranges.{product_small, lo_small, hi_small, magnitude_of_up_to, absolute_up_to}
use Rattle.fix_bounds.proofs.Passed.{passed}

-- a product has room where two intervals of at least these magnitudes have one with room
corner_small : (a b : Ends) (x y : ℤ) → magnitude_of a * magnitude_of b ≤ 10 ^ 37 → unsigned_abs x ≤ magnitude_of a → unsigned_abs y ≤ magnitude_of b → unsigned_abs (x *ℤ y) ≤ 10 ^ 37
corner_small a b x y h p q = le_trans (product_small x y (magnitude_of a) (magnitude_of b) p q) h

-- the magnitudes of two divisors above 0 have the order of the divisors
magnitudes_ordered : (c d : ℤ) → pos 0 <ℤ c → c ≤ℤ d → unsigned_abs c ≤ unsigned_abs d
magnitudes_ordered c d p q = omega (arith, ints)

-- what a test on a value that is passed on shows of the value
not_negative : (x : ℤ) → FitsSigned w128 x → le_z (pos 0) (passed x) ≡ true → pos 0 ≤ℤ x
not_negative x f t = let s : le_z (pos 0) x ≡ true = sym (ap (le_z (pos 0)) (to_z-of_z w128 x f)) ∙ t in omega (arith, ints)

not_positive : (x : ℤ) → FitsSigned w128 x → le_z (pos 0) (passed x) ≡ false → x ≤ℤ pos 0
not_positive x f t = let s : le_z (pos 0) x ≡ false = sym (ap (le_z (pos 0)) (to_z-of_z w128 x f)) ∙ t in omega (arith, ints)

pub least_far : (x c d : ℤ) → FitsSigned w128 x → pos 0 <ℤ c → c ≤ℤ d → le_z (pos 0) (passed x) ≡ true → floor_over x (unsigned_abs d) ≡ int_min (floor_over x (unsigned_abs c)) (floor_over x (unsigned_abs d))
least_far x c d f p q t =
    sym (min_second (floor_over x (unsigned_abs c)) (floor_over x (unsigned_abs d)) (floor_far x (unsigned_abs c) (unsigned_abs d) (magnitude_positive c p) (magnitudes_ordered c d p q) (not_negative x f t)))

pub least_near : (x c d : ℤ) → FitsSigned w128 x → pos 0 <ℤ c → c ≤ℤ d → le_z (pos 0) (passed x) ≡ false → floor_over x (unsigned_abs c) ≡ int_min (floor_over x (unsigned_abs c)) (floor_over x (unsigned_abs d))
least_near x c d f p q t =
    sym (min_first (floor_over x (unsigned_abs c)) (floor_over x (unsigned_abs d)) (floor_near_0 x (unsigned_abs c) (unsigned_abs d) (magnitude_positive c p) (magnitudes_ordered c d p q) (not_positive x f t)))

pub greatest_near : (x c d : ℤ) → FitsSigned w128 x → pos 0 <ℤ c → c ≤ℤ d → le_z (pos 0) (passed x) ≡ true → ceil_over x (unsigned_abs c) ≡ int_max (ceil_over x (unsigned_abs c)) (ceil_over x (unsigned_abs d))
greatest_near x c d f p q t =
    sym (max_first (ceil_over x (unsigned_abs c)) (ceil_over x (unsigned_abs d)) (ceil_near_0 x (unsigned_abs c) (unsigned_abs d) (magnitude_positive c p) (magnitudes_ordered c d p q) (not_negative x f t)))

pub greatest_far : (x c d : ℤ) → FitsSigned w128 x → pos 0 <ℤ c → c ≤ℤ d → le_z (pos 0) (passed x) ≡ false → ceil_over x (unsigned_abs d) ≡ int_max (ceil_over x (unsigned_abs c)) (ceil_over x (unsigned_abs d))
greatest_far x c d f p q t =
    sym (max_second (ceil_over x (unsigned_abs c)) (ceil_over x (unsigned_abs d)) (ceil_far x (unsigned_abs c) (unsigned_abs d) (magnitude_positive c p) (magnitudes_ordered c d p q) (not_positive x f t)))

-- a test on a known value
pub known_not_negative : (r x : ℤ) → r ≡ x → le_z (pos 0) r ≡ true → pos 0 ≤ℤ x
known_not_negative r x e t = let s : le_z (pos 0) x ≡ true = sym (ap (le_z (pos 0)) e) ∙ t in omega (arith, ints)

pub known_negative : (r x : ℤ) → r ≡ x → le_z (pos 0) r ≡ false → x ≤ℤ pos 0
known_negative r x e t = let s : le_z (pos 0) x ≡ false = sym (ap (le_z (pos 0)) e) ∙ t in omega (arith, ints)

-- the four products of ends have room
pub low_low : (a b : Ends) → magnitude_of a * magnitude_of b ≤ 10 ^ 37 → unsigned_abs (a.lo *ℤ b.lo) ≤ 10 ^ 37
low_low a b h = corner_small a b a.lo b.lo h (lo_small a) (lo_small b)

pub low_high : (a b : Ends) → magnitude_of a * magnitude_of b ≤ 10 ^ 37 → unsigned_abs (a.lo *ℤ b.hi) ≤ 10 ^ 37
low_high a b h = corner_small a b a.lo b.hi h (lo_small a) (hi_small b)

pub high_low : (a b : Ends) → magnitude_of a * magnitude_of b ≤ 10 ^ 37 → unsigned_abs (a.hi *ℤ b.lo) ≤ 10 ^ 37
high_low a b h = corner_small a b a.hi b.lo h (hi_small a) (lo_small b)

pub high_high : (a b : Ends) → magnitude_of a * magnitude_of b ≤ 10 ^ 37 → unsigned_abs (a.hi *ℤ b.hi) ≤ 10 ^ 37
high_high a b h = corner_small a b a.hi b.hi h (hi_small a) (hi_small b)

pub known_not_positive : (r x : ℤ) → r ≡ x → le_z r (pos 0) ≡ true → x ≤ℤ pos 0
known_not_positive r x e t = let s : le_z x (pos 0) ≡ true = sym (ap (λ z. le_z z (pos 0)) e) ∙ t in omega (arith, ints)

pub known_positive : (r x : ℤ) → r ≡ x → le_z r (pos 0) ≡ false → pos 0 ≤ℤ x
known_positive r x e t = let s : le_z x (pos 0) ≡ false = sym (ap (λ z. le_z z (pos 0)) e) ∙ t in omega (arith, ints)

-- the least and the greatest product of ends have room
pub least_room : (a b : Ends) → magnitude_of a * magnitude_of b ≤ 10 ^ 37 → unsigned_abs (least_product a b) ≤ 10 ^ 37
least_room a b h =
    any_least (λ z. unsigned_abs z ≤ 10 ^ 37) (a.lo *ℤ b.lo) (a.lo *ℤ b.hi) (a.hi *ℤ b.lo) (a.hi *ℤ b.hi) (low_low a b h) (low_high a b h) (high_low a b h) (high_high a b h)

pub greatest_room : (a b : Ends) → magnitude_of a * magnitude_of b ≤ 10 ^ 37 → unsigned_abs (greatest_product a b) ≤ 10 ^ 37
greatest_room a b h =
    any_greatest (λ z. unsigned_abs z ≤ 10 ^ 37) (a.lo *ℤ b.lo) (a.lo *ℤ b.hi) (a.hi *ℤ b.lo) (a.hi *ℤ b.hi) (low_low a b h) (low_high a b h) (high_low a b h) (high_high a b h)

-- a bound by the unit of a scale is a bound by a number
pub unit_room : (k n : ℕ) → k ≤ 10 ^ 25 * n → n ≤ 10 ^ 12 → k ≤ 10 ^ 37
unit_room k n h m = omega arith

-- an end times the unit of a scale has room
pub scaled_room : (x : ℤ) (n : ℕ) → unsigned_abs x ≤ 10 ^ 25 → n ≤ 10 ^ 12 → unsigned_abs (x *ℤ pos n) ≤ 10 ^ 37
scaled_room x n h m = product_small x (pos n) (10 ^ 25) (10 ^ 12) h m

-- the squares of the two magnitudes have room
pub least_square_room : (a : Ends) → magnitude_of a * magnitude_of a ≤ 10 ^ 37 → unsigned_abs ((absolute_of a).lo *ℤ (absolute_of a).lo) ≤ 10 ^ 37
least_square_room a h =
    let u = magnitude_of_up_to _ _ (absolute_up_to (magnitude_of a) a (le_refl (magnitude_of a))) in
    let l : unsigned_abs (absolute_of a).lo ≤ magnitude_of a = le_trans (lo_small (absolute_of a)) u.small in
    corner_small a a (absolute_of a).lo (absolute_of a).lo h l l

pub greatest_square_room : (a : Ends) → magnitude_of a * magnitude_of a ≤ 10 ^ 37 → unsigned_abs ((absolute_of a).hi *ℤ (absolute_of a).hi) ≤ 10 ^ 37
greatest_square_room a h =
    let u = magnitude_of_up_to _ _ (absolute_up_to (magnitude_of a) a (le_refl (magnitude_of a))) in
    let l : unsigned_abs (absolute_of a).hi ≤ magnitude_of a = le_trans (hi_small (absolute_of a)) u.small in
    corner_small a a (absolute_of a).hi (absolute_of a).hi h l l
