-- Lower bounds: what follows from them, and those of rounded quotients, sums, products, squares and
-- choices.
use Rattle.std.proofs.Common.{ℕ, ℤ, pos, negsuc, suc, true, false, ◌+◌, ◌*◌, ◌≤◌, ◌<◌, ◌*ℤ◌, ◌≤ℤ◌, ◌<ℤ◌, unsigned_abs, arith, mul-le-mul_left, ◌/◌, ◌%◌, div-add-mod', mod-lt, Bool, if◌then◌else◌, mul-le-mul, zero, lit<}
use Rattle.std.proofs.Math.Nat.{le_of_mul-le-mul_left}
use Rattle.std.proofs.lemmas.Int.{ints}
use Rattle.interval_specs.specs.Rounding.{floor_over}
use Rattle.interval_specs.specs.Ends.{Ends, IsOrdered}
use Rattle.interval_specs.specs.Operations.{ratio_at, fraction_of, sum_of, hull_of, product_at, least_product, square_at, least_magnitude}
use Rattle.interval_specs.specs.Ranges.{AtLeast}
use Rattle.interval_specs.proofs.Order.{parts, to_parts, mono_left, trans_ℤ, either_min, any_least}
use Rattle.interval_specs.proofs.Rounds.{floor_mono}
use Rattle.interval_specs.proofs.Laws.{least_magnitude_above}
use Rattle.interval_specs.proofs.Ranges.Sums.{sum_at_least}
use Rattle.interval_specs.proofs.Ranges.Quotients.{divisor_magnitude}

-- ---- what follows from a lower bound

above_0 : (k q : ℕ) (x : ℤ) → 0 < k → pos k ≤ℤ (pos q *ℤ x) → pos 0 <ℤ x
above_0 k q (pos zero) p h = let r = simp parts at (to_parts (pos k) (pos q *ℤ pos zero) h) in absurd (omega arith)
above_0 k q (pos (suc x)) p h = omega (arith, ints)
above_0 k q (negsuc x) p h = let r = simp parts at (to_parts (pos k) (pos q *ℤ negsuc x) h) in absurd (omega arith)

-- the lower end is above 0
pub positive : (p q n : ℕ) (a : Ends) → 0 < p * n → AtLeast p q n a → pos 0 <ℤ a.lo
positive p q n a some h = above_0 (p * n) q a.lo some h.low

magnitude_above : (k q : ℕ) (x : ℤ) → 0 < k → pos k ≤ℤ (pos q *ℤ x) → k ≤ q * unsigned_abs x
magnitude_above k q (pos x) p h = omega (arith, ints)
magnitude_above k q (negsuc x) p h = let r = simp parts at (to_parts (pos k) (pos q *ℤ negsuc x) h) in absurd (omega arith)

-- the bound by the magnitude of the lower end
pub low_magnitude_at_least : (p q n : ℕ) (a : Ends) → 0 < p * n → AtLeast p q n a → p * n ≤ q * unsigned_abs a.lo
low_magnitude_at_least p q n a some h = magnitude_above (p * n) q a.lo some h.low

-- a lower bound of an interval holds for one whose lower end is no less
pub begins_higher : (p q n : ℕ) (a b : Ends) → a.lo ≤ℤ b.lo → AtLeast p q n a → AtLeast p q n b
begins_higher p q n a b o h = record { low = trans_ℤ (pos (p * n)) (pos q *ℤ a.lo) (pos q *ℤ b.lo) h.low (mono_left q a.lo b.lo o) }

-- the magnitude of a number above 0 is at most the number
pub as_magnitude : (x : ℤ) → pos 0 <ℤ x → pos (unsigned_abs x) ≤ℤ x
as_magnitude (pos x) h = omega (arith, ints)
as_magnitude (negsuc x) h = absurd (omega (arith, ints))

pub magnitude_from : (k : ℕ) (x : ℤ) → pos k ≤ℤ x → k ≤ unsigned_abs x
magnitude_from k (pos x) h = omega (arith, ints)
magnitude_from k (negsuc x) h = absurd (omega (arith, ints))

-- ---- of a quotient that is rounded down
pub floor_at_least : (p q z d : ℕ) → 0 < d → (p + q) * d ≤ q * z → pos p ≤ℤ (pos q *ℤ floor_over (pos z) d)
unfolding floor_over
floor_at_least p q z d some h =
    let s = div-add-mod' z d in
    let r : z % d < d = mod-lt z some in
    let t : z ≤ z / d * d + d = omega arith in
    let u = mul-le-mul_left q t in
    let v : p ≤ q * (z / d) = le_of_mul-le-mul_left {k = d} (omega arith) some in
    omega (arith, ints)

-- the same for a whole number that is no less than z
pub floor_above_least : (p q z d : ℕ) (x : ℤ) → 0 < d → pos z ≤ℤ x → (p + q) * d ≤ q * z → pos p ≤ℤ (pos q *ℤ floor_over x d)
floor_above_least p q z d x some o h =
    trans_ℤ (pos p) (pos q *ℤ floor_over (pos z) d) (pos q *ℤ floor_over x d) (floor_at_least p q z d some h) (mono_left q (floor_over (pos z) d) (floor_over x d) (floor_mono (pos z) x d some o))

-- ---- of a ratio, a sum and a fraction
pub ratio_at_least : (p q n k d : ℕ) → 0 < d → (p * n + q) * d ≤ q * (k * n) → AtLeast p q n (ratio_at n (pos k) d)
unfolding ratio_at
ratio_at_least p q n k d some h = record { low = floor_at_least (p * n) q (k * n) d some h }

pub sum_begins : (p q n : ℕ) (a b : Ends) → pos 0 ≤ℤ b.lo → AtLeast p q n a → AtLeast p q n (sum_of a b)
sum_begins p q n a b z h = begins_higher p q n a (sum_of a b) (sum_at_least a b z) h

corner_above : (i j : ℕ) (x y : ℤ) → pos i ≤ℤ x → pos j ≤ℤ y → pos (i * j) ≤ℤ (x *ℤ y)
corner_above i j (pos x) (pos y) p q =
    let a : i ≤ x = omega (arith, ints) in
    let b : j ≤ y = omega (arith, ints) in
    let c = mul-le-mul a b in
    omega (arith, ints)
corner_above i j (negsuc x) y p q = absurd (omega (arith, ints))
corner_above i j x (negsuc y) p q = absurd (omega (arith, ints))

-- k tenths of an interval, for a k above 0
pub tenths_at_least : (p q n k : ℕ) (a : Ends) → 0 < k → pos 0 <ℤ a.lo → (p * n + q) * 10 ≤ q * unsigned_abs a.lo → AtLeast p q n (fraction_of k 10 a)
unfolding fraction_of
tenths_at_least p q n k a some low h =
    let i = unsigned_abs a.lo in
    let o = corner_above i k a.lo (pos k) (as_magnitude a.lo low) (omega (arith, ints)) in
    let more : i * 1 ≤ i * k = mul-le-mul_left i some in
    let t = mul-le-mul_left q more in
    record { low = floor_above_least (p * n) q (i * k) 10 (a.lo *ℤ pos k) (lit< tt) o (omega arith) }

-- ---- of a product and a square
pub product_at_least : (p q n : ℕ) (a b : Ends) → 0 < n → pos 0 <ℤ a.lo → IsOrdered a → pos 0 <ℤ b.lo → IsOrdered b → (p * n + q) * n ≤ q * (unsigned_abs a.lo * unsigned_abs b.lo) → AtLeast p q n (product_at n a b)
unfolding product_at
product_at_least p q n a b some al ao bl bo h =
    let i = unsigned_abs a.lo in
    let j = unsigned_abs b.lo in
    let x = as_magnitude a.lo al in
    let y = as_magnitude b.lo bl in
    let u = trans_ℤ (pos i) a.lo a.hi x ao in
    let v = trans_ℤ (pos j) b.lo b.hi y bo in
    let o = any_least (λ z. pos (i * j) ≤ℤ z) (a.lo *ℤ b.lo) (a.lo *ℤ b.hi) (a.hi *ℤ b.lo) (a.hi *ℤ b.hi)
    (corner_above i j a.lo b.lo x y) (corner_above i j a.lo b.hi x v) (corner_above i j a.hi b.lo u y) (corner_above i j a.hi b.hi u v) in
    record { low = floor_above_least (p * n) q (i * j) n (least_product a b) some o h }

pub square_at_least : (p q n : ℕ) (a : Ends) → 0 < n → pos 0 <ℤ a.lo → IsOrdered a → (p * n + q) * n ≤ q * (unsigned_abs a.lo * unsigned_abs a.lo) → AtLeast p q n (square_at n a)
unfolding square_at
square_at_least p q n a some low o h =
    let i = unsigned_abs a.lo in
    let l = least_magnitude a in
    let e = least_magnitude_above a low in
    let d = divisor_magnitude a low o in
    let le : i ≤ l = omega arith in
    let t = mul-le-mul_left q (mul-le-mul le le) in
    record { low = floor_at_least (p * n) q (l * l) n some (omega arith) }

-- ---- of a hull and a choice
pub hull_at_least : (p q n : ℕ) (a b : Ends) → AtLeast p q n a → AtLeast p q n b → AtLeast p q n (hull_of a b)
unfolding hull_of
hull_at_least p q n a b h k = record { low = either_min (λ z. pos (p * n) ≤ℤ (pos q *ℤ z)) a.lo b.lo h.low k.low }

pub choice_at_least : (p q n : ℕ) (f s : Bool) (a b : Ends) → AtLeast p q n a → AtLeast p q n b → AtLeast p q n (if f then a else (if s then b else hull_of a b))
choice_at_least p q n true s a b h k = h
choice_at_least p q n false true a b h k = k
choice_at_least p q n false false a b h k = hull_at_least p q n a b h k
