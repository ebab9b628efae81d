-- Rounding down and up by their inequalities: files that use this one do not unfold the two
-- functions.
use Rattle.std.proofs.Common.{ℕ, ◌+◌, ℤ, pos, negsuc, suc, ◌≡◌, ◌*◌, ◌≤◌, ◌<◌, ◌+ℤ◌, ◌*ℤ◌, neg_ℤ, ◌≤ℤ◌, ◌<ℤ◌, unsigned_abs, refl, ap, subst, arith, mul-le-mul_left, sym, ◌/◌, ◌%◌, div-add-mod', mod-lt, add-one-le, div-le_self}
use borrow.Author.Differences.{sum_is_lem}
use Rattle.std.proofs.lemmas.Int.{ints, by_lt_z}
use Rattle.std.proofs.lemmas.Nat.{le-div, div_below}
use Rattle.std.specs.Int.{int_div_euclid, div_ceil}
use Rattle.std.proofs.lemmas.Grind.{div_ceil_times}
use Rattle.interval_specs.specs.Rounding.{floor_over, ceil_over}
use Rattle.interval_specs.proofs.Order.{parts, by_parts, to_parts, trans_ℤ, antisym_ℤ, to_parts_lt, by_parts_lt}

-- the floor is at most the quotient
pub floor_below : (z : ℤ) (n : ℕ) → 0 < n → (floor_over z n *ℤ pos n) ≤ℤ z
unfolding floor_over
floor_below (pos a) n some = let s = div-add-mod' a n in by_parts (pos (a / n) *ℤ pos n) (pos a) (simp parts (omega arith))
floor_below (negsuc a) n some =
    let s = div-add-mod' a n in
    let r : a % n < n = mod-lt a some in
    by_parts (negsuc (a / n) *ℤ pos n) (negsuc a) (simp parts (omega arith))

-- no greater number is at most the quotient
pub floor_greatest : (z k : ℤ) (n : ℕ) → 0 < n → (k *ℤ pos n) ≤ℤ z → k ≤ℤ floor_over z n
unfolding floor_over
floor_greatest (pos a) (pos c) n some h =
    let p = simp parts at (to_parts (pos c *ℤ pos n) (pos a) h) in
    let q : c ≤ a / n = le-div c a n some (omega arith) in
    omega (arith, ints)
floor_greatest (pos a) (negsuc c) n some h = omega (arith, ints)
floor_greatest (negsuc a) (pos c) n some h =
    let p = simp parts at (to_parts (pos c *ℤ pos n) (negsuc a) h) in
    absurd (omega arith)
floor_greatest (negsuc a) (negsuc c) n some h =
    let p = simp parts at (to_parts (negsuc c *ℤ pos n) (negsuc a) h) in
    let q : a / n < suc c = div_below a n (suc c) some (omega arith) in
    omega (arith, ints)

-- the ceiling is at least the quotient
pub ceil_above : (z : ℤ) (n : ℕ) → 0 < n → z ≤ℤ (ceil_over z n *ℤ pos n)
unfolding ceil_over
ceil_above z n some =
    let f = floor_over (neg_ℤ z) n in
    let p = simp parts at (to_parts (f *ℤ pos n) (neg_ℤ z) (floor_below (neg_ℤ z) n some)) in
    by_parts z (neg_ℤ f *ℤ pos n) (simp parts (omega arith))

-- no lesser number is at least the quotient
pub ceil_least : (z k : ℤ) (n : ℕ) → 0 < n → z ≤ℤ (k *ℤ pos n) → ceil_over z n ≤ℤ k
unfolding ceil_over
ceil_least z k n some h =
    let p = simp parts at (to_parts z (k *ℤ pos n) h) in
    let l = floor_greatest (neg_ℤ z) (neg_ℤ k) n some (by_parts (neg_ℤ k *ℤ pos n) (neg_ℤ z) (simp parts (omega arith))) in
    let q = simp parts at (to_parts (neg_ℤ k) (floor_over (neg_ℤ z) n) l) in
    by_parts (neg_ℤ (floor_over (neg_ℤ z) n)) k (simp parts (omega arith))

-- the floor, by its two inequalities
pub floor_is : (z k : ℤ) (n : ℕ) → 0 < n → (k *ℤ pos n) ≤ℤ z → z <ℤ (k *ℤ pos n +ℤ pos n) → k ≡ floor_over z n
floor_is z k n some low high =
    let f = floor_over z n in
    let up_to = floor_greatest z k n some low in
    let p = simp parts at (to_parts (f *ℤ pos n) z (floor_below z n some)) in
    let q = to_parts_lt z (k *ℤ pos n +ℤ pos n) high in
    let s = simp parts at (sum_is_lem (k *ℤ pos n) (pos n)) in
    by_lt_z k f
    (λ l.
    let t = to_parts_lt k f l in
    let more = mul-le-mul_left n (add-one-le t) in
    absurd (omega arith))
    (λ l. antisym_ℤ k f up_to l)

-- the ceiling, by its two inequalities
pub ceil_is : (z k : ℤ) (n : ℕ) → 0 < n → z ≤ℤ (k *ℤ pos n) → (k *ℤ pos n) <ℤ (z +ℤ pos n) → k ≡ ceil_over z n
ceil_is z k n some high low =
    let f = ceil_over z n in
    let down_to = ceil_least z k n some high in
    let p = simp parts at (to_parts z (f *ℤ pos n) (ceil_above z n some)) in
    let q = simp parts at (to_parts_lt (k *ℤ pos n) (z +ℤ pos n) low) in
    let s = sum_is_lem z (pos n) in
    by_lt_z f k
    (λ l.
    let t = to_parts_lt f k l in
    let more = mul-le-mul_left n (add-one-le t) in
    absurd (omega arith))
    (λ l. antisym_ℤ k f l down_to)

-- the quotient of the code, whose remainder is not negative, is the floor
pub div_euclid_is : (z d : ℤ) → pos 0 <ℤ d → int_div_euclid z d ≡ floor_over z (unsigned_abs d)
unfolding floor_over
div_euclid_is (pos a) (pos d) h = refl
div_euclid_is (negsuc a) (pos d) h = refl
div_euclid_is z (negsuc d) h = absurd (omega (arith, ints))

-- the next number after the floor is above the quotient
pub floor_near : (z : ℤ) (n : ℕ) → 0 < n → z <ℤ (floor_over z n *ℤ pos n +ℤ pos n)
floor_near z n some =
    let f = floor_over z n in
    let s = simp parts at (sum_is_lem (f *ℤ pos n) (pos n)) in
    let t = sum_is_lem f (pos 1) in
    by_lt_z z (f *ℤ pos n +ℤ pos n) (λ l. l)
    (λ l.
    let p = to_parts (f *ℤ pos n +ℤ pos n) z l in
    let ones = ap (λ x. x * n) t in
    let more = floor_greatest z (f +ℤ pos 1) n some (by_parts ((f +ℤ pos 1) *ℤ pos n) z (simp parts (omega arith))) in
    absurd (omega (arith, ints)))

-- the ceiling where the floor is the quotient itself
pub ceil_here : (f z : ℤ) (n : ℕ) → 0 < n → f ≡ floor_over z n → z ≤ℤ (f *ℤ pos n) → f ≡ ceil_over z n
ceil_here f z n some e h =
    let low : (f *ℤ pos n) ≤ℤ z = subst (λ x. (x *ℤ pos n) ≤ℤ z) (sym e) (floor_below z n some) in
    ceil_is z f n some h (omega (arith, ints))

-- the ceiling where the floor is below the quotient
pub ceil_next : (f z : ℤ) (n : ℕ) → 0 < n → f ≡ floor_over z n → (f *ℤ pos n) <ℤ z → (f +ℤ pos 1) ≡ ceil_over z n
ceil_next f z n some e h =
    let near : z <ℤ (f *ℤ pos n +ℤ pos n) = subst (λ x. z <ℤ (x *ℤ pos n +ℤ pos n)) (sym e) (floor_near z n some) in
    let t = sum_is_lem f (pos 1) in
    let ones = ap (λ x. x * n) t in
    let s = simp parts at (sum_is_lem (f *ℤ pos n) (pos n)) in
    let u = sum_is_lem z (pos n) in
    let p = to_parts_lt z (f *ℤ pos n +ℤ pos n) near in
    let q = simp parts at (to_parts_lt (f *ℤ pos n) z h) in
    ceil_is z (f +ℤ pos 1) n some
    (by_parts z ((f +ℤ pos 1) *ℤ pos n) (simp parts (omega arith)))
    (by_parts_lt ((f +ℤ pos 1) *ℤ pos n) (z +ℤ pos n) (simp parts (omega arith)))

-- a greater dividend has no lesser floor, and no lesser ceiling
pub floor_mono : (z y : ℤ) (n : ℕ) → 0 < n → z ≤ℤ y → floor_over z n ≤ℤ floor_over y n
floor_mono z y n some h = floor_greatest y (floor_over z n) n some (trans_ℤ (floor_over z n *ℤ pos n) z y (floor_below z n some) h)

pub ceil_mono : (z y : ℤ) (n : ℕ) → 0 < n → z ≤ℤ y → ceil_over z n ≤ℤ ceil_over y n
ceil_mono z y n some h = ceil_least z (ceil_over y n) n some (trans_ℤ z y (ceil_over y n *ℤ pos n) h (ceil_above y n some))

-- a greater factor of a number that is not negative, and of one that is not positive
factor_up : (k : ℤ) (c d : ℕ) → pos 0 ≤ℤ k → c ≤ d → (k *ℤ pos c) ≤ℤ (k *ℤ pos d)
factor_up (pos k) c d p h = let m = mul-le-mul_left k h in by_parts (pos k *ℤ pos c) (pos k *ℤ pos d) (simp parts (omega arith))
factor_up (negsuc k) c d p h = absurd (omega (arith, ints))

factor_down : (k : ℤ) (c d : ℕ) → k ≤ℤ pos 0 → c ≤ d → (k *ℤ pos d) ≤ℤ (k *ℤ pos c)
factor_down (pos k) c d p h =
    let zero : k ≡ 0 = omega (arith, ints) in
    let m = ap (λ (t : ℕ). t * c) zero in
    let n = ap (λ (t : ℕ). t * d) zero in
    by_parts (pos k *ℤ pos d) (pos k *ℤ pos c) (simp parts (omega arith))
factor_down (negsuc k) c d p h = let m = mul-le-mul_left (suc k) h in by_parts (negsuc k *ℤ pos d) (negsuc k *ℤ pos c) (simp parts (omega arith))

-- the floor of a number that is not positive is not positive
floor_not_positive : (z : ℤ) (n : ℕ) → z ≤ℤ pos 0 → floor_over z n ≤ℤ pos 0
unfolding floor_over
floor_not_positive (pos a) n p = let l = div-le_self a n in omega (arith, ints)
floor_not_positive (negsuc a) n p = omega (arith, ints)

-- a greater divisor brings a quotient nearer to 0
pub floor_far : (z : ℤ) (c d : ℕ) → 0 < c → c ≤ d → pos 0 ≤ℤ z → floor_over z d ≤ℤ floor_over z c
floor_far z c d some h p =
    let more : 0 < d = omega arith in
    let k = floor_over z d in
    let s = floor_greatest z (pos 0) d more (by_parts (pos 0 *ℤ pos d) z (simp parts (let q = to_parts (pos 0) z p in omega arith))) in
    floor_greatest z k c some (trans_ℤ (k *ℤ pos c) (k *ℤ pos d) z (factor_up k c d s h) (floor_below z d more))

pub floor_near_0 : (z : ℤ) (c d : ℕ) → 0 < c → c ≤ d → z ≤ℤ pos 0 → floor_over z c ≤ℤ floor_over z d
floor_near_0 z c d some h p =
    let more : 0 < d = omega arith in
    let k = floor_over z c in
    floor_greatest z k d more (trans_ℤ (k *ℤ pos d) (k *ℤ pos c) z (factor_down k c d (floor_not_positive z c p) h) (floor_below z c some))

pub ceil_far : (z : ℤ) (c d : ℕ) → 0 < c → c ≤ d → z ≤ℤ pos 0 → ceil_over z c ≤ℤ ceil_over z d
unfolding ceil_over
ceil_far z c d some h p = let l = floor_far (neg_ℤ z) c d some h (omega (arith, ints)) in omega (arith, ints)

pub ceil_near_0 : (z : ℤ) (c d : ℕ) → 0 < c → c ≤ d → pos 0 ≤ℤ z → ceil_over z d ≤ℤ ceil_over z c
unfolding ceil_over
ceil_near_0 z c d some h p = let l = floor_near_0 (neg_ℤ z) c d some h (omega (arith, ints)) in omega (arith, ints)

-- quotients of natural numbers, as code computes them
pub floor_of_natural : (z n : ℕ) → pos (z / n) ≡ floor_over (pos z) n
unfolding floor_over
floor_of_natural z n = refl

pub ceil_of_natural : (z n c : ℕ) → 0 < n → c ≡ div_ceil z n → pos c ≡ ceil_over (pos z) n
ceil_of_natural z n c some e =
    let b = div_ceil_times z n some in
    let up : z ≤ c * n = subst (λ k. z ≤ k * n) (sym e) b.0 in
    let near : c * n < z + n = subst (λ k. k * n < z + n) (sym e) b.1 in
    ceil_is (pos z) (pos c) n some (omega (arith, ints)) (omega (arith, ints))
