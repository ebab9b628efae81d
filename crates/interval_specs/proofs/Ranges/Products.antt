-- The ranges of multiples, products, squares and magnitudes.
use Rattle.std.proofs.Common.{ℕ, ℤ, pos, ◌*◌, ◌≤◌, ◌<◌, ◌*ℤ◌, ◌≤ℤ◌, unsigned_abs, arith, mul-le-mul, le_trans}
use Rattle.std.proofs.lemmas.Int.{ints}
use Rattle.std.specs.Int.{int_min, int_max}
use Rattle.interval_specs.specs.Ends.{Ends, IsOrdered, magnitude_of}
use Rattle.interval_specs.specs.Operations.{fraction_of, multiple_of, product_at, least_product, greatest_product, absolute_of, square_at, least_magnitude}
use Rattle.interval_specs.specs.Ranges.{MagnitudeUpTo, UpTo}
use Rattle.interval_specs.proofs.Order.{trans_ℤ, wider, le_pos, either_max, either_min, max_left, min_left, any_least, any_greatest}
use Rattle.interval_specs.proofs.Laws.{products_ordered, least_magnitude_small}
use Rattle.interval_specs.proofs.Ranges.Words.{magnitude_by, magnitude_of_up_to, up_to_of_magnitude, rounded_magnitude, floor_not_negative, product_small, product_not_negative_ℤ}

-- ---- multiples

pub multiple_magnitude : (k : ℕ) (z : ℤ) (a : Ends) → MagnitudeUpTo k a → MagnitudeUpTo (k * unsigned_abs z) (multiple_of z a)
unfolding multiple_of
multiple_magnitude k z a s =
    let x = z *ℤ a.lo in
    let y = z *ℤ a.hi in
    let p : unsigned_abs x ≤ k * unsigned_abs z = omega (arith, product_small z a.lo (unsigned_abs z) k (omega arith) (omega arith)) in
    let q : unsigned_abs y ≤ k * unsigned_abs z = omega (arith, product_small z a.hi (unsigned_abs z) k (omega arith) (omega arith)) in
    record {
      ordered = trans_ℤ (int_min x y) x (int_max x y) (min_left x y) (max_left x y);
      small = magnitude_by (int_min x y) (int_max x y) (k * unsigned_abs z) (either_min (λ t. unsigned_abs t ≤ k * unsigned_abs z) x y p q) (either_max (λ t. unsigned_abs t ≤ k * unsigned_abs z) x y p q);
    }

pub multiple_not_negative : (k : ℕ) (a : Ends) → pos 0 ≤ℤ a.lo → IsOrdered a → pos 0 ≤ℤ (multiple_of (pos k) a).lo
unfolding multiple_of
multiple_not_negative k a p o =
    either_min (λ t. pos 0 ≤ℤ t) (pos k *ℤ a.lo) (pos k *ℤ a.hi) (product_not_negative_ℤ (pos k) a.lo (le_pos k) p) (product_not_negative_ℤ (pos k) a.hi (le_pos k) (trans_ℤ (pos 0) a.lo a.hi p o))

pub multiple_up_to : (j k : ℕ) (a : Ends) → UpTo j a → UpTo (j * k) (multiple_of (pos k) a)
multiple_up_to j k a u = up_to_of_magnitude (j * k) (multiple_of (pos k) a) (multiple_not_negative k a u.not_negative u.ordered) (multiple_magnitude j (pos k) a (magnitude_of_up_to j a u))

pub fraction_magnitude : (k r num den : ℕ) (a : Ends) → 0 < den → k * num ≤ r * den → MagnitudeUpTo k a → MagnitudeUpTo r (fraction_of num den a)
unfolding fraction_of
fraction_magnitude k r num den a some h s =
    rounded_magnitude (a.lo *ℤ pos num) (a.hi *ℤ pos num) den r some (wider (pos num) a.lo a.hi (le_pos num) s.ordered)
    (omega (arith, product_small a.lo (pos num) k num (omega arith) (omega arith)))
    (omega (arith, product_small a.hi (pos num) k num (omega arith) (omega arith)))

pub fraction_not_negative : (num den : ℕ) (a : Ends) → 0 < den → pos 0 ≤ℤ a.lo → pos 0 ≤ℤ (fraction_of num den a).lo
unfolding fraction_of
fraction_not_negative num den a some p = floor_not_negative (a.lo *ℤ pos num) den some (product_not_negative_ℤ a.lo (pos num) p (le_pos num))

pub fraction_up_to : (k r num den : ℕ) (a : Ends) → 0 < den → k * num ≤ r * den → UpTo k a → UpTo r (fraction_of num den a)
fraction_up_to k r num den a some h u = up_to_of_magnitude r (fraction_of num den a) (fraction_not_negative num den a some u.not_negative) (fraction_magnitude k r num den a some h (magnitude_of_up_to k a u))

-- ---- a product and a square

pub product_magnitude : (n r j k : ℕ) (a b : Ends) → 0 < n → j * k ≤ r * n → MagnitudeUpTo j a → MagnitudeUpTo k b → MagnitudeUpTo r (product_at n a b)
unfolding product_at
product_magnitude n r j k a b some h s t =
    let corner = λ (x y : ℤ) (p : unsigned_abs x ≤ j) (q : unsigned_abs y ≤ k). le_trans (product_small x y j k p q) h in
    let al : unsigned_abs a.lo ≤ j = omega arith in
    let ah : unsigned_abs a.hi ≤ j = omega arith in
    let bl : unsigned_abs b.lo ≤ k = omega arith in
    let bh : unsigned_abs b.hi ≤ k = omega arith in
    rounded_magnitude (least_product a b) (greatest_product a b) n r some (products_ordered a b)
    (any_least (λ z. unsigned_abs z ≤ r * n) (a.lo *ℤ b.lo) (a.lo *ℤ b.hi) (a.hi *ℤ b.lo) (a.hi *ℤ b.hi) (corner a.lo b.lo al bl) (corner a.lo b.hi al bh) (corner a.hi b.lo ah bl) (corner a.hi b.hi ah bh))
    (any_greatest (λ z. unsigned_abs z ≤ r * n) (a.lo *ℤ b.lo) (a.lo *ℤ b.hi) (a.hi *ℤ b.lo) (a.hi *ℤ b.hi) (corner a.lo b.lo al bl) (corner a.lo b.hi al bh) (corner a.hi b.lo ah bl) (corner a.hi b.hi ah bh))

pub product_not_negative : (n : ℕ) (a b : Ends) → 0 < n → pos 0 ≤ℤ a.lo → IsOrdered a → pos 0 ≤ℤ b.lo → IsOrdered b → pos 0 ≤ℤ (product_at n a b).lo
unfolding product_at
product_not_negative n a b some p o q u =
    let ah = trans_ℤ (pos 0) a.lo a.hi p o in
    let bh = trans_ℤ (pos 0) b.lo b.hi q u in
    floor_not_negative (least_product a b) n some
    (any_least (λ z. pos 0 ≤ℤ z) (a.lo *ℤ b.lo) (a.lo *ℤ b.hi) (a.hi *ℤ b.lo) (a.hi *ℤ b.hi)
    (product_not_negative_ℤ a.lo b.lo p q) (product_not_negative_ℤ a.lo b.hi p bh) (product_not_negative_ℤ a.hi b.lo ah q) (product_not_negative_ℤ a.hi b.hi ah bh))

pub product_up_to : (n r j k : ℕ) (a b : Ends) → 0 < n → j * k ≤ r * n → UpTo j a → UpTo k b → UpTo r (product_at n a b)
product_up_to n r j k a b some h s t =
    up_to_of_magnitude r (product_at n a b) (product_not_negative n a b some s.not_negative s.ordered t.not_negative t.ordered) (product_magnitude n r j k a b some h (magnitude_of_up_to j a s) (magnitude_of_up_to k b t))

pub square_magnitude : (n r k : ℕ) (a : Ends) → 0 < n → k * k ≤ r * n → magnitude_of a ≤ k → MagnitudeUpTo r (square_at n a)
unfolding square_at
square_magnitude n r k a some h t =
    let l = least_magnitude a in
    let g = magnitude_of a in
    let o : l ≤ g = least_magnitude_small a in
    let low : l * l ≤ g * g = mul-le-mul o o in
    let high : g * g ≤ k * k = mul-le-mul t t in
    rounded_magnitude (pos (l * l)) (pos (g * g)) n r some (omega (arith, ints)) (omega arith) (omega arith)

pub square_not_negative : (n : ℕ) (a : Ends) → 0 < n → pos 0 ≤ℤ (square_at n a).lo
unfolding square_at
square_not_negative n a some = floor_not_negative (pos (least_magnitude a * least_magnitude a)) n some (le_pos (least_magnitude a * least_magnitude a))

pub square_up_to : (n r k : ℕ) (a : Ends) → 0 < n → k * k ≤ r * n → magnitude_of a ≤ k → UpTo r (square_at n a)
square_up_to n r k a some h s = up_to_of_magnitude r (square_at n a) (square_not_negative n a some) (square_magnitude n r k a some h s)

pub absolute_up_to : (k : ℕ) (a : Ends) → magnitude_of a ≤ k → UpTo k (absolute_of a)
unfolding absolute_of
absolute_up_to k a s = record { not_negative = le_pos (least_magnitude a); ordered = let o = least_magnitude_small a in omega (arith, ints); below = omega (arith, ints) }
