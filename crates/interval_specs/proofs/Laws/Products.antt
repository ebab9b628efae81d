-- The law of a product.
use Rattle.std.proofs.Common.{ℕ, ℤ, pos, ◌≡◌, ◌*◌, ◌<◌, ◌*ℤ◌, ◌≤ℤ◌, subst, arith, mul-pos, sym}
use borrow.Author.Differences.{same_in}
use Rattle.interval_specs.specs.Ends.{Ends}
use Rattle.interval_specs.specs.Encloses.{Encloses}
use Rattle.interval_specs.specs.Operations.{product_at, least_product, greatest_product}
use Rattle.interval_specs.specs.Laws.{ProductEncloses}
use Rattle.interval_specs.proofs.Order.{parts, by_parts, to_parts, mono_left, trans_ℤ, corner_low, corner_high, least_first, least_second, least_third, least_fourth, greatest_first, greatest_second, greatest_third, greatest_fourth, any_least, any_greatest}
use Rattle.interval_specs.proofs.Rounds.{floor_encloses, ceil_encloses, floor_le_ceil}

-- the product of m times x and m times y is m * m times the product of x and y
corner_is : (m : ℕ) (x y : ℤ) → (pos m *ℤ x) *ℤ (pos m *ℤ y) ≡ pos (m * m) *ℤ (x *ℤ y)
corner_is m x y = same_in ((pos m *ℤ x) *ℤ (pos m *ℤ y)) (pos (m * m) *ℤ (x *ℤ y)) (simp parts (omega arith))

-- a bound on a coarse corner, in fine units
finer_low : (m : ℕ) (p x y : ℤ) → p ≤ℤ (x *ℤ y) → (pos (m * m) *ℤ p) ≤ℤ ((pos m *ℤ x) *ℤ (pos m *ℤ y))
finer_low m p x y h = subst (λ z. (pos (m * m) *ℤ p) ≤ℤ z) (sym (corner_is m x y)) (mono_left (m * m) p (x *ℤ y) h)

finer_high : (m : ℕ) (p x y : ℤ) → (x *ℤ y) ≤ℤ p → ((pos m *ℤ x) *ℤ (pos m *ℤ y)) ≤ℤ (pos (m * m) *ℤ p)
finer_high m p x y h = subst (λ z. z ≤ℤ (pos (m * m) *ℤ p)) (sym (corner_is m x y)) (mono_left (m * m) (x *ℤ y) p h)

-- the least coarse product, in fine units, is at most each product of a number within a and one
-- within b
product_low : (m : ℕ) (a b : Ends) (x y : ℤ) → (pos m *ℤ a.lo) ≤ℤ x → x ≤ℤ (pos m *ℤ a.hi) → (pos m *ℤ b.lo) ≤ℤ y → y ≤ℤ (pos m *ℤ b.hi) → (pos (m * m) *ℤ least_product a b) ≤ℤ (x *ℤ y)
product_low m a b x y p q r s =
    let l = least_product a b in
    corner_low (pos (m * m) *ℤ l) (pos m *ℤ a.lo) x (pos m *ℤ a.hi) (pos m *ℤ b.lo) y (pos m *ℤ b.hi) p q r s
    (finer_low m l a.lo b.lo (least_first (a.lo *ℤ b.lo) (a.lo *ℤ b.hi) (a.hi *ℤ b.lo) (a.hi *ℤ b.hi)))
    (finer_low m l a.lo b.hi (least_second (a.lo *ℤ b.lo) (a.lo *ℤ b.hi) (a.hi *ℤ b.lo) (a.hi *ℤ b.hi)))
    (finer_low m l a.hi b.lo (least_third (a.lo *ℤ b.lo) (a.lo *ℤ b.hi) (a.hi *ℤ b.lo) (a.hi *ℤ b.hi)))
    (finer_low m l a.hi b.hi (least_fourth (a.lo *ℤ b.lo) (a.lo *ℤ b.hi) (a.hi *ℤ b.lo) (a.hi *ℤ b.hi)))

product_high : (m : ℕ) (a b : Ends) (x y : ℤ) → (pos m *ℤ a.lo) ≤ℤ x → x ≤ℤ (pos m *ℤ a.hi) → (pos m *ℤ b.lo) ≤ℤ y → y ≤ℤ (pos m *ℤ b.hi) → (x *ℤ y) ≤ℤ (pos (m * m) *ℤ greatest_product a b)
product_high m a b x y p q r s =
    let l = greatest_product a b in
    corner_high (pos (m * m) *ℤ l) (pos m *ℤ a.lo) x (pos m *ℤ a.hi) (pos m *ℤ b.lo) y (pos m *ℤ b.hi) p q r s
    (finer_high m l a.lo b.lo (greatest_first (a.lo *ℤ b.lo) (a.lo *ℤ b.hi) (a.hi *ℤ b.lo) (a.hi *ℤ b.hi)))
    (finer_high m l a.lo b.hi (greatest_second (a.lo *ℤ b.lo) (a.lo *ℤ b.hi) (a.hi *ℤ b.lo) (a.hi *ℤ b.hi)))
    (finer_high m l a.hi b.lo (greatest_third (a.lo *ℤ b.lo) (a.lo *ℤ b.hi) (a.hi *ℤ b.lo) (a.hi *ℤ b.hi)))
    (finer_high m l a.hi b.hi (greatest_fourth (a.lo *ℤ b.lo) (a.lo *ℤ b.hi) (a.hi *ℤ b.lo) (a.hi *ℤ b.hi)))

-- the same for the least and the greatest fine product
least_low : (m : ℕ) (a b a' b' : Ends) → Encloses m a a' → Encloses m b b' → (pos (m * m) *ℤ least_product a b) ≤ℤ least_product a' b'
least_low m a b a' b' p q =
    let pu = trans_ℤ (pos m *ℤ a.lo) a'.lo a'.hi p.low p.ordered in
    let po = trans_ℤ a'.lo a'.hi (pos m *ℤ a.hi) p.ordered p.high in
    let qu = trans_ℤ (pos m *ℤ b.lo) b'.lo b'.hi q.low q.ordered in
    let qo = trans_ℤ b'.lo b'.hi (pos m *ℤ b.hi) q.ordered q.high in
    any_least (λ z. (pos (m * m) *ℤ least_product a b) ≤ℤ z) (a'.lo *ℤ b'.lo) (a'.lo *ℤ b'.hi) (a'.hi *ℤ b'.lo) (a'.hi *ℤ b'.hi)
    (product_low m a b a'.lo b'.lo p.low po q.low qo)
    (product_low m a b a'.lo b'.hi p.low po qu q.high)
    (product_low m a b a'.hi b'.lo pu p.high q.low qo)
    (product_low m a b a'.hi b'.hi pu p.high qu q.high)

greatest_high : (m : ℕ) (a b a' b' : Ends) → Encloses m a a' → Encloses m b b' → greatest_product a' b' ≤ℤ (pos (m * m) *ℤ greatest_product a b)
greatest_high m a b a' b' p q =
    let pu = trans_ℤ (pos m *ℤ a.lo) a'.lo a'.hi p.low p.ordered in
    let po = trans_ℤ a'.lo a'.hi (pos m *ℤ a.hi) p.ordered p.high in
    let qu = trans_ℤ (pos m *ℤ b.lo) b'.lo b'.hi q.low q.ordered in
    let qo = trans_ℤ b'.lo b'.hi (pos m *ℤ b.hi) q.ordered q.high in
    any_greatest (λ z. z ≤ℤ (pos (m * m) *ℤ greatest_product a b)) (a'.lo *ℤ b'.lo) (a'.lo *ℤ b'.hi) (a'.hi *ℤ b'.lo) (a'.hi *ℤ b'.hi)
    (product_high m a b a'.lo b'.lo p.low po q.low qo)
    (product_high m a b a'.lo b'.hi p.low po qu q.high)
    (product_high m a b a'.hi b'.lo pu p.high q.low qo)
    (product_high m a b a'.hi b'.hi pu p.high qu q.high)

-- the least product is at most the greatest
pub products_ordered : (a b : Ends) → least_product a b ≤ℤ greatest_product a b
products_ordered a b =
    trans_ℤ (least_product a b) (a.lo *ℤ b.lo) (greatest_product a b)
    (least_first (a.lo *ℤ b.lo) (a.lo *ℤ b.hi) (a.hi *ℤ b.lo) (a.hi *ℤ b.hi))
    (greatest_first (a.lo *ℤ b.lo) (a.lo *ℤ b.hi) (a.hi *ℤ b.lo) (a.hi *ℤ b.hi))

-- a bound by the square of m, with the factor n that the lemmas on rounding need
pub squared_low : (n m : ℕ) (z z' : ℤ) → (pos (m * m) *ℤ z) ≤ℤ z' → (pos (m * (m * n)) *ℤ z) ≤ℤ (pos n *ℤ z')
squared_low n m z z' h =
    let p = simp parts at (to_parts (pos n *ℤ (pos (m * m) *ℤ z)) (pos n *ℤ z') (mono_left n (pos (m * m) *ℤ z) z' h)) in
    by_parts (pos (m * (m * n)) *ℤ z) (pos n *ℤ z') (simp parts (omega arith))

pub squared_high : (n m : ℕ) (z z' : ℤ) → z' ≤ℤ (pos (m * m) *ℤ z) → (pos n *ℤ z') ≤ℤ (pos (m * (m * n)) *ℤ z)
squared_high n m z z' h =
    let p = simp parts at (to_parts (pos n *ℤ z') (pos n *ℤ (pos (m * m) *ℤ z)) (mono_left n z' (pos (m * m) *ℤ z) h)) in
    by_parts (pos n *ℤ z') (pos (m * (m * n)) *ℤ z) (simp parts (omega arith))

pub product_encloses : ProductEncloses
unfolding product_at
product_encloses n m a b a' b' some finer p q =
    let fine : 0 < m * n = mul-pos finer some in
    let l = least_product a b in
    let l' = least_product a' b' in
    let g = greatest_product a b in
    let g' = greatest_product a' b' in
    record {
      low = floor_encloses m n (m * n) l l' some fine (squared_low n m l l' (least_low m a b a' b' p q));
      high = ceil_encloses m n (m * n) g g' some fine (squared_high n m g g' (greatest_high m a b a' b' p q));
      ordered = floor_le_ceil l' g' (m * n) (products_ordered a' b');
    }
