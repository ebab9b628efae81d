-- The lesser and the greater of two whole numbers, and the least and the greatest of four.
use Rattle.std.proofs.Common.{ℤ, pos, ◌≡◌, true, false, cond, int_lt, ◌*ℤ◌, ◌≤ℤ◌, arith}
use Rattle.std.proofs.lemmas.Int.{ints, clamps}
use Rattle.std.specs.Int.{int_min, int_max}
use Rattle.interval_specs.specs.Operations.{least_of_four, greatest_of_four}
use Rattle.interval_specs.proofs.Order.Products.{trans_ℤ, refl_ℤ, antisym_ℤ, wider, wide_left}

-- ---- the lesser and the greater of two numbers

-- what holds of both holds of the greater, and of the lesser
pub either_max : (P : ℤ → Type 0) (x y : ℤ) → P x → P y → P (int_max x y)
either_max P x y p q = elim (int_lt y x) as (λ t. P (cond t x y)) [ true ↦ p | false ↦ q ]

pub either_min : (P : ℤ → Type 0) (x y : ℤ) → P x → P y → P (int_min x y)
either_min P x y p q = elim (int_lt y x) as (λ t. P (cond t y x)) [ true ↦ q | false ↦ p ]

pub max_left : (x y : ℤ) → x ≤ℤ int_max x y
max_left x y = omega (arith, ints, clamps)

pub max_right : (x y : ℤ) → y ≤ℤ int_max x y
max_right x y = omega (arith, ints, clamps)

pub min_left : (x y : ℤ) → int_min x y ≤ℤ x
min_left x y = omega (arith, ints, clamps)

pub min_right : (x y : ℤ) → int_min x y ≤ℤ y
min_right x y = omega (arith, ints, clamps)

-- the least and the greatest of four
pub least_first : (p q r s : ℤ) → least_of_four p q r s ≤ℤ p
least_first p q r s = trans_ℤ (least_of_four p q r s) (int_min p q) p (min_left (int_min p q) (int_min r s)) (min_left p q)

pub least_second : (p q r s : ℤ) → least_of_four p q r s ≤ℤ q
least_second p q r s = trans_ℤ (least_of_four p q r s) (int_min p q) q (min_left (int_min p q) (int_min r s)) (min_right p q)

pub least_third : (p q r s : ℤ) → least_of_four p q r s ≤ℤ r
least_third p q r s = trans_ℤ (least_of_four p q r s) (int_min r s) r (min_right (int_min p q) (int_min r s)) (min_left r s)

pub least_fourth : (p q r s : ℤ) → least_of_four p q r s ≤ℤ s
least_fourth p q r s = trans_ℤ (least_of_four p q r s) (int_min r s) s (min_right (int_min p q) (int_min r s)) (min_right r s)

pub greatest_first : (p q r s : ℤ) → p ≤ℤ greatest_of_four p q r s
greatest_first p q r s = trans_ℤ p (int_max p q) (greatest_of_four p q r s) (max_left p q) (max_left (int_max p q) (int_max r s))

pub greatest_second : (p q r s : ℤ) → q ≤ℤ greatest_of_four p q r s
greatest_second p q r s = trans_ℤ q (int_max p q) (greatest_of_four p q r s) (max_right p q) (max_left (int_max p q) (int_max r s))

pub greatest_third : (p q r s : ℤ) → r ≤ℤ greatest_of_four p q r s
greatest_third p q r s = trans_ℤ r (int_max r s) (greatest_of_four p q r s) (max_left r s) (max_right (int_max p q) (int_max r s))

pub greatest_fourth : (p q r s : ℤ) → s ≤ℤ greatest_of_four p q r s
greatest_fourth p q r s = trans_ℤ s (int_max r s) (greatest_of_four p q r s) (max_right r s) (max_right (int_max p q) (int_max r s))

-- what holds of all four holds of the least and of the greatest
pub any_least : (P : ℤ → Type 0) (p q r s : ℤ) → P p → P q → P r → P s → P (least_of_four p q r s)
any_least P p q r s a b c d = either_min P (int_min p q) (int_min r s) (either_min P p q a b) (either_min P r s c d)

pub any_greatest : (P : ℤ → Type 0) (p q r s : ℤ) → P p → P q → P r → P s → P (greatest_of_four p q r s)
any_greatest P p q r s a b c d = either_max P (int_max p q) (int_max r s) (either_max P p q a b) (either_max P r s c d)

-- the least and the greatest of two pairs, where no number of one pair is above its partner in the
-- other
pub least_of_lower : (p q r s : ℤ) → p ≤ℤ r → q ≤ℤ s → least_of_four p q r s ≡ int_min p q
least_of_lower p q r s h k =
    antisym_ℤ (least_of_four p q r s) (int_min p q)
    (min_left (int_min p q) (int_min r s))
    (any_least (λ z. int_min p q ≤ℤ z) p q r s (min_left p q) (min_right p q) (trans_ℤ (int_min p q) p r (min_left p q) h) (trans_ℤ (int_min p q) q s (min_right p q) k))

pub greatest_of_upper : (p q r s : ℤ) → p ≤ℤ r → q ≤ℤ s → greatest_of_four p q r s ≡ int_max r s
greatest_of_upper p q r s h k =
    antisym_ℤ (greatest_of_four p q r s) (int_max r s)
    (any_greatest (λ z. z ≤ℤ int_max r s) p q r s (trans_ℤ p r (int_max r s) h (max_left r s)) (trans_ℤ q s (int_max r s) k (max_right r s)) (max_left r s) (max_right r s))
    (max_right (int_max p q) (int_max r s))

-- the lesser and the greater of two numbers that are in order
pub min_first : (x y : ℤ) → x ≤ℤ y → int_min x y ≡ x
min_first x y h = antisym_ℤ (int_min x y) x (min_left x y) (either_min (λ z. x ≤ℤ z) x y (refl_ℤ x) h)

pub min_second : (x y : ℤ) → y ≤ℤ x → int_min x y ≡ y
min_second x y h = antisym_ℤ (int_min x y) y (min_right x y) (either_min (λ z. y ≤ℤ z) x y h (refl_ℤ y))

pub max_first : (x y : ℤ) → y ≤ℤ x → int_max x y ≡ x
max_first x y h = antisym_ℤ (int_max x y) x (either_max (λ z. z ≤ℤ x) x y (refl_ℤ x) h) (max_left x y)

pub max_second : (x y : ℤ) → x ≤ℤ y → int_max x y ≡ y
max_second x y h = antisym_ℤ (int_max x y) y (either_max (λ z. z ≤ℤ y) x y h (refl_ℤ y)) (max_right x y)

-- the least and the greatest product of numbers that are not negative
pub least_corner : (a b c d : ℤ) → pos 0 ≤ℤ a → a ≤ℤ b → pos 0 ≤ℤ c → c ≤ℤ d → least_of_four (a *ℤ c) (a *ℤ d) (b *ℤ c) (b *ℤ d) ≡ a *ℤ c
least_corner a b c d p h q k =
    let below = wider c a b q h in
    let side = wide_left a c d p k in
    antisym_ℤ (least_of_four (a *ℤ c) (a *ℤ d) (b *ℤ c) (b *ℤ d)) (a *ℤ c)
    (least_first (a *ℤ c) (a *ℤ d) (b *ℤ c) (b *ℤ d))
    (any_least (λ z. (a *ℤ c) ≤ℤ z) (a *ℤ c) (a *ℤ d) (b *ℤ c) (b *ℤ d) (refl_ℤ (a *ℤ c)) side below (trans_ℤ (a *ℤ c) (b *ℤ c) (b *ℤ d) below (wide_left b c d (trans_ℤ (pos 0) a b p h) k)))

pub greatest_corner : (a b c d : ℤ) → pos 0 ≤ℤ a → a ≤ℤ b → pos 0 ≤ℤ c → c ≤ℤ d → greatest_of_four (a *ℤ c) (a *ℤ d) (b *ℤ c) (b *ℤ d) ≡ b *ℤ d
greatest_corner a b c d p h q k =
    let above = wider d a b (trans_ℤ (pos 0) c d q k) h in
    let side = wide_left b c d (trans_ℤ (pos 0) a b p h) k in
    antisym_ℤ (greatest_of_four (a *ℤ c) (a *ℤ d) (b *ℤ c) (b *ℤ d)) (b *ℤ d)
    (any_greatest (λ z. z ≤ℤ (b *ℤ d)) (a *ℤ c) (a *ℤ d) (b *ℤ c) (b *ℤ d) (trans_ℤ (a *ℤ c) (b *ℤ c) (b *ℤ d) (wider c a b q h) side) above side (refl_ℤ (b *ℤ d)))
    (greatest_fourth (a *ℤ c) (a *ℤ d) (b *ℤ c) (b *ℤ d))
