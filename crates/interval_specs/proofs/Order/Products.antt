-- The ring and the order of the whole numbers, for products that `omega` alone does not open.
use Rattle.std.proofs.Common.{ℕ, ℤ, pos, negsuc, suc, ◌≡◌, ◌+◌, ◌*◌, ◌≤◌, ◌<◌, ◌+ℤ◌, ◌-ℤ◌, ◌*ℤ◌, neg_ℤ, ◌≤ℤ◌, ◌<ℤ◌, unsigned_abs, refl, ap, subst, arith, mul-le-mul_left, mul-pos, sym}
use Rattle.std.proofs.Math.Nat.{le_of_mul-le-mul_left}
use borrow.Author.Differences.{up, down, le_out, lt_out, at_most_in, below_in, same_in, product_is, neg_is, sum_is_lem}
use Rattle.std.proofs.lemmas.Int.{ints}
use lib.IntN.{*ℤ_comm}

pub up-mul : (a b : ℤ) → up (a *ℤ b) ≡ up a * up b + down a * down b
up-mul a b = (product_is a b).0

pub down-mul : (a b : ℤ) → down (a *ℤ b) ≡ up a * down b + down a * up b
down-mul a b = (product_is a b).1

pub up-neg : (a : ℤ) → up (neg_ℤ a) ≡ down a
up-neg a = (neg_is a).0

pub down-neg : (a : ℤ) → down (neg_ℤ a) ≡ up a
down-neg a = (neg_is a).1

-- the parts of products and negations, by which a goal is simplified before `omega`
pub ruleset parts = (up-mul, down-mul, up-neg, down-neg)

-- an order from its parts, and the parts from an order
pub by_parts : (a b : ℤ) → up a + down b ≤ up b + down a → a ≤ℤ b
by_parts a b h = at_most_in a b h

pub to_parts : (a b : ℤ) → a ≤ℤ b → up a + down b ≤ up b + down a
to_parts a b h = le_out a b h

-- a factor that is not negative keeps the order
pub mono_left : (m : ℕ) (a b : ℤ) → a ≤ℤ b → (pos m *ℤ a) ≤ℤ (pos m *ℤ b)
mono_left m a b h =
    let p = mul-le-mul_left m (to_parts a b h) in
    by_parts (pos m *ℤ a) (pos m *ℤ b) (simp parts (omega arith))

-- a positive factor can be left out
pub cancel_left : (m : ℕ) (a b : ℤ) → 0 < m → (pos m *ℤ a) ≤ℤ (pos m *ℤ b) → a ≤ℤ b
cancel_left m a b some h =
    let p = simp parts at (to_parts (pos m *ℤ a) (pos m *ℤ b) h) in
    by_parts a b (le_of_mul-le-mul_left {k = m} (omega arith) some)

pub trans_ℤ : (a b c : ℤ) → a ≤ℤ b → b ≤ℤ c → a ≤ℤ c
trans_ℤ a b c h k = omega (arith, ints)

-- sums and differences keep the order
pub add_mono_ℤ : (x y u v : ℤ) → x ≤ℤ u → y ≤ℤ v → (x +ℤ y) ≤ℤ (u +ℤ v)
add_mono_ℤ x y u v h k = omega (arith, ints)

pub sub_mono_ℤ : (x y u v : ℤ) → x ≤ℤ u → y ≤ℤ v → (x -ℤ v) ≤ℤ (u -ℤ y)
sub_mono_ℤ x y u v h k = omega (arith, ints)

pub neg_mono_ℤ : (x y : ℤ) → x ≤ℤ y → neg_ℤ y ≤ℤ neg_ℤ x
neg_mono_ℤ x y h = omega (arith, ints)

pub refl_ℤ : (a : ℤ) → a ≤ℤ a
refl_ℤ a = omega (arith, ints)

pub antisym_ℤ : (a b : ℤ) → a ≤ℤ b → b ≤ℤ a → a ≡ b
antisym_ℤ a b h k = omega (arith, ints)

pub to_parts_lt : (a b : ℤ) → a <ℤ b → up a + down b < up b + down a
to_parts_lt a b h = lt_out a b h

pub by_parts_lt : (a b : ℤ) → up a + down b < up b + down a → a <ℤ b
by_parts_lt a b h = below_in a b h

-- a number above 0 is its own magnitude
pub magnitude_is : (n : ℤ) → pos 0 <ℤ n → n ≡ pos (unsigned_abs n)
magnitude_is (pos n) h = refl
magnitude_is (negsuc n) h = absurd (omega (arith, ints))

pub magnitude_positive : (n : ℤ) → pos 0 <ℤ n → 0 < unsigned_abs n
magnitude_positive (pos n) h = omega (arith, ints)
magnitude_positive (negsuc n) h = omega (arith, ints)

-- ---- sums under a product

pub mul-add_ℤ : (a b c : ℤ) → a *ℤ (b +ℤ c) ≡ a *ℤ b +ℤ a *ℤ c
mul-add_ℤ a b c =
    let s = sum_is_lem b c in
    let left = ap (λ t. up a * t) s in
    let back = ap (λ t. down a * t) s in
    let t = simp parts at (sum_is_lem (a *ℤ b) (a *ℤ c)) in
    same_in (a *ℤ (b +ℤ c)) (a *ℤ b +ℤ a *ℤ c) (simp parts (omega arith))

pub mul-neg_ℤ : (a b : ℤ) → a *ℤ neg_ℤ b ≡ neg_ℤ (a *ℤ b)
mul-neg_ℤ a b = same_in (a *ℤ neg_ℤ b) (neg_ℤ (a *ℤ b)) (simp parts (omega arith))

-- the first two factors change their order
pub mul_swap_ℤ : (a b c : ℤ) → a *ℤ (b *ℤ c) ≡ b *ℤ (a *ℤ c)
mul_swap_ℤ a b c = same_in (a *ℤ (b *ℤ c)) (b *ℤ (a *ℤ c)) (simp parts (omega arith))

-- ---- a number between two others, times a factor

-- a bound that is at most both end products is at most each product between
pub between_low : (b k l x h : ℤ) → l ≤ℤ x → x ≤ℤ h → b ≤ℤ (k *ℤ l) → b ≤ℤ (k *ℤ h) → b ≤ℤ (k *ℤ x)
between_low b (pos k) l x h p q u v = trans_ℤ b (pos k *ℤ l) (pos k *ℤ x) u (mono_left k l x p)
between_low b (negsuc k) l x h p q u v =
    let r = mul-le-mul_left (suc k) (to_parts x h q) in
    let w = simp parts at (to_parts b (negsuc k *ℤ h) v) in
    by_parts b (negsuc k *ℤ x) (simp parts (omega arith))

-- a bound that is at least both end products is at least each product between
pub between_high : (b k l x h : ℤ) → l ≤ℤ x → x ≤ℤ h → (k *ℤ l) ≤ℤ b → (k *ℤ h) ≤ℤ b → (k *ℤ x) ≤ℤ b
between_high b (pos k) l x h p q u v = trans_ℤ (pos k *ℤ x) (pos k *ℤ h) b (mono_left k x h q) v
between_high b (negsuc k) l x h p q u v =
    let r = mul-le-mul_left (suc k) (to_parts l x p) in
    let w = simp parts at (to_parts (negsuc k *ℤ l) b u) in
    by_parts (negsuc k *ℤ x) b (simp parts (omega arith))

-- the same for two numbers, by the four corners
pub corner_low : (b k x h l y t : ℤ) → k ≤ℤ x → x ≤ℤ h → l ≤ℤ y → y ≤ℤ t → b ≤ℤ (k *ℤ l) → b ≤ℤ (k *ℤ t) → b ≤ℤ (h *ℤ l) → b ≤ℤ (h *ℤ t) → b ≤ℤ (x *ℤ y)
corner_low b k x h l y t p q r s c d e f =
    let near : b ≤ℤ (y *ℤ k) = subst (λ z. b ≤ℤ z) (*ℤ_comm k y) (between_low b k l y t r s c d) in
    let far : b ≤ℤ (y *ℤ h) = subst (λ z. b ≤ℤ z) (*ℤ_comm h y) (between_low b h l y t r s e f) in
    subst (λ z. b ≤ℤ z) (*ℤ_comm y x) (between_low b y k x h p q near far)

pub corner_high : (b k x h l y t : ℤ) → k ≤ℤ x → x ≤ℤ h → l ≤ℤ y → y ≤ℤ t → (k *ℤ l) ≤ℤ b → (k *ℤ t) ≤ℤ b → (h *ℤ l) ≤ℤ b → (h *ℤ t) ≤ℤ b → (x *ℤ y) ≤ℤ b
corner_high b k x h l y t p q r s c d e f =
    let near : (y *ℤ k) ≤ℤ b = subst (λ z. z ≤ℤ b) (*ℤ_comm k y) (between_high b k l y t r s c d) in
    let far : (y *ℤ h) ≤ℤ b = subst (λ z. z ≤ℤ b) (*ℤ_comm h y) (between_high b h l y t r s e f) in
    subst (λ z. z ≤ℤ b) (*ℤ_comm y x) (between_high b y k x h p q near far)

-- a factor above 0 keeps the order
pub mono_by : (c a b : ℤ) → pos 0 <ℤ c → a ≤ℤ b → (c *ℤ a) ≤ℤ (c *ℤ b)
mono_by c a b some h = subst (λ z. (z *ℤ a) ≤ℤ (z *ℤ b)) (sym (magnitude_is c some)) (mono_left (unsigned_abs c) a b h)

-- a greater factor of a number that is not negative, and of one that is negative
pub wider : (x a b : ℤ) → pos 0 ≤ℤ x → a ≤ℤ b → (a *ℤ x) ≤ℤ (b *ℤ x)
wider (pos x) a b s h =
    let p = mul-le-mul_left x (to_parts a b h) in
    by_parts (a *ℤ pos x) (b *ℤ pos x) (simp parts (omega arith))
wider (negsuc x) a b s h = absurd (omega (arith, ints))

pub narrower : (x a b : ℤ) → x <ℤ pos 0 → a ≤ℤ b → (b *ℤ x) ≤ℤ (a *ℤ x)
narrower (negsuc x) a b s h =
    let p = mul-le-mul_left (suc x) (to_parts a b h) in
    by_parts (b *ℤ negsuc x) (a *ℤ negsuc x) (simp parts (omega arith))
narrower (pos x) a b s h = absurd (omega (arith, ints))

-- a number that is not negative keeps the order as a factor on the left
pub wide_left : (x a b : ℤ) → pos 0 ≤ℤ x → a ≤ℤ b → (x *ℤ a) ≤ℤ (x *ℤ b)
wide_left (pos x) a b s h = mono_left x a b h
wide_left (negsuc x) a b s h = absurd (omega (arith, ints))

-- for m above 0, what is at least m times a number above 0 is above 0, and what is at most m times
-- one below 0 is below 0
pub times_positive : (m : ℕ) (c y : ℤ) → 0 < m → pos 0 <ℤ c → (pos m *ℤ c) ≤ℤ y → pos 0 <ℤ y
times_positive m (pos c) y some p h =
    let s : 0 < c = omega (arith, ints) in
    let k = mul-pos some s in
    let q = simp parts at (to_parts (pos m *ℤ pos c) y h) in
    by_parts_lt (pos 0) y (omega arith)
times_positive m (negsuc c) y some p h = absurd (omega (arith, ints))

pub times_negative : (m : ℕ) (c y : ℤ) → 0 < m → c <ℤ pos 0 → y ≤ℤ (pos m *ℤ c) → y <ℤ pos 0
times_negative m (pos c) y some p h = absurd (omega (arith, ints))
times_negative m (negsuc c) y some p h =
    let k = mul-le-mul_left (suc c) some in
    let q = simp parts at (to_parts y (pos m *ℤ negsuc c) h) in
    by_parts_lt y (pos 0) (omega arith)

pub le_pos : (n : ℕ) → pos 0 ≤ℤ pos n
le_pos n = omega (arith, ints)

-- each part of a number is at most its magnitude
pub up_small : (z : ℤ) → up z ≤ unsigned_abs z
up_small (pos n) = omega arith
up_small (negsuc n) = omega arith

pub down_small : (z : ℤ) → down z ≤ unsigned_abs z
down_small (pos n) = omega arith
down_small (negsuc n) = omega arith
