-- The mean of two numbers, each weighted by the distance of the other.
use Rattle.std.proofs.Common.{◌≡◌, ◌+◌, ◌-◌, ◌≤◌, ◌<◌, ◌≤ℤ◌, ◌<ℤ◌, ◌+ℤ◌, ◌*ℤ◌, ℕ, ℤ, pos, sym, subst, arith}
use Rattle.std.proofs.lemmas.Int.{ints}
use Rattle.interval_specs.specs.Rounding.{floor_over, ceil_over}
use Rattle.interval_specs.proofs.Order.{mono_left, refl_ℤ}
use Rattle.interval_specs.proofs.Rounds.{floor_is, ceil_here}

-- at x units, from a at u units to b at v units, times their distance
abbrev pub weigh : ℤ → ℤ → ℕ → ℕ → ℕ → ℤ
weigh a b u v x = a *ℤ pos (v - x) +ℤ b *ℤ pos (x - u)

rising : (a b : ℤ) (w t s : ℕ) → a ≤ℤ b → (a *ℤ pos (t + s) +ℤ b *ℤ pos w) ≤ℤ (a *ℤ pos s +ℤ b *ℤ pos (w + t))
rising a b w t s h = let m = mono_left t a b h in omega (arith, ints, m)

falling : (a b : ℤ) (w t s : ℕ) → b ≤ℤ a → (a *ℤ pos s +ℤ b *ℤ pos (w + t)) ≤ℤ (a *ℤ pos (t + s) +ℤ b *ℤ pos w)
falling a b w t s h = let m = mono_left t b a h in omega (arith, ints, m)

-- it grows or falls as a to b does
pub weigh_rises : (a b : ℤ) (u v x y : ℕ) → u ≤ x → x ≤ y → y ≤ v → a ≤ℤ b → weigh a b u v x ≤ℤ weigh a b u v y
weigh_rises a b u v x y p q r h =
    let left : v - x ≡ (y - x) + (v - y) = omega arith in
    let right : y - u ≡ (x - u) + (y - x) = omega arith in
    rw (left, right) (rising a b (x - u) (y - x) (v - y) h)

pub weigh_falls : (a b : ℤ) (u v x y : ℕ) → u ≤ x → x ≤ y → y ≤ v → b ≤ℤ a → weigh a b u v y ≤ℤ weigh a b u v x
weigh_falls a b u v x y p q r h =
    let left : v - x ≡ (y - x) + (v - y) = omega arith in
    let right : y - u ≡ (x - u) + (y - x) = omega arith in
    rw (left, right) (falling a b (x - u) (y - x) (v - y) h)

-- where both numbers grow, it grows
pub weigh_mono : (a b c d : ℤ) (p q : ℕ) → a ≤ℤ c → b ≤ℤ d → (a *ℤ pos p +ℤ b *ℤ pos q) ≤ℤ (c *ℤ pos p +ℤ d *ℤ pos q)
weigh_mono a b c d p q h k = let m = mono_left p a c h in let n = mono_left q b d k in omega (arith, ints, m, n)

-- a multiple of the divisor has an exact quotient
pub floor_exact : (z y : ℤ) (n : ℕ) → 0 < n → y ≡ z *ℤ pos n → floor_over y n ≡ z
floor_exact z y n some is =
    let low : (z *ℤ pos n) ≤ℤ y = subst (λ t. (z *ℤ pos n) ≤ℤ t) (sym is) (refl_ℤ (z *ℤ pos n)) in
    let high : y <ℤ (z *ℤ pos n +ℤ pos n) = subst (λ t. t <ℤ (z *ℤ pos n +ℤ pos n)) (sym is) (omega (arith, ints, some)) in
    sym (floor_is y z n some low high)

pub ceil_exact : (z y : ℤ) (n : ℕ) → 0 < n → y ≡ z *ℤ pos n → ceil_over y n ≡ z
ceil_exact z y n some is =
    let high : y ≤ℤ (z *ℤ pos n) = subst (λ t. t ≤ℤ (z *ℤ pos n)) (sym is) (refl_ℤ (z *ℤ pos n)) in
    sym (ceil_here z y n some (sym (floor_exact z y n some is)) high)

-- at either end it is that number
pub weigh_first : (a b : ℤ) (u v : ℕ) → weigh a b u v u ≡ a *ℤ pos (v - u)
weigh_first a b u v = let none : u - u ≡ 0 = omega arith in rw none (left a b (v - u))
  where
    left : (a b : ℤ) (d : ℕ) → a *ℤ pos d +ℤ b *ℤ pos 0 ≡ a *ℤ pos d
    left a b d = omega (arith, ints)

pub weigh_last : (a b : ℤ) (u v : ℕ) → weigh a b u v v ≡ b *ℤ pos (v - u)
weigh_last a b u v = let none : v - v ≡ 0 = omega arith in rw none (right a b (v - u))
  where
    right : (a b : ℤ) (d : ℕ) → a *ℤ pos 0 +ℤ b *ℤ pos d ≡ b *ℤ pos d
    right a b d = omega (arith, ints)
