-- Quotients of natural numbers by their inequalities.
use Rattle.std.proofs.Common.{ℕ, ◌+◌, ◌*◌, ◌/◌, ◌-◌, ◌≡◌, ◌≤◌, ◌<◌, ◌%◌, ◌∙◌, min, ap, sym, arith}
use Rattle.std.specs.Int.{div_ceil}
use Rattle.std.proofs.Math.Nat.{div-eq_of_lt-le, mul-add-div_right, mul-add-mod_self_right}

-- the number after a guess is the quotient rounded down
pub next_is : (z d k : ℕ) → k * d ≤ z → d ≤ z - k * d → z - k * d < 2 * d → k + 1 ≡ z / d
next_is z d k h p q = sym (div-eq_of_lt-le {k = k + 1} d {m = z} (omega arith) (omega arith))

-- a weighted mean is the first number and a share of the rest
mean_split : (a c from to : ℕ) → a * (from + to) + c * from ≡ a * to + (a + c) * from
mean_split a c from to = omega arith

pub mean_rises : (a b from to : ℕ) → a ≤ b → 0 < from + to → a + ((b - a) * from) / (from + to) ≡ (a * to + b * from) / (from + to)
mean_rises a b from to le some =
    let whole : a + (b - a) ≡ b = omega (arith, le) in
    sym (mul-add-div_right some a ((b - a) * from)) ∙ ap (λ z. z / (from + to)) (mean_split a (b - a) from to ∙ ap (λ y. a * to + y * from) whole)

pub mean_rises_up : (a b from to : ℕ) → a ≤ b → 0 < from + to → a + div_ceil ((b - a) * from) (from + to) ≡ div_ceil (a * to + b * from) (from + to)
mean_rises_up a b from to le some =
    let d : ℕ = from + to in
    let share : ℕ = (b - a) * from in
    let whole : a + (b - a) ≡ b = omega (arith, le) in
    let sum : a * d + share ≡ a * to + b * from = mean_split a (b - a) from to ∙ ap (λ y. a * to + y * from) whole in
    let floors : (a * d + share) / d ≡ a + share / d = mul-add-div_right some a share in
    let rests : (a * d + share) % d ≡ share % d = mul-add-mod_self_right a d share in
    let moved : a + (share / d + min 1 (share % d)) ≡ (a * d + share) / d + min 1 ((a * d + share) % d) = rw (floors, rests) (omega arith) in
    moved ∙ ap (λ z. div_ceil z d) sum
