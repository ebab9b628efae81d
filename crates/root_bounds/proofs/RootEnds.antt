-- The ends of a root, from what the integer roots ensure, and the numbers under the root.
use Rattle.std.proofs.Common.{ℕ, ℤ, pos, ◌≡◌, ◌*◌, ◌^◌, ◌≤◌, ◌<◌, ◌∙◌, ap, subst, sym, unsigned_abs, Fits, arith, mul-le-mul}
use Rattle.std.proofs.lemmas.Int.{to_z_pos}
use Rattle.std.specs.Int.{w128}
use mir.Val.{to_z}
use lib.Signed.{mag}
use Rattle.interval_specs.specs.Roots.{root_below, root_above}
use Rattle.interval_specs.proofs.Roots.{IsPower, below_is, above_is}
use Rattle.fix_bounds.proofs.Passed.{passed, read}

-- the lower end, r, is the root of y, which is n
pub low_end : (power : ℕ → ℕ) → IsPower power → (r y n : ℕ) → r < 2 ^ 127 → y ≡ n → power r ≤ y → ((s : ℕ) → power s ≤ y → s ≤ r) → to_z w128 r ≡ pos (root_below power n)
low_end power p r y n small e fits greatest = to_z_pos w128 r small ∙ ap pos (below_is power p y r fits greatest ∙ ap (root_below power) e)

-- the upper end
pub high_end : (power : ℕ → ℕ) → IsPower power → (r y n : ℕ) → r < 2 ^ 127 → y ≡ n → y ≤ power r → ((s : ℕ) → y ≤ power s → r ≤ s) → to_z w128 r ≡ pos (root_above power n)
high_end power p r y n small e fits least = to_z_pos w128 r small ∙ ap pos (above_is power p y r fits least ∙ ap (root_above power) e)

-- the number under a root: an end that was read, times a factor
pub radicand_is : (y factor : ℕ) (r z : ℤ) → mag r < 2 ^ 127 → r ≡ z → y ≡ unsigned_abs (passed r) * factor → y ≡ unsigned_abs z * factor
radicand_is y factor r z fits e h = h ∙ ap (λ x. unsigned_abs x * factor) (read r z fits e)

-- at most ten units, times the square of the unit, fit in 128 bits
pub cubic_room : (t u n : ℕ) → t ≤ 10 * n → u ≡ n → n ≤ 10 ^ 12 → Fits w128 (t * (u * u))
cubic_room t u n small is few =
    let c : u ≤ 10 ^ 12 = subst (λ x. x ≤ 10 ^ 12) (sym is) few in
    let d : t ≤ 10 ^ 13 = omega arith in
    let m = mul-le-mul d (mul-le-mul c c) in
    omega arith
