-- The two parts of f: which one is taken, and how each compares with 6/29, the value at the
-- threshold.
use Rattle.std.proofs.Common.{ℕ, ◌≡◌, ◌+◌, ◌*◌, ◌≤◌, ◌<◌, true, false, arith, mul-le-mul, mul-le-mul_left, ⊎_elim}
use Rattle.std.proofs.lemmas.Bool.{cases_lt}
use Rattle.std.proofs.lemmas.Bool.Decides.{nat_tests}
use Rattle.interval_specs.specs.Roots.{cube, root_below, root_above}
use Rattle.interval_specs.proofs.Roots.{cube_power, below_greatest, above_fits}
use Rattle.cielab_bounds.specs.Cielab.{is_on_root, linear}

pub on_root : (n t : ℕ) → is_on_root n t ≡ true → 216 * n < 24389 * t
on_root n t h = grind (arith, nat_tests)

pub off_root : (n t : ℕ) → is_on_root n t ≡ false → 24389 * t ≤ 216 * n
off_root n t h = grind (arith, nat_tests)

-- a lower end on the linear part is at most 6/29
pub linear_below : (n t f : ℕ) → 24389 * t ≤ 216 * n → f * 3132 ≤ linear n t → 29 * f ≤ 6 * n
linear_below n t f h k = omega arith

-- above the threshold, a cube root rounded down is at least each number that is at most 6/29
pub root_beyond : (n t f : ℕ) → 216 * n < 24389 * t → 29 * f ≤ 6 * n → f ≤ root_below cube (t * (n * n))
root_beyond n t f h k =
    let c = mul-le-mul (mul-le-mul k k) k in
    let b = mul-le-mul_left (n * n) h in
    below_greatest cube cube_power (t * (n * n)) f (omega arith)

-- above the threshold, a cube root rounded up is at least 6/29
pub root_above_threshold : (n t : ℕ) → 216 * n < 24389 * t → 6 * n ≤ 29 * root_above cube (t * (n * n))
root_above_threshold n t h =
    let r = root_above cube (t * (n * n)) in
    let f = above_fits cube cube_power (t * (n * n)) in
    let b = mul-le-mul_left (n * n) h in
    ⊎_elim (λ l. let k : 29 * r + 1 ≤ 6 * n = omega arith in let c = mul-le-mul (mul-le-mul k k) k in absurd (omega arith)) (λ l. l) (cases_lt (29 * r) (6 * n))
