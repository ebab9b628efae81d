-- The ends of f, from the results of the integer roots and divisions.
use Rattle.std.proofs.Common.{ℕ, pos, ◌≡◌, ◌*◌, ◌/◌, ◌≤◌, ◌∙◌, ◌≤ℤ◌, true, false, ap, arith, lit<}
use Rattle.std.proofs.lemmas.Int.{ints}
use Rattle.std.specs.Int.{div_ceil}
use Rattle.interval_specs.specs.Rounding.{ceil_over}
use Rattle.interval_specs.specs.Roots.{cube, root_below, root_above}
use Rattle.interval_specs.proofs.Roots.{cube_power, below_is, above_is}
use Rattle.interval_specs.proofs.Rounds.{ceil_of_natural, floor_of_natural}
use Rattle.interval_specs.proofs.Order.{trans_ℤ}
use Rattle.cielab_bounds.specs.Cielab.{is_on_root, linear, f_down, f_up}
use Rattle.cielab_bounds.proofs.FLaw.{f_ordered}
use Rattle.cielab_bounds.proofs.LabRanges.{up_small}

-- where f takes the root
pub down_root : (n t r y : ℕ) → is_on_root n t ≡ true → y ≡ t * (n * n) → r * r * r ≤ y → ((s : ℕ) → s * s * s ≤ y → s ≤ r) → pos r ≡ f_down n t
unfolding f_down
down_root n t r y on e fits greatest = rw on (ap pos (below_is cube cube_power y r fits greatest ∙ ap (root_below cube) e))

pub up_root : (n t r y : ℕ) → is_on_root n t ≡ true → y ≡ t * (n * n) → y ≤ r * r * r → ((s : ℕ) → y ≤ s * s * s → r ≤ s) → pos r ≡ f_up n t
unfolding f_up
up_root n t r y on e fits least = rw on (ap pos (above_is cube cube_power y r fits least ∙ ap (root_above cube) e))

-- where f takes the linear part
pub down_linear : (n t z : ℕ) → is_on_root n t ≡ false → z ≡ linear n t → pos (z / 3132) ≡ f_down n t
unfolding f_down
down_linear n t z off e = rw off (ap (λ y. pos (y / 3132)) e ∙ floor_of_natural (linear n t) 3132)

-- both ends are at most 2
pub down_fits : (n t r : ℕ) → t ≤ 3 * n → pos r ≡ f_down n t → r ≤ 2 * n
down_fits n t r h e =
    let o = trans_ℤ (f_down n t) (f_up n t) (pos (2 * n)) (f_ordered n t t (omega arith)) (up_small n t h) in
    let k : pos r ≤ℤ pos (2 * n) = rw e o in
    omega (arith, ints)

pub up_fits : (n t r : ℕ) → t ≤ 3 * n → pos r ≡ f_up n t → r ≤ 2 * n
up_fits n t r h e = let k : pos r ≤ℤ pos (2 * n) = rw e (up_small n t h) in omega (arith, ints)

pub up_linear : (n t z c : ℕ) → is_on_root n t ≡ false → z ≡ linear n t → c ≡ div_ceil z 3132 → pos c ≡ f_up n t
unfolding f_up
up_linear n t z c off e h = rw off (ceil_of_natural z 3132 c (lit< tt) h ∙ ap (λ y. ceil_over (pos y) 3132) e)
