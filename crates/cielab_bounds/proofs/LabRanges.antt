-- How large f and the coordinates are, for ratios up to 3.
use Rattle.std.proofs.Common.{ℕ, ℤ, pos, ◌≡◌, ◌+◌, ◌*◌, ◌^◌, ◌≤◌, ◌*ℤ◌, ◌≤ℤ◌, Bool, true, false, cond, refl, arith, lit<, lit≤, mul-le-mul_left, mul-le-mul_right, unsigned_abs}
use Rattle.std.proofs.lemmas.Int.{ints}
use Rattle.interval_specs.specs.Ends.{Ends, IsHeld, one_at}
use Rattle.interval_specs.specs.Ranges.{MagnitudeUpTo, UpTo}
use Rattle.interval_specs.specs.Operations.{difference_of, multiple_of}
use Rattle.interval_specs.specs.Roots.{cube, root_below}
use Rattle.interval_specs.proofs.Rounds.{ceil_least}
use Rattle.interval_specs.proofs.Ranges.{held, difference_within, difference_magnitude, multiple_magnitude, one_up_to, magnitude_of_up_to, magnitude_wider, floor_not_negative}
use Rattle.interval_specs.proofs.Roots.{cube_power, above_least, magnitudes_rise}
use Rattle.interval_specs.proofs.Order.{parts, by_parts, le_pos}
use Rattle.cielab_bounds.specs.Cielab.{is_on_root, linear, f_down, f_up, f_at, lab_at, lightness_at, red_green_at, yellow_blue_at}
use Rattle.cielab_bounds.specs.Formula.{IsColour}
use Rattle.fix_bounds.specs.Ratios.{RatioEnds}
use Rattle.cielab_bounds.proofs.Parts.{off_root}
use Rattle.cielab_bounds.proofs.FLaw.{f_ordered}

pick : (P : ℤ → Type 0) (r s : ℤ) (b : Bool) → (b ≡ true → P r) → (b ≡ false → P s) → P (cond b r s)
pick P r s true p q = p refl
pick P r s false p q = q refl

down_not_negative : (n t : ℕ) → pos 0 ≤ℤ f_down n t
unfolding f_down
down_not_negative n t =
    pick (λ f. pos 0 ≤ℤ f) _ _ (is_on_root n t)
    (λ e. le_pos (root_below cube (t * (n * n))))
    (λ e. floor_not_negative (pos (linear n t)) 3132 (lit< tt) (le_pos (linear n t)))

pub up_small : (n t : ℕ) → t ≤ 3 * n → f_up n t ≤ℤ pos (2 * n)
unfolding f_up
up_small n t h =
    pick (λ f. f ≤ℤ pos (2 * n)) _ _ (is_on_root n t)
    (λ e. let c = mul-le-mul_right (n * n) h in let r = above_least cube cube_power (t * (n * n)) (2 * n) (omega arith) in omega (arith, ints))
    (λ e. let o = off_root n t e in ceil_least (pos (linear n t)) (pos (2 * n)) 3132 (lit< tt) (by_parts (pos (linear n t)) (pos (2 * n) *ℤ pos 3132) (simp parts (omega arith))))

-- f is at most 2
pub f_up_to : (n : ℕ) (t : Ends) → pos 0 ≤ℤ t.lo → t.lo ≤ℤ t.hi → t.hi ≤ℤ pos (3 * n) → UpTo (2 * n) (f_at n t)
unfolding f_at
f_up_to n t z o h = record {
  not_negative = down_not_negative n (unsigned_abs t.lo);
  ordered = f_ordered n (unsigned_abs t.lo) (unsigned_abs t.hi) (magnitudes_rise t.lo t.hi z o);
  below = up_small n (unsigned_abs t.hi) (omega (arith, ints));
}

pub f_held : (n : ℕ) (t : Ends) → n ≤ 10 ^ 12 → pos 0 ≤ℤ t.lo → t.lo ≤ℤ t.hi → t.hi ≤ℤ pos (3 * n) → IsHeld (f_at n t)
f_held n t few z o h = held (f_at n t) (magnitude_wider (2 * n) (10 ^ 25) (f_at n t) (omega arith) (magnitude_of_up_to (2 * n) (f_at n t) (f_up_to n t z o h)))

-- from the ranges of f, those of the coordinates
pub lightness_magnitude : (n : ℕ) (f : Ends) → UpTo (2 * n) f → MagnitudeUpTo (1000 * n) (difference_of (multiple_of (pos 116) f) (multiple_of (pos 16) (one_at n)))
lightness_magnitude n f u =
    let up = multiple_magnitude (2 * n) (pos 116) f (magnitude_of_up_to (2 * n) f u) in
    let sixteen = multiple_magnitude n (pos 16) (one_at n) (magnitude_of_up_to n (one_at n) (one_up_to n)) in
    magnitude_wider (2 * n * 116 + n * 16) (1000 * n) _ (omega arith) (difference_magnitude (2 * n * 116) (n * 16) _ _ up sixteen)

pub opponent_magnitude : (n : ℕ) (k : ℤ) (f g : Ends) → unsigned_abs k ≤ 500 → UpTo (2 * n) f → UpTo (2 * n) g → MagnitudeUpTo (1000 * n) (multiple_of k (difference_of f g))
opponent_magnitude n k f g h u v =
    let m = mul-le-mul_left (2 * n) h in
    magnitude_wider (2 * n * unsigned_abs k) (1000 * n) _ (omega arith) (multiple_magnitude (2 * n) k (difference_of f g) (difference_within (2 * n) f g u v))

-- ratios from 0 to 3 have a colour of coordinates no larger than 1000
pub colour_of_ratios : (n : ℕ) (r : RatioEnds) → UpTo (3 * n) r.x → UpTo (3 * n) r.y → UpTo (3 * n) r.z → IsColour n (lab_at n r)
unfolding lightness_at red_green_at yellow_blue_at
colour_of_ratios n r p q s =
    let fx = f_up_to n r.x p.not_negative p.ordered p.below in
    let fy = f_up_to n r.y q.not_negative q.ordered q.below in
    let fz = f_up_to n r.z s.not_negative s.ordered s.below in
    record {
      l = lightness_magnitude n (f_at n r.y) fy;
      a = opponent_magnitude n (pos 500) (f_at n r.x) (f_at n r.y) (lit≤ tt) fx fy;
      b = opponent_magnitude n (pos 200) (f_at n r.y) (f_at n r.z) (lit≤ tt) fy fz;
    }
