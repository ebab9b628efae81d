-- CIELAB (CIE 15) of the tristimulus ratios X/Xn, Y/Yn and Z/Zn, each an interval that is not below
-- 0, at every scale n.
use Rattle.std.specs.Prelude.{ℕ, ◌+◌, ◌*◌, ℤ, pos, Bool, nat_lt, if◌then◌else◌, unsigned_abs}
use Rattle.interval_specs.specs.Ends.{Ends, one_at}
use Rattle.interval_specs.specs.Rounding.{floor_over, ceil_over}
use Rattle.interval_specs.specs.Operations.{difference_of, multiple_of}
use Rattle.interval_specs.specs.Roots.{cube, root_below, root_above}
use Rattle.fix_bounds.specs.Ratios.{RatioEnds}

-- the ratio t / n lies above (6/29)^3, where f is the cube root
abbrev pub is_on_root : ℕ → ℕ → Bool
is_on_root n t = nat_lt (216 * n) (24389 * t)

-- elsewhere f of a ratio r is (841/108) r + 4/29; for r = t / n that is this number over 3132, in
-- n-ths
abbrev pub linear : ℕ → ℕ → ℕ
linear n t = 24389 * t + 432 * n

-- f, rounded down
unfoldable pub f_down : ℕ → ℕ → ℤ
f_down n t = if is_on_root n t then pos (root_below cube (t * (n * n))) else floor_over (pos (linear n t)) 3132

-- f, rounded up
unfoldable pub f_up : ℕ → ℕ → ℤ
f_up n t = if is_on_root n t then pos (root_above cube (t * (n * n))) else ceil_over (pos (linear n t)) 3132

-- f of an interval: for each end on its own it is decided which part of f applies
unfoldable pub f_at : ℕ → Ends → Ends
f_at n t = record { lo = f_down n (unsigned_abs t.lo); hi = f_up n (unsigned_abs t.hi) }

-- L = 116 f(Y/Yn) - 16
unfoldable pub lightness_at : ℕ → Ends → Ends
lightness_at n y = difference_of (multiple_of (pos 116) (f_at n y)) (multiple_of (pos 16) (one_at n))

-- a = 500 (f(X/Xn) - f(Y/Yn))
unfoldable pub red_green_at : ℕ → Ends → Ends → Ends
red_green_at n x y = multiple_of (pos 500) (difference_of (f_at n x) (f_at n y))

-- b = 200 (f(Y/Yn) - f(Z/Zn))
unfoldable pub yellow_blue_at : ℕ → Ends → Ends → Ends
yellow_blue_at n y z = multiple_of (pos 200) (difference_of (f_at n y) (f_at n z))

-- the three coordinates
pub record LabEnds : Type 0 where
  pub l : Ends
  pub a : Ends
  pub b : Ends

-- the coordinates of three ratios, at scale n
abbrev pub lab_at : ℕ → RatioEnds → LabEnds
lab_at n r = record { l = lightness_at n r.y; a = red_green_at n r.x r.y; b = yellow_blue_at n r.y r.z }
