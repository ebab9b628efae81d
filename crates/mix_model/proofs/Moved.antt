-- An end from which one number is taken away and to which another is added, as code computes it.
use Rattle.std.proofs.Common.{ℤ, ◌≡◌, ◌*◌, ◌^◌, ◌≤◌, ◌<◌, ◌+ℤ◌, ◌-ℤ◌, ◌≤ℤ◌, unsigned_abs, FitsSigned, lit<, subst, sym, arith}
use Rattle.std.specs.Int.{w128}
use Rattle.std.proofs.lemmas.Int.{ints}
use lib.Signed.{mag}
use Rattle.interval_specs.specs.Ends.{Ends, IsHeld, magnitude_of}
use Rattle.interval_specs.specs.Encloses.{Encloses}
use Rattle.interval_specs.proofs.Laws.{inclusion_high, inclusion_low}
use Rattle.fix_bounds.proofs.Passed.{fits, passed, read, read_difference, read_sum}

pub low_small : (a : Ends) → IsHeld a → unsigned_abs a.lo ≤ 10 ^ 25
low_small a h = omega (arith, h.small)

pub high_small : (a : Ends) → IsHeld a → unsigned_abs a.hi ≤ 10 ^ 25
high_small a h = omega (arith, h.small)

difference_small : (x y : ℤ) → unsigned_abs x ≤ 10 ^ 25 → unsigned_abs y ≤ 10 ^ 25 → unsigned_abs (x -ℤ y) ≤ 2 * 10 ^ 25
difference_small x y h k = omega (arith, ints)

moved_small : (x y z : ℤ) → unsigned_abs x ≤ 10 ^ 25 → unsigned_abs y ≤ 10 ^ 25 → unsigned_abs z ≤ 10 ^ 25 → unsigned_abs ((x -ℤ y) +ℤ z) ≤ 3 * 10 ^ 25
moved_small x y z h k l = omega (arith, ints)

module _ (a b c x y z : ℤ) (in_a : mag a < 2 ^ 127) (in_b : mag b < 2 ^ 127) (in_c : mag c < 2 ^ 127) (is_a : a ≡ x) (is_b : b ≡ y) (is_c : c ≡ z)
    (small_x : unsigned_abs x ≤ 10 ^ 25) (small_y : unsigned_abs y ≤ 10 ^ 25) (small_z : unsigned_abs z ≤ 10 ^ 25) where
  taken : passed (passed a -ℤ passed b) ≡ x -ℤ y
  taken = read_difference (passed a) (passed b) x y (2 * 10 ^ 25) (read a x in_a is_a) (read b y in_b is_b) (difference_small x y small_x small_y) (lit< tt)

  pub moved_is : passed (passed (passed a -ℤ passed b) +ℤ passed c) ≡ (x -ℤ y) +ℤ z
  moved_is = read_sum (passed (passed a -ℤ passed b)) (passed c) (x -ℤ y) z (3 * 10 ^ 25) taken (read c z in_c is_c) (moved_small x y z small_x small_y small_z) (lit< tt)

  pub moved_fits : FitsSigned w128 (passed (passed a -ℤ passed b) +ℤ passed c)
  moved_fits = subst (λ (n : ℤ). FitsSigned w128 n) (sym (λ i. taken i +ℤ read c z in_c is_c i)) (fits ((x -ℤ y) +ℤ z) (3 * 10 ^ 25) (moved_small x y z small_x small_y small_z) (lit< tt))

-- what lies within a held interval is held
held_small : (a b : Ends) → IsHeld a → a.lo ≤ℤ b.lo → b.hi ≤ℤ a.hi → b.lo ≤ℤ b.hi → magnitude_of b ≤ 10 ^ 25
held_small a b held low high ordered = omega (arith, ints, held.ordered, held.small)

pub within_held : (a b : Ends) → IsHeld a → Encloses 1 a b → IsHeld b
within_held a b held h = record { ordered = h.ordered; small = held_small a b held (inclusion_low a b h) (inclusion_high a b h) h.ordered }
