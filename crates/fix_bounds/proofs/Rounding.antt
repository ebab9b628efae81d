-- The quotient of the code and its ceiling from its floor, over plain numbers.
use Rattle.std.proofs.Common.{ℤ, pos, ◌≡◌, true, false, ◌≤◌, ◌-◌, ◌*◌, ◌^◌, ◌∙◌, ap, subst, sym, ◌*ℤ◌, ◌+ℤ◌, ◌≤ℤ◌, ◌<ℤ◌, FitsSigned, unsigned_abs, arith, le-mul_of_pos_right}
use Rattle.std.proofs.lemmas.Int.{to_z-of_z, ints, fits_signed_from_abs}
use Rattle.std.specs.Int.{w128, int_div_euclid}
use lib.Signed.{lt_z}
use Rattle.interval_specs.specs.Rounding.{floor_over, ceil_over}
use Rattle.interval_specs.proofs.Order.{magnitude_is, magnitude_positive}
use Rattle.interval_specs.proofs.Rounds.{floor_turned, floor_small, ceil_here, ceil_next, div_euclid_is}
use Rattle.fix_bounds.proofs.Passed.{passed}

-- the quotient of two values that are passed
pub quotient_is : (z n : ℤ) → FitsSigned w128 z → FitsSigned w128 n → pos 0 <ℤ n → int_div_euclid (passed z) (passed n) ≡ floor_over z (unsigned_abs n)
quotient_is z n p q some = (λ i. int_div_euclid (to_z-of_z w128 z p i) (to_z-of_z w128 n q i)) ∙ div_euclid_is z n some

-- a product of two values that are passed
pub passed_product : (f n : ℤ) → FitsSigned w128 f → FitsSigned w128 n → passed f *ℤ passed n ≡ f *ℤ n
passed_product f n p q = λ i. to_z-of_z w128 f p i *ℤ to_z-of_z w128 n q i

-- the input of `ceil_after`: f is the floor of z over n
pub record Given (f z n : ℤ) : Type 0 where
  pub f_fits : FitsSigned w128 f
  pub z_fits : FitsSigned w128 z
  pub n_fits : FitsSigned w128 n
  pub positive : pos 0 <ℤ n
  pub room : unsigned_abs z ≤ 10 ^ 37
  pub from_floor : f ≡ floor_over z (unsigned_abs n)

-- the product of the floor and the divisor has room
pub product_room : (f z n : ℤ) → Given f z n → FitsSigned w128 (f *ℤ n)
product_room f z n g =
    let q = g.n_fits in
    let r : unsigned_abs n ≤ 2 ^ 127 - 1 = omega (arith, ints) in
    let t : unsigned_abs (f *ℤ n) ≤ 2 ^ 127 - 1 = subst (λ x. unsigned_abs (x *ℤ n) ≤ 2 ^ 127 - 1) (sym g.from_floor) (floor_turned z n g.positive g.room r) in
    fits_signed_from_abs w128 (f *ℤ n) (omega arith)

-- the magnitude of the floor is at most 10^37
pub floor_room : (f z n : ℤ) → Given f z n → unsigned_abs f ≤ 10 ^ 37
floor_room f z n g =
    let some = magnitude_positive n g.positive in
    let wide : unsigned_abs z ≤ 10 ^ 37 * unsigned_abs n = omega (arith, g.room, le-mul_of_pos_right (10 ^ 37) some) in
    subst (λ x. unsigned_abs x ≤ 10 ^ 37) (sym g.from_floor) (floor_small z (unsigned_abs n) (10 ^ 37) some wide)

-- the test of the code
pub test_is : (f z n : ℤ) → Given f z n → lt_z (passed (passed f *ℤ passed n)) (passed z) ≡ lt_z (f *ℤ pos (unsigned_abs n)) z
test_is f z n g =
    let product = ap passed (passed_product f n g.f_fits g.n_fits) ∙ to_z-of_z w128 (f *ℤ n) (product_room f z n g) ∙ ap (λ x. f *ℤ x) (magnitude_is n g.positive) in
    λ i. lt_z (product i) (to_z-of_z w128 z g.z_fits i)

-- where the product is below z
pub next_is : (f z n : ℤ) → Given f z n → lt_z (passed (passed f *ℤ passed n)) (passed z) ≡ true → passed (passed f +ℤ pos 1) ≡ ceil_over z (unsigned_abs n)
next_is f z n g t =
    let below : lt_z (f *ℤ pos (unsigned_abs n)) z ≡ true = sym (test_is f z n g) ∙ t in
    let h : (f *ℤ pos (unsigned_abs n)) <ℤ z = omega (arith, ints) in
    let k = floor_room f z n g in
    let fits : FitsSigned w128 (f +ℤ pos 1) = omega (arith, ints) in
    ap (λ x. passed (x +ℤ pos 1)) (to_z-of_z w128 f g.f_fits) ∙ to_z-of_z w128 (f +ℤ pos 1) fits ∙ ceil_next f z (unsigned_abs n) (magnitude_positive n g.positive) g.from_floor h

-- where it is not
pub here_is : (f z n : ℤ) → Given f z n → lt_z (passed (passed f *ℤ passed n)) (passed z) ≡ false → passed f ≡ ceil_over z (unsigned_abs n)
here_is f z n g t =
    let above : lt_z (f *ℤ pos (unsigned_abs n)) z ≡ false = sym (test_is f z n g) ∙ t in
    let h : z ≤ℤ (f *ℤ pos (unsigned_abs n)) = omega (arith, ints) in
    to_z-of_z w128 f g.f_fits ∙ ceil_here f z (unsigned_abs n) (magnitude_positive n g.positive) g.from_floor h
