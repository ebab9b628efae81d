-- The values of a calibration as they are computed: their ranges, and their ends.
use Rattle.std.proofs.Common.{◌≡◌, ◌*◌, ◌≤◌, ◌<◌, ◌^◌, ◌∙◌, ℕ, zero, suc, pos, List, [], All, length, ◌*ℤ◌, sym, subst, arith, FitsSigned, unsigned_abs, lit<}
use Rattle.std.specs.Int.{w128}
use mir.Val.{to_z}
use Rattle.std.proofs.lemmas.Int.{ints, to_z_pos}
use Rattle.std.proofs.lemmas.List.Sums.{sum_by-le-sum_by, get_or-le-sum_by}
use Rattle.std.proofs.Math.Nat.{mul-le-mul, mul-le-mul_left, mul-le-mul_right}
use Rattle.interval_specs.specs.Ends.{Ends, IsHeld}
use Rattle.interval_specs.specs.Operations.{fraction_of}
use Rattle.interval_specs.specs.Ranges.{UpTo}
use Rattle.interval_specs.specs.Rounding.{floor_over, ceil_over}
use Rattle.interval_specs.proofs.Ranges.{fraction_up_to, held, magnitude_of_up_to, magnitude_wider}
use Rattle.interval_specs.proofs.Rounds.{floor_le_ceil}
use Rattle.fix_bounds.proofs.Passed.{fits}
use Rattle.spectral_tables.specs.Spectrum.{ends_of}
use Rattle.ks_curves.specs.Dye.{Dyeing, IsDyeing}
use Rattle.ks_curves.specs.Calibration.{numerator_at, square_sum}
use Rattle.ks_curves.specs.Slope.{CanFit, line_over, unit_sum}
use Rattle.ks_curves.proofs.Sums.{units_few}
use Rattle.ks_curves.proofs.Units.{more_units}

-- a number is at most its square
under_square : (x : ℕ) → x ≤ x * x
under_square zero = omega arith
under_square (suc x) = let m = mul-le-mul_left (suc x) (one_upto x) in omega (arith, m)
  where
    one_upto : (x : ℕ) → 1 ≤ suc x
    one_upto x = omega arith

pub units_under_squares : (ds : List Dyeing) → unit_sum ds ≤ square_sum ds
unfolding square_sum
units_under_squares ds = sum_by-le-sum_by (λ (d : Dyeing). d.0) (λ d. d.0 * d.0) ds (λ d. under_square d.0)

pub squares_positive : (count : ℕ) (ds : List Dyeing) → 1 ≤ length ds → All (IsDyeing count) ds → 0 < square_sum ds
squares_positive count ds some each =
    let d : Dyeing = (0, []) in
    let first = (each 0 d some).units.0 in
    let sum = get_or-le-sum_by (λ (x : Dyeing). x.0) ds 0 d some in
    let under = units_under_squares ds in
    omega (arith, first, sum, under)

-- ---- the ends of a value that is computed

pub record IsComputed (n : ℕ) (value : Ends) (below above : ℕ) : Type 0 where
  pub low : to_z w128 below ≡ value.lo
  pub high : to_z w128 above ≡ value.hi
  pub low_fits : FitsSigned w128 (pos below)
  pub high_fits : FitsSigned w128 (pos above)
  pub range : UpTo (4 * 10 ^ 8 * n) value
  pub is_held : IsHeld value

pub end_small : (k : ℕ) (a : Ends) → UpTo k a → (unsigned_abs a.lo ≤ k) × (unsigned_abs a.hi ≤ k)
end_small k a u = (omega (arith, ints, u.not_negative, u.ordered, u.below), omega (arith, ints, u.not_negative, u.ordered, u.below))

pub computed : (n : ℕ) (value : Ends) (below above : ℕ) → n ≤ 10 ^ 12 → UpTo (4 * 10 ^ 8 * n) value → pos below ≡ value.lo → pos above ≡ value.hi → IsComputed n value below above
computed n value below above few range low high =
    let small = end_small (4 * 10 ^ 8 * n) value range in
    let below_small : below ≤ 4 * 10 ^ 8 * n = subst (λ z. unsigned_abs z ≤ 4 * 10 ^ 8 * n) (sym low) small.0 in
    let above_small : above ≤ 4 * 10 ^ 8 * n = subst (λ z. unsigned_abs z ≤ 4 * 10 ^ 8 * n) (sym high) small.1 in
    record {
      low = to_z_pos w128 below (omega (arith, below_small)) ∙ low;
      high = to_z_pos w128 above (omega (arith, above_small)) ∙ high;
      low_fits = fits (pos below) (10 ^ 25) (omega (arith, below_small)) (lit< tt);
      high_fits = fits (pos above) (10 ^ 25) (omega (arith, above_small)) (lit< tt);
      range = range;
      is_held = held value (magnitude_wider (4 * 10 ^ 8 * n) (10 ^ 25) value (omega arith) (magnitude_of_up_to (4 * 10 ^ 8 * n) value range));
    }

-- ---- the straight line

-- what is known of a dye when its value is computed: its denominator, and the ends of its numerator
-- at a wavelength
pub record IsSlope (n : ℕ) (substrate : List ℕ) (dyeings : List Dyeing) (wave denominator : ℕ) (numerator : ℕ × ℕ) : Type 0 where
  pub fit : CanFit substrate dyeings
  pub denominator_is : denominator ≡ square_sum dyeings
  pub numerator_is : ends_of numerator ≡ numerator_at n substrate wave dyeings
  pub range : UpTo (unit_sum dyeings * (10 ^ 4 * n)) (ends_of numerator)

module _ (n : ℕ) (substrate : List ℕ) (dyeings : List Dyeing) (wave denominator : ℕ) (numerator : ℕ × ℕ) (s : IsSlope n substrate dyeings wave denominator numerator) where
  positive : 0 < square_sum dyeings
  positive = squares_positive (length substrate) dyeings s.fit.some s.fit.each

  pub denominator_positive : 0 < denominator
  denominator_positive = subst (λ k. 0 < k) (sym s.denominator_is) positive

  pub numerators_small : n ≤ 10 ^ 12 → (numerator.0 ≤ 10 ^ 25) × (numerator.1 ≤ 10 ^ 25)
  numerators_small few =
      let units = units_few (length substrate) dyeings s.fit.few s.fit.each in
      let m = mul-le-mul units few in
      let small = end_small (unit_sum dyeings * (10 ^ 4 * n)) (ends_of numerator) s.range in
      let low : numerator.0 ≤ unit_sum dyeings * (10 ^ 4 * n) = small.0 in
      let high : numerator.1 ≤ unit_sum dyeings * (10 ^ 4 * n) = small.1 in
      (omega (arith, low, m), omega (arith, high, m))

  -- the value at up to 40,000 units
  value_up_to : (x : ℕ) → x ≤ 40000 → UpTo (4 * 10 ^ 8 * n) (fraction_of x (square_sum dyeings) (numerator_at n substrate wave dyeings))
  value_up_to x few =
      let slope = mul-le-mul_right (10 ^ 4 * n) (units_under_squares dyeings) in
      let all = mul-le-mul slope few in
      fraction_up_to (unit_sum dyeings * (10 ^ 4 * n)) (4 * 10 ^ 8 * n) x (square_sum dyeings) (numerator_at n substrate wave dyeings) positive (omega (arith, all)) (subst (UpTo (unit_sum dyeings * (10 ^ 4 * n))) s.numerator_is s.range)

  line_up_to : (x0 x1 : ℕ) → x0 ≤ x1 → x1 ≤ 40000 → UpTo (4 * 10 ^ 8 * n) (line_over n substrate dyeings wave x0 x1)
  unfolding fraction_of
  line_up_to x0 x1 le few =
      let a : Ends = numerator_at n substrate wave dyeings in
      let range : UpTo (unit_sum dyeings * (10 ^ 4 * n)) a = subst (UpTo (unit_sum dyeings * (10 ^ 4 * n))) s.numerator_is s.range in
      record {
        not_negative = (value_up_to x0 (omega (arith, le, few))).not_negative;
        ordered = floor_le_ceil (a.lo *ℤ pos x0) (a.hi *ℤ pos x1) (square_sum dyeings) (more_units a.lo a.hi x0 x1 range.not_negative range.ordered le);
        below = (value_up_to x1 few).below;
      }

  pub line_computed : (x0 x1 below above : ℕ) → n ≤ 10 ^ 12 → x0 ≤ x1 → x1 ≤ 40000 → pos below ≡ floor_over (pos (numerator.0 * x0)) denominator → pos above ≡ ceil_over (pos (numerator.1 * x1)) denominator
      → IsComputed n (line_over n substrate dyeings wave x0 x1) below above
  unfolding fraction_of
  line_computed x0 x1 below above few le most down up =
      computed n (line_over n substrate dyeings wave x0 x1) below above few (line_up_to x0 x1 le most)
      (down ∙ (λ i. floor_over ((s.numerator_is i).lo *ℤ pos x0) (s.denominator_is i)))
      (up ∙ (λ i. ceil_over ((s.numerator_is i).hi *ℤ pos x1) (s.denominator_is i)))
