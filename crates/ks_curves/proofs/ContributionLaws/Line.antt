-- The laws of a straight line: of its numerator, and of its values over units.
use Rattle.std.proofs.Common.{◌≤ℤ◌, ◌*ℤ◌, ◌*◌, ◌≤◌, ℕ, pos, List, [], ◌∷◌, subst, one-mul, arith}
use Rattle.interval_specs.specs.Ends.{Ends}
use Rattle.interval_specs.specs.Encloses.{Encloses}
use Rattle.interval_specs.specs.Operations.{fraction_of}
use Rattle.interval_specs.proofs.Order.{refl_ℤ, trans_ℤ}
use Rattle.interval_specs.proofs.Laws.{nothing_encloses, fraction_encloses, sum_encloses, multiple_encloses, cut_low_encloses, none_of, inclusion_low}
use Rattle.interval_specs.proofs.Ranges.{cut_low_not_negative}
use Rattle.interval_specs.proofs.Rounds.{floor_finer, ceil_finer, floor_le_ceil}
use Rattle.ks_curves.specs.Dye.{Dyeing, DyeData}
use Rattle.ks_curves.specs.Calibration.{weighted_addition, weighted_sum, numerator_at, square_sum, line_at}
use Rattle.ks_curves.proofs.BrokenLaws.{added_encloses}
use Rattle.ks_curves.proofs.Units.{more_units, once, at_once}

addition_encloses : (n m : ℕ) (substrate : List ℕ) (wave : ℕ) (d : Dyeing) → Encloses m (weighted_addition n substrate wave d) (weighted_addition (m * n) substrate wave d)
unfolding weighted_addition
addition_encloses n m substrate wave d = multiple_encloses m (pos d.0) _ _ (added_encloses n m substrate wave d)

sums_enclose : (n m : ℕ) (substrate : List ℕ) (wave : ℕ) (ds : List Dyeing) → Encloses m (weighted_sum n substrate wave ds) (weighted_sum (m * n) substrate wave ds)
unfolding weighted_sum
sums_enclose n m substrate wave [] = nothing_encloses m
sums_enclose n m substrate wave (d ∷ ds) = sum_encloses m _ _ _ _ (addition_encloses n m substrate wave d) (sums_enclose n m substrate wave ds)

numerator_encloses : (n m : ℕ) (substrate : List ℕ) (wave : ℕ) (ds : List Dyeing) → Encloses m (numerator_at n substrate wave ds) (numerator_at (m * n) substrate wave ds)
unfolding numerator_at
numerator_encloses n m substrate wave ds = cut_low_encloses n m (pos 0) _ _ (sums_enclose n m substrate wave ds)

pub numerator_not_negative : (n : ℕ) (substrate : List ℕ) (wave : ℕ) (ds : List Dyeing) → pos 0 ≤ℤ (numerator_at n substrate wave ds).lo
unfolding numerator_at
numerator_not_negative n substrate wave ds = cut_low_not_negative n 0 _

-- the numerator is in order at every scale
pub numerator_ordered : (n : ℕ) (substrate : List ℕ) (wave : ℕ) (ds : List Dyeing) → (numerator_at n substrate wave ds).lo ≤ℤ (numerator_at n substrate wave ds).hi
numerator_ordered n substrate wave ds = subst (λ k. (numerator_at k substrate wave ds).lo ≤ℤ (numerator_at k substrate wave ds).hi) (one-mul n) (numerator_encloses n 1 substrate wave ds).ordered

-- the values over units from x0 to x1
abbrev pub line_over : ℕ → DyeData → ℕ → ℕ → ℕ → Ends
line_over n dye wave x0 x1 = record { lo = (line_at n dye wave x0).lo; hi = (line_at n dye wave x1).hi }

-- in the scale
pub line_encloses : (n m : ℕ) (dye : DyeData) (wave x0 x1 : ℕ) → x0 ≤ x1 → Encloses m (line_over n dye wave x0 x1) (line_over (m * n) dye wave x0 x1)
unfolding line_at fraction_of
line_encloses n m dye wave x0 x1 le =
    let fine = numerator_at (m * n) dye.substrate wave dye.dyeings in
    let h = numerator_encloses n m dye.substrate wave dye.dyeings in
    let s = square_sum dye.dyeings in
    record {
      low = (fraction_encloses m x0 s _ _ h).low;
      high = (fraction_encloses m x1 s _ _ h).high;
      ordered = floor_le_ceil (fine.lo *ℤ pos x0) (fine.hi *ℤ pos x1) s (more_units fine.lo fine.hi x0 x1 (numerator_not_negative (m * n) dye.substrate wave dye.dyeings) h.ordered le);
    }

-- in the range of units
pub line_narrows : (n : ℕ) (dye : DyeData) (wave x0 x1 y0 y1 : ℕ) → x0 ≤ y0 → y0 ≤ y1 → y1 ≤ x1 → Encloses 1 (line_over n dye wave x0 x1) (line_over n dye wave y0 y1)
unfolding line_at fraction_of
line_narrows n dye wave x0 x1 y0 y1 below within above =
    let a = numerator_at n dye.substrate wave dye.dyeings in
    let s = square_sum dye.dyeings in
    let low = numerator_not_negative n dye.substrate wave dye.dyeings in
    let ordered = numerator_ordered n dye.substrate wave dye.dyeings in
    let high : pos 0 ≤ℤ a.hi = trans_ℤ (pos 0) a.lo a.hi low ordered in
    record {
      low = floor_finer 1 s (a.lo *ℤ pos x0) (a.lo *ℤ pos y0) (once (a.lo *ℤ pos x0) (a.lo *ℤ pos y0) (more_units a.lo a.lo x0 y0 low (refl_ℤ a.lo) below));
      high = ceil_finer 1 s (a.hi *ℤ pos x1) (a.hi *ℤ pos y1) (at_once (a.hi *ℤ pos y1) (a.hi *ℤ pos x1) (more_units a.hi a.hi y1 x1 high (refl_ℤ a.hi) above));
      ordered = floor_le_ceil (a.lo *ℤ pos y0) (a.hi *ℤ pos y1) s (more_units a.lo a.hi y0 y1 low ordered within);
    }

-- not below 0: the value at no units is 0, and the line does not fall
pub line_not_negative : (n : ℕ) (dye : DyeData) (wave x0 x1 : ℕ) → pos 0 ≤ℤ (line_over n dye wave x0 x1).lo
unfolding line_at
line_not_negative n dye wave x0 x1 =
    let a = numerator_at n dye.substrate wave dye.dyeings in
    let s = square_sum dye.dyeings in
    let start = line_narrows n dye wave 0 x0 x0 x0 (omega arith) (omega arith) (omega arith) in
    subst (λ (e : Ends). e.lo ≤ℤ (fraction_of x0 s a).lo) (none_of s a) (inclusion_low (line_over n dye wave 0 x0) (line_over n dye wave x0 x0) start)
