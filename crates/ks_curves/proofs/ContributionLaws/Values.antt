-- The laws of the value of a calibration, over units and over steps.
use Rattle.std.proofs.Common.{◌≤ℤ◌, ◌*◌, ◌≤◌, ℕ, pos, mul-le-mul_right}
use Rattle.interval_specs.specs.Encloses.{Encloses}
use Rattle.ks_curves.specs.declared.kind.Calibration.{Calibration}
use Rattle.ks_curves.specs.declared.kind.Calibration.TheVariants.{Line, Broken}
use Rattle.ks_curves.specs.Dye.{DyeData}
use Rattle.ks_curves.specs.Calibration.{in_order, value_over_by}
use Rattle.ks_curves.specs.Laws.{ValueEncloses, ValueNarrows, ValueNotNegative, ContributionEncloses, ContributionNarrows, ContributionNotNegative}
use Rattle.ks_curves.proofs.BrokenLaws.{broken_encloses, broken_narrows, broken_not_negative}
use Rattle.ks_curves.proofs.ContributionLaws.Line.{line_encloses, line_narrows, line_not_negative}

by_kind_encloses : (kind : Calibration) (n m : ℕ) (dye : DyeData) (wave x0 x1 : ℕ) → x0 ≤ x1 → Encloses m (value_over_by kind n dye wave x0 x1) (value_over_by kind (m * n) dye wave x0 x1)
unfolding value_over_by
by_kind_encloses Line n m dye wave x0 x1 le = line_encloses n m dye wave x0 x1 le
by_kind_encloses Broken n m dye wave x0 x1 le = broken_encloses n m dye.substrate wave (in_order dye.dyeings) x0 x1

by_kind_narrows : (kind : Calibration) (n : ℕ) (dye : DyeData) (wave x0 x1 y0 y1 : ℕ) → x0 ≤ y0 → y0 ≤ y1 → y1 ≤ x1 → Encloses 1 (value_over_by kind n dye wave x0 x1) (value_over_by kind n dye wave y0 y1)
unfolding value_over_by
by_kind_narrows Line n dye wave x0 x1 y0 y1 below within above = line_narrows n dye wave x0 x1 y0 y1 below within above
by_kind_narrows Broken n dye wave x0 x1 y0 y1 below within above = broken_narrows n dye.substrate wave dye.dyeings x0 x1 y0 y1 below within above

by_kind_not_negative : (kind : Calibration) (n : ℕ) (dye : DyeData) (wave x0 x1 : ℕ) → pos 0 ≤ℤ (value_over_by kind n dye wave x0 x1).lo
unfolding value_over_by
by_kind_not_negative Line n dye wave x0 x1 = line_not_negative n dye wave x0 x1
by_kind_not_negative Broken n dye wave x0 x1 = broken_not_negative n dye.substrate wave dye.dyeings x0 x1

-- ---- units

pub value_encloses : ValueEncloses
value_encloses n m dye wave x0 x1 le = by_kind_encloses dye.kind n m dye wave x0 x1 le

pub value_narrows : ValueNarrows
value_narrows n dye wave x0 x1 y0 y1 below within above = by_kind_narrows dye.kind n dye wave x0 x1 y0 y1 below within above

pub value_not_negative : ValueNotNegative
value_not_negative n dye wave x0 x1 = by_kind_not_negative dye.kind n dye wave x0 x1

-- ---- steps

pub contribution_encloses : ContributionEncloses
contribution_encloses n m dye wave n0 n1 le = value_encloses n m dye wave (n0 * dye.step) (n1 * dye.step) (mul-le-mul_right dye.step le)

pub contribution_narrows : ContributionNarrows
contribution_narrows n dye wave n0 n1 k0 k1 below within above =
    value_narrows n dye wave (n0 * dye.step) (n1 * dye.step) (k0 * dye.step) (k1 * dye.step) (mul-le-mul_right dye.step below) (mul-le-mul_right dye.step within) (mul-le-mul_right dye.step above)

pub contribution_not_negative : ContributionNotNegative
contribution_not_negative n dye wave n0 n1 = value_not_negative n dye wave (n0 * dye.step) (n1 * dye.step)
