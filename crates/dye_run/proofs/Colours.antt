-- Ratios and CIELAB coordinates of a measured curve keep enclosing where the scale grows from n to
-- m * n.
use Rattle.std.proofs.Common.{◌*◌, ◌<◌, ℕ, List, [], All, arith}
use Rattle.cielab_bounds.specs.Laws.{EnclosesLab}
use Rattle.cielab_bounds.proofs.LabLaw.{lab_encloses}
use Rattle.spectral_tables.specs.Spectrum.{spectrum_at}
use Rattle.spectral_tables.specs.WeightTable.{WeightTable}
use Rattle.spectral_tables.proofs.SpectrumLaws.{spectrum_encloses}
use Rattle.fix_bounds.specs.Ratios.{EnclosesRatios}
use Rattle.tristimulus.specs.Ratios.{ratios_at}
use Rattle.tristimulus.proofs.RatioLaws.{ratio_not_negative, ratios_enclose}
use Rattle.run_core.specs.Answers.{StandsFiner}
use Rattle.dye_run.specs.Colours.{curve_lab, curve_ratios}

pub curve_ratios_enclose : (n m : ℕ) (weights : WeightTable) (curve : List ℕ) → EnclosesRatios m (curve_ratios weights curve n) (curve_ratios weights curve (m * n))
curve_ratios_enclose n m weights curve = ratios_enclose n m (spectrum_at n curve) (spectrum_at (m * n) curve) weights (spectrum_encloses n m curve)

pub curve_lab_encloses : (n m : ℕ) (weights : WeightTable) (curve : List ℕ) → 0 < m → EnclosesLab m (curve_lab weights curve n) (curve_lab weights curve (m * n))
unfolding ratios_at
curve_lab_encloses n m weights curve some =
    let r = curve_ratios_enclose n m weights curve in
    let at = λ (column : ℕ). ratio_not_negative n column (spectrum_at n curve) weights in
    lab_encloses n m (curve_ratios weights curve n) (curve_ratios weights curve (m * n)) some (at 0) (at 1) (at 2) r

pub no_more : All StandsFiner []
no_more = λ k d h. absurd (omega arith)
