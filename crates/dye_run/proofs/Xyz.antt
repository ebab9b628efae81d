-- The report of `xyz`: its enclosures hold those of every finer scale.
use Rattle.std.proofs.Common.{◌<◌, ℕ, List, All}
use Rattle.spectral_tables.specs.WeightTable.{WeightTable}
use Rattle.run_core.specs.Answers.{StandsFiner}
use Rattle.fix_bounds.specs.Scales.{base_unit}
use Rattle.dye_run.specs.Xyz.{xyz_evaluations}
use Rattle.dye_run.proofs.Colours.{curve_ratios_enclose}
use Rattle.dye_run.proofs.CoordinateLaws.{three_stand}

pub xyz_stands : (weights : WeightTable) (curve : List ℕ) → All StandsFiner (xyz_evaluations weights curve)
xyz_stands weights curve =
    let keeps = λ (m : ℕ) (some : 0 < m). curve_ratios_enclose base_unit m weights curve in
    three_stand _ _ _ _ _ _ (λ m some. (keeps m some).x) (λ m some. (keeps m some).y) (λ m some. (keeps m some).z)
