-- The report of `lab`: its enclosures hold those of every finer scale.
use Rattle.std.proofs.Common.{◌<◌, ℕ, List, All}
use Rattle.spectral_tables.specs.WeightTable.{WeightTable}
use Rattle.run_core.specs.Answers.{StandsFiner}
use Rattle.fix_bounds.specs.Scales.{base_unit}
use Rattle.dye_run.specs.Lab.{lab_evaluations}
use Rattle.dye_run.proofs.Colours.{curve_lab_encloses}
use Rattle.dye_run.proofs.CoordinateLaws.{three_stand}

pub lab_stands : (weights : WeightTable) (curve : List ℕ) → All StandsFiner (lab_evaluations weights curve)
lab_stands weights curve =
    let keeps = λ (m : ℕ) (some : 0 < m). curve_lab_encloses base_unit m weights curve some in
    three_stand _ _ _ _ _ _ (λ m some. (keeps m some).l) (λ m some. (keeps m some).a) (λ m some. (keeps m some).b)
