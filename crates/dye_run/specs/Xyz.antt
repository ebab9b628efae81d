-- `xyz`: the tristimulus ratios of one column under a light.
use Rattle.std.specs.Prelude.{ℕ, List, [], ◌∷◌, codes}
use Rattle.spectral_tables.specs.WeightTable.{WeightTable}
use Rattle.run_core.specs.Answers.{Evaluation, evaluation}
use Rattle.dye_run.specs.Colours.{curve_ratios}

abbrev pub xyz_evaluations : WeightTable → List ℕ → List Evaluation
xyz_evaluations weights curve =
    evaluation (codes "X/Xn") (λ n. (curve_ratios weights curve n).x)
    ∷ evaluation (codes "Y/Yn") (λ n. (curve_ratios weights curve n).y)
    ∷ evaluation (codes "Z/Zn") (λ n. (curve_ratios weights curve n).z)
    ∷ []
