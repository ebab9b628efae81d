-- `lab`: the CIELAB coordinates of one column under a light.
use Rattle.std.specs.Prelude.{ℕ, List, [], ◌∷◌, codes}
use Rattle.spectral_tables.specs.WeightTable.{WeightTable}
use Rattle.run_core.specs.Answers.{Evaluation, evaluation}
use Rattle.dye_run.specs.Colours.{curve_lab}

abbrev pub lab_evaluations : WeightTable → List ℕ → List Evaluation
lab_evaluations weights curve =
    evaluation (codes "L") (λ n. (curve_lab weights curve n).l)
    ∷ evaluation (codes "a") (λ n. (curve_lab weights curve n).a)
    ∷ evaluation (codes "b") (λ n. (curve_lab weights curve n).b)
    ∷ []
