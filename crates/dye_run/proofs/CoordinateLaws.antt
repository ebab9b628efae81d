-- A report of coordinates: its enclosures hold those of every finer scale.
use Rattle.std.proofs.Common.{◌*◌, ◌<◌, ℕ, List, [], ◌∷◌, None, All, refl}
use Rattle.std.proofs.lemmas.List.Elements.{All-cons}
use Rattle.interval_specs.specs.Ends.{Ends}
use Rattle.interval_specs.specs.Encloses.{Encloses}
use Rattle.spectral_tables.specs.WeightTable.{WeightTable}
use Rattle.run_core.specs.Answers.{Evaluation, StandsFiner, evaluation}
use Rattle.fix_bounds.specs.Scales.{base_unit}
use Rattle.dye_run.specs.Coordinates.{coordinates_report}
use Rattle.dye_run.specs.Inputs.{Tables, curve_from}
use Rattle.run_core.specs.Outcome.{outcome_of}
use Rattle.dye_run.specs.Words.{LitColumn}
use Rattle.dye_run.proofs.Colours.{no_more}
use Rattle.run_core.proofs.Proper.{IsProper, proper_report, proper_then}
use Rattle.dye_run.proofs.Verdicts.{stands}

abbrev pub KeepsFiner : (ℕ → Ends) → Type 0
KeepsFiner at = (m : ℕ) → 0 < m → Encloses m (at base_unit) (at (m * base_unit))

pub three_stand : (k l n : List ℕ) (x y z : ℕ → Ends) → KeepsFiner x → KeepsFiner y → KeepsFiner z → All StandsFiner (evaluation k x ∷ evaluation l y ∷ evaluation n z ∷ [])
three_stand k l n x y z p q r =
    All-cons StandsFiner (evaluation k x) (evaluation l y ∷ evaluation n z ∷ []) (stands k x None p)
    (All-cons StandsFiner (evaluation l y) (evaluation n z ∷ []) (stands l y None q)
    (All-cons StandsFiner (evaluation n z) [] (stands n z None r) no_more))

pub coordinates_proper : (evaluations : WeightTable → List ℕ → List Evaluation) → ((weights : WeightTable) (curve : List ℕ) → All StandsFiner (evaluations weights curve)) → (words : LitColumn) (tables : Tables) → IsProper None (outcome_of (coordinates_report evaluations words tables))
unfolding coordinates_report
coordinates_proper evaluations finer words tables = proper_then (curve_from words.curves words.column tables.book) _ (λ curve. proper_report refl (finer tables.weights curve))
