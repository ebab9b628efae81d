-- The report of `diff`: its enclosure holds those of every finer scale, and a pass or a fail stays
-- one there.
use Rattle.std.proofs.Common.{◌*◌, ℕ, List, [], ◌∷◌, Option, Some, None, All, codes, lit≤, refl}
use Rattle.std.proofs.lemmas.List.Elements.{All-cons}
use Rattle.cmc_specs.proofs.Law.{any_colours_enclose}
use Rattle.spectral_tables.specs.WeightTable.{WeightTable}
use Rattle.run_core.specs.Answers.{Evaluation, StandsFiner}
use Rattle.fix_bounds.specs.Scales.{base_unit}
use Rattle.dye_run.specs.Colours.{curve_lab}
use Rattle.dye_run.specs.Diff.{DiffWords, curve_difference, difference_evaluation, difference_report, diff_report}
use Rattle.dye_run.specs.Inputs.{Tables, curve_from}
use Rattle.run_core.specs.Outcome.{outcome_of, reported}
use Rattle.dye_run.proofs.Colours.{curve_lab_encloses, no_more}
use Rattle.run_core.proofs.Proper.{IsProper, proper_report, proper_then}
use Rattle.dye_run.proofs.Verdicts.{stands}

difference_stands : (words : DiffWords) (weights : WeightTable) (standard sample : List ℕ) → All StandsFiner (difference_evaluation words weights standard sample ∷ [])
difference_stands words weights standard sample =
    let at = curve_difference words.l10 words.c10 weights standard sample in
    let first = curve_lab weights standard in
    let second = curve_lab weights sample in
    All-cons StandsFiner (difference_evaluation words weights standard sample) []
    (stands (codes "DE") at words.tolerance (λ m some.
    any_colours_enclose words.l10 words.c10 base_unit m (first base_unit) (second base_unit) (first (m * base_unit)) (second (m * base_unit)) (lit≤ tt) some
    (curve_lab_encloses base_unit m weights standard some) (curve_lab_encloses base_unit m weights sample some)))
    no_more

difference_proper : (tolerance : Option ℕ) (e : Evaluation) → All StandsFiner (e ∷ []) → IsProper None (reported (difference_report tolerance e))
difference_proper None e h = proper_report refl h
difference_proper (Some t) e h = proper_report refl h

pub diff_proper : (words : DiffWords) (tables : Tables) → IsProper None (outcome_of (diff_report words tables))
unfolding diff_report
diff_proper words tables =
    proper_then (curve_from words.curves words.standard tables.book) _ (λ standard. proper_then (curve_from words.curves words.sample tables.book) _ (λ sample.
    difference_proper words.tolerance (difference_evaluation words tables.weights standard sample) (difference_stands words tables.weights standard sample)))
