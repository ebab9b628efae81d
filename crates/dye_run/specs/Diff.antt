-- `diff`: the CMC(l:c) difference of two columns under a light, and its verdict where there is a
-- tolerance.
use Rattle.std.specs.Prelude.{ℕ, List, [], ◌∷◌, ◌++◌, ◌&&◌, codes, Option, Some, None, Result, Ok, option_map, if◌then◌else◌}
use Rattle.interval_specs.specs.Ends.{Ends}
use Rattle.cmc_specs.specs.Cmc.{cmc_at}
use Rattle.spectral_tables.specs.WeightTable.{WeightTable}
use Rattle.run_core.specs.Answers.{Evaluation, Report, line_of, plain_report, verdict_on}
use Rattle.fix_bounds.specs.Scales.{base_unit}
use Rattle.dye_run.specs.Colours.{curve_lab}
use Rattle.run_core.specs.Asking.{◌>>=◌}
use Rattle.dye_run.specs.Inputs.{Tables, curve_from}
use Rattle.run_core.specs.Outcome.{Fault}
use Rattle.shade_report.specs.Recipes.{verdict_name}
use Rattle.dye_run.specs.Words.{is_file_word, number_in}
use Rattle.run_core.specs.declared.statuses.Conclusion.TheVariants.{Judged}

-- the tolerance is in thousandths
pub record DiffWords : Type 0 where
  pub curves : List ℕ
  pub standard : List ℕ
  pub sample : List ℕ
  pub weights : List ℕ
  pub l10 : ℕ
  pub c10 : ℕ
  pub tolerance : Option ℕ

abbrev pub diff_with : (curves standard sample weights : List ℕ) → Option ℕ → Option ℕ → Option (Option ℕ) → Option DiffWords
diff_with curves standard sample weights (Some l10) (Some c10) (Some tolerance) =
    if is_file_word curves && is_file_word weights
    then Some (record { curves = curves; standard = standard; sample = sample; weights = weights; l10 = l10; c10 = c10; tolerance = tolerance })
    else None
diff_with curves standard sample weights (Some l10) (Some c10) None = None
diff_with curves standard sample weights (Some l10) None tolerance = None
diff_with curves standard sample weights None c10 tolerance = None

-- [TOL], 0 to 100,000 thousandths
abbrev pub tolerance_of : List (List ℕ) → Option (Option ℕ)
tolerance_of [] = Some None
tolerance_of (word ∷ []) = option_map Some (number_in 0 100000 word)
tolerance_of words = None

-- CURVES STANDARD SAMPLE WEIGHTS L10 C10 [TOL]: the weights l and c are 1 to 100 tenths
abbrev pub diff_words : List (List ℕ) → Option DiffWords
diff_words (curves ∷ standard ∷ sample ∷ weights ∷ l ∷ c ∷ rest) =
    diff_with curves standard sample weights (number_in 1 100 l) (number_in 1 100 c) (tolerance_of rest)
diff_words words = None

-- the CMC(l:c) difference of two curves, the first of them the standard, at scale n
abbrev pub curve_difference : (l10 c10 : ℕ) → WeightTable → List ℕ → List ℕ → ℕ → Ends
curve_difference l10 c10 weights standard sample n = cmc_at l10 c10 n (curve_lab weights standard n) (curve_lab weights sample n)

abbrev pub difference_evaluation : DiffWords → WeightTable → List ℕ → List ℕ → Evaluation
difference_evaluation words weights standard sample =
    record { label = codes "DE"; at = curve_difference words.l10 words.c10 weights standard sample; tolerance = words.tolerance }

-- the line of a difference, and a line for its verdict where there is a tolerance
abbrev pub difference_report : Option ℕ → Evaluation → Report
difference_report None e = plain_report (e ∷ [])
difference_report (Some t) e =
    record {
      conclusion = Judged (verdict_on e t base_unit);
      text = line_of e ++ verdict_name (verdict_on e t base_unit) ++ 10 ∷ [];
      evaluations = e ∷ [];
      written = None;
      recipes = None;
    }

-- the report, from the curves and the weights of the files: where both columns are missing, that of
-- the standard is named
unfoldable pub diff_report : DiffWords → Tables → Result Report Fault
diff_report words tables = do
  standard ← curve_from words.curves words.standard tables.book
  sample ← curve_from words.curves words.sample tables.book
  Ok (difference_report words.tolerance (difference_evaluation words tables.weights standard sample))
