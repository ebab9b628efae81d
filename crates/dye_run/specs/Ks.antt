-- `ks`: the K/S of one column.
use Rattle.std.specs.Prelude.{ℕ, ◌+◌, List, [], ◌∷◌, Option, Some, None, Result, Ok, decimal, if◌then◌else◌}
use Rattle.ks_curves.specs.KubelkaMunk.{ks_at}
use Rattle.spectral_tables.specs.declared.grid.WaveGrid.TheVariants.{Ten}
use Rattle.spectral_tables.specs.CurveBook.{Book}
use Rattle.spectral_tables.specs.Grid.{first_of, step_of}
use Rattle.run_core.specs.Answers.{Evaluation, Report, evaluation, plain_report}
use Rattle.run_core.specs.Asking.{◌>>=◌}
use Rattle.dye_run.specs.Inputs.{curve_from}
use Rattle.run_core.specs.Outcome.{Fault}
use Rattle.dye_run.specs.Words.{is_file_word}

pub record KsWords : Type 0 where
  pub curves : List ℕ
  pub column : List ℕ

-- CURVES COLUMN
abbrev pub ks_words : List (List ℕ) → Option KsWords
ks_words (curves ∷ column ∷ []) = if is_file_word curves then Some (record { curves = curves; column = column }) else None
ks_words words = None

-- the K/S of the reflectances of a curve, at wavelengths that rise by a step from the first
abbrev pub ks_evaluations : ℕ → List ℕ → List Evaluation
ks_evaluations wavelength [] = []
ks_evaluations wavelength (millionths ∷ curve) =
    evaluation (decimal wavelength) (λ n. ks_at n millionths) ∷ ks_evaluations (wavelength + step_of Ten) curve

-- the report, from the curves of the file
unfoldable pub ks_report : KsWords → Book → Result Report Fault
ks_report words book = do
  curve ← curve_from words.curves words.column book
  Ok (plain_report (ks_evaluations (first_of Ten) curve))
