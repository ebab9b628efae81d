-- The report of a command on one column under a light.
use Rattle.std.specs.Prelude.{ℕ, List, Result, Ok}
use Rattle.spectral_tables.specs.WeightTable.{WeightTable}
use Rattle.run_core.specs.Answers.{Evaluation, Report, plain_report}
use Rattle.run_core.specs.Asking.{◌>>=◌}
use Rattle.dye_run.specs.Inputs.{Tables, curve_from}
use Rattle.run_core.specs.Outcome.{Fault}
use Rattle.dye_run.specs.Words.{LitColumn}

-- the report of the evaluations of a column under the light, from the curves and the weights of the
-- files
unfoldable pub coordinates_report : (WeightTable → List ℕ → List Evaluation) → LitColumn → Tables → Result Report Fault
coordinates_report evaluations words tables = do
  curve ← curve_from words.curves words.column tables.book
  Ok (plain_report (evaluations tables.weights curve))
