-- `show`: the report of one recipe of a job.
use Rattle.std.specs.Prelude.{ℕ, ◌+◌, List, [], ◌∷◌, ◌++◌, codes, decimal, Option, Some, None, Result, Ok, Err, if◌then◌else◌}
use Rattle.interval_specs.specs.Ends.{Ends}
use Rattle.job_keys.specs.declared.light.JobLight.{JobLight}
use Rattle.job_file.specs.declared.top.BatchRule.{BatchRule}
use Rattle.job_file.specs.declared.top.BatchRule.TheVariants.{Either}
use Rattle.job_file.specs.Resolve.{ResolvedJob}
use Rattle.metamerism.specs.Verdicts.{light_verdict, verdict_at}
use Rattle.metamerism.specs.declared.outcomes.Verdict.{Verdict}
use Rattle.price_grid.specs.Cost.{cost_of}
use Rattle.price_grid.specs.Limits.{broken_limit}
use Rattle.price_grid.specs.Words.{steps_of_word}
use Rattle.recipe_judge.specs.Evaluation.{difference_of_light, differences_at, spectrum_of, tolerances}
use Rattle.recipe_judge.specs.Land.{over_batch}
use Rattle.shade_report.specs.Recipes.{RecipeValues, show_text}
use Rattle.spectral_tables.specs.Spectrum.{spectrum_at}
use Rattle.spectral_tables.specs.WeightTable.{WeightTable}
use Rattle.run_core.specs.Answers.{Evaluation, Report}
use Rattle.fix_bounds.specs.Scales.{base_unit}
use Rattle.run_core.specs.Asking.{◌>>=◌}
use Rattle.run_core.specs.Outcome.{Fault, steps}
use Rattle.dye_run.specs.Words.{is_job_word}
use Rattle.run_core.specs.declared.statuses.Conclusion.TheVariants.{Judged}

pub record ShowWords : Type 0 where
  pub job : List ℕ
  pub steps : List ℕ

-- JOB STEPS
abbrev pub show_words : List (List ℕ) → Option ShowWords
show_words (job ∷ word ∷ []) = if is_job_word job then Some (record { job = job; steps = word }) else None
show_words words = None

-- the job may have a batch or not
abbrev pub show_rule : BatchRule
show_rule = Either

abbrev pub unless_no_recipe : Option (List ℕ) → Result (List ℕ) Fault
unless_no_recipe None = Err (steps None)
unless_no_recipe (Some recipe) = Ok recipe

abbrev pub unless_excluded : List ℕ → Option ℕ → Result (List ℕ) Fault
unless_excluded recipe None = Ok recipe
unless_excluded recipe (Some number) = Err (steps (Some (record { 0 = number })))

-- the recipe that a word spells, where it is one of the grid and keeps the limits
unfoldable pub recipe_from : ResolvedJob → List ℕ → Result (List ℕ) Fault
recipe_from r word = do
  recipe ← unless_no_recipe (steps_of_word r.grid word)
  unless_excluded recipe (broken_limit r.grid (over_batch r.limits r.job.batch) recipe)

-- the verdict on each difference by itself, under lights that are numbered from `number` on
unfoldable pub verdicts_from : ℕ → List ℕ → List Ends → List Verdict
verdicts_from number [] deltas = []
verdicts_from number (tolerance ∷ rest) [] = []
verdicts_from number (tolerance ∷ rest) (delta ∷ deltas) = light_verdict base_unit tolerance number delta ∷ verdicts_from (number + 1) rest deltas

-- the values shown of a recipe with these differences
abbrev pub values_of : ResolvedJob → List ℕ → List Ends → RecipeValues
values_of r recipe deltas = record {
  steps = recipe;
  cost = cost_of r.grid recipe;
  deltas = deltas;
  each = verdicts_from 1 (tolerances r.job.light) deltas;
  whole = verdict_at base_unit (tolerances r.job.light) deltas;
}

-- the values shown of a recipe, with its differences at the base scale
abbrev pub recipe_values : ResolvedJob → List ℕ → RecipeValues
recipe_values r recipe = values_of r recipe (differences_at base_unit r recipe recipe)

-- the difference of a recipe under the light with a number
abbrev pub light_evaluation : ResolvedJob → List ℕ → ℕ → JobLight → WeightTable → Evaluation
light_evaluation r recipe number light weights = record {
  label = codes "light " ++ decimal number ++ codes " DE";
  at = λ n. difference_of_light n (spectrum_at n r.standard) light weights (spectrum_of n r recipe recipe);
  tolerance = Some light.tolerance;
}

-- the differences under lights with their weights, where the lights are numbered from `number` on
unfoldable pub light_evaluations : ResolvedJob → List ℕ → ℕ → List JobLight → List WeightTable → List Evaluation
light_evaluations r recipe number [] tables = []
light_evaluations r recipe number (light ∷ lights) [] = []
light_evaluations r recipe number (light ∷ lights) (weights ∷ tables) = light_evaluation r recipe number light weights ∷ light_evaluations r recipe (number + 1) lights tables

-- the report of a recipe
abbrev pub recipe_report : ResolvedJob → List ℕ → Report
recipe_report r recipe = record {
  conclusion = Judged (recipe_values r recipe).whole;
  text = show_text r.job (recipe_values r recipe);
  evaluations = light_evaluations r recipe 1 r.job.light r.weights;
  written = None;
  recipes = None;
}

-- the report of the recipe that a word spells
unfoldable pub show_report : ShowWords → ResolvedJob → Result Report Fault
show_report words r = do
  recipe ← recipe_from r words.steps
  Ok (recipe_report r recipe)
