-- The text of one recipe.
use Rattle.std.specs.Prelude.{◌≡◌, ℕ, ◌+◌, ◌*◌, pos, List, [], ◌∷◌, ◌++◌, codes, decimal, length}
use Rattle.interval_specs.specs.Ends.{Ends}
use Rattle.dec_text.specs.FixedPoint.{fixed_text, pair_text}
use Rattle.job_file.specs.declared.dye.JobDye.{JobDye}
use Rattle.job_file.specs.Job.{Values}
use Rattle.metamerism.specs.declared.outcomes.Verdict.{Verdict}
use Rattle.metamerism.specs.declared.outcomes.Verdict.TheVariants.{Fail, Pass, Undecided}
use Rattle.shade_report.specs.declared.shown.Shown.{Shown}

-- a recipe with the values that a report shows of it: its steps, its cost, its differences under
-- the lights, the verdict on each of them, and the verdict on all lights
pub record RecipeValues : Type 0 where
  pub steps : List ℕ
  pub cost : ℕ
  pub deltas : List Ends
  pub each : List Verdict
  pub whole : Verdict

-- the values of a recipe in code
abbrev pub shown_view : Shown → RecipeValues
shown_view s = record { steps = s.steps.items; cost = s.cost; deltas = s.deltas.each.items; each = s.each.items; whole = s.whole }

abbrev pub verdict_name : Verdict → List ℕ
verdict_name Pass = codes "pass"
verdict_name (Fail number) = codes "fail"
verdict_name Undecided = codes "undecided"

-- a dye with n steps, for a load in kilograms. A unit is a thousandth of a percent of the cloth's
-- weight, which is a hundredth of a gram for each kilogram
unfoldable pub dye_text : ℕ → JobDye → ℕ → List ℕ
dye_text load dye n =
    codes "dye " ++ dye.name ++ codes " steps " ++ decimal n ++ codes " percent " ++ fixed_text 3 (pos (n * dye.step))
    ++ codes " grams " ++ fixed_text 2 (pos (n * dye.step * load)) ++ 10 ∷ []

-- a line for each dye with its steps
unfoldable pub dyes_text : ℕ → List JobDye → List ℕ → List ℕ
dyes_text load [] steps = []
dyes_text load (dye ∷ dyes) [] = []
dyes_text load (dye ∷ dyes) (n ∷ steps) = dye_text load dye n ++ dyes_text load dyes steps

-- the difference under the light with a number, and the verdict on it
unfoldable pub light_text : ℕ → Ends → Verdict → List ℕ
light_text number delta verdict =
    codes "light " ++ decimal number ++ codes " DE " ++ pair_text delta.lo delta.hi ++ 32 ∷ verdict_name verdict ++ 10 ∷ []

-- a line for each light, numbered from `number` on
unfoldable pub lights_text : ℕ → List Ends → List Verdict → List ℕ
lights_text number [] verdicts = []
lights_text number (delta ∷ deltas) [] = []
lights_text number (delta ∷ deltas) (verdict ∷ verdicts) = light_text number delta verdict ++ lights_text (number + 1) deltas verdicts

-- a recipe of a job: its dyes, its cost, and its differences under the lights
unfoldable pub recipe_text : Values → RecipeValues → List ℕ
recipe_text job recipe =
    dyes_text job.head.load job.dye recipe.steps ++ codes "cost " ++ decimal recipe.cost ++ 10
    ∷ lights_text 1 recipe.deltas recipe.each

-- the report of one recipe: the recipe, and the verdict on all lights
unfoldable pub show_text : Values → RecipeValues → List ℕ
show_text job recipe = recipe_text job recipe ++ verdict_name recipe.whole ++ 10 ∷ []

-- as many steps as the job has dyes, and as many differences as it has lights
pub record FitsJob (job : Values) (recipe : RecipeValues) : Type 0 where
  pub steps : length recipe.steps ≡ length job.dye
  pub lights : length recipe.deltas ≡ length job.light
