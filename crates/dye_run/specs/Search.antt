-- `predict` and `correct`: the first recipe of a job that keeps the limits and passes, with the
-- certificate that shows it.
use Rattle.std.specs.Prelude.{ℕ, List, [], ◌++◌, flat_map, map, Option, Some, None, Result, Ok}
use Rattle.box_cert.specs.Spelling.{cert_text}
use Rattle.box_search.specs.Result.{SearchResult, search_result}
use Rattle.box_specs.specs.declared.certificate.Claim.{Claim}
use Rattle.box_specs.specs.declared.certificate.Claim.TheVariants.{Floor, Match, NoMatch}
use Rattle.cert_laws.specs.Laws.{content_of}
use Rattle.job_file.specs.Resolve.{ResolvedJob}
use Rattle.recipe_judge.specs.Recipes.{recipe_land}
use Rattle.shade_report.specs.Outcomes.{outcome_text}
use Rattle.shade_report.specs.Recipes.{RecipeValues}
use Rattle.run_core.specs.Answers.{Evaluation, Report}
use Rattle.run_core.specs.Outcome.{Fault}
use Rattle.dye_run.specs.Show.{light_evaluations, recipe_values}
use Rattle.run_core.specs.declared.statuses.Conclusion.{Conclusion}
use Rattle.run_core.specs.declared.statuses.Conclusion.TheVariants as conclusion

-- the result of the search among the recipes of a job, within the job's budget
abbrev pub result_for : ResolvedJob → SearchResult
result_for r = search_result (recipe_land r) r.job.head.budget

abbrev pub conclusion_of : Claim → Conclusion
conclusion_of (Match recipe) = conclusion.Found
conclusion_of NoMatch = conclusion.NoneFound
conclusion_of (Floor cost) = conclusion.BudgetEnded

-- the recipe of a match
abbrev pub claimed_recipe : Claim → Option (List ℕ)
claimed_recipe (Match recipe) = Some recipe.items
claimed_recipe NoMatch = None
claimed_recipe (Floor cost) = None

abbrev pub matched_values : ResolvedJob → Claim → Option RecipeValues
matched_values r (Match recipe) = Some (recipe_values r recipe.items)
matched_values r NoMatch = None
matched_values r (Floor cost) = None

-- the differences of a recipe under the lights of the job
abbrev pub evaluations_of : ResolvedJob → List ℕ → List Evaluation
evaluations_of r recipe = light_evaluations r recipe 1 r.job.light r.weights

abbrev pub matched_evaluations : ResolvedJob → Claim → List Evaluation
matched_evaluations r (Match recipe) = evaluations_of r recipe.items
matched_evaluations r NoMatch = []
matched_evaluations r (Floor cost) = []

-- the report on the result of a search: its claim, and the undecided recipes
abbrev pub result_report : List ℕ → ResolvedJob → SearchResult → Report
result_report cert r s = record {
  conclusion = conclusion_of s.claim;
  text = outcome_text r.job s.claim s.boxes (matched_values r s.claim) (map (recipe_values r) s.listed);
  evaluations = matched_evaluations r s.claim ++ flat_map (evaluations_of r) s.listed;
  written = Some (cert, cert_text (content_of s));
  recipes = Some r;
}

-- the report of the search among the recipes of a job, which writes its certificate under a name
unfoldable pub search_report : List ℕ → ResolvedJob → Result Report Fault
search_report cert r = Ok (result_report cert r (result_for r))
