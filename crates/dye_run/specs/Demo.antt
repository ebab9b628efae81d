-- `demo`: a summary of the search among the recipes of a generated job.
use Rattle.std.specs.Prelude.{ℕ, List, [], ◌∷◌, length, Option, Some, None, Result, Ok}
use Rattle.box_search.specs.Result.{SearchResult}
use Rattle.box_specs.specs.declared.certificate.Claim.{Claim}
use Rattle.box_specs.specs.declared.certificate.Claim.TheVariants.{Floor, Match, NoMatch}
use Rattle.demo_jobs.specs.Draws.{draws}
use Rattle.demo_jobs.specs.Values.{resolved_of}
use Rattle.job_file.specs.Resolve.{ResolvedJob}
use Rattle.price_grid.specs.Cost.{cost_of}
use Rattle.shade_report.specs.Outcomes.{demo_text}
use Rattle.run_core.specs.Answers.{Report}
use Rattle.run_core.specs.Outcome.{Fault}
use Rattle.dye_run.specs.Search.{conclusion_of, result_for}
use Rattle.dye_run.specs.Words.{number_in}

-- NUMBER, 0 to 999,999
abbrev pub demo_words : List (List ℕ) → Option ℕ
demo_words (word ∷ []) = number_in 0 999999 word
demo_words words = None

-- the generated job with a number, resolved over its files
abbrev pub demo_job : ℕ → ResolvedJob
demo_job number = resolved_of (draws number)

-- the cost of a match
abbrev pub matched_cost : ResolvedJob → Claim → Option ℕ
matched_cost r (Match recipe) = Some (cost_of r.grid recipe.items)
matched_cost r NoMatch = None
matched_cost r (Floor cost) = None

abbrev pub summary_text : ℕ → ResolvedJob → SearchResult → List ℕ
summary_text number r s = demo_text number s.claim (length s.listed) (length s.lines) s.boxes (matched_cost r s.claim)

-- the summary of the search among the recipes of a job
unfoldable pub demo_report : ℕ → ResolvedJob → Result Report Fault
demo_report number r = Ok (record {
  conclusion = conclusion_of (result_for r).claim;
  text = summary_text number r (result_for r);
  evaluations = [];
  written = None;
  recipes = Some r;
})
