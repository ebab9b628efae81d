-- The reports of `predict`, `correct`, `check` and `demo` are proper: each writes the file of its
-- command, if there is one, and its enclosures hold those of every finer scale.
use Rattle.std.proofs.Common.{ℕ, List, [], ◌∷◌, Some, None, All, flat_map, refl}
use Rattle.std.proofs.lemmas.List.Elements.{All-append, All-nil}
use Rattle.box_search.specs.Result.{SearchResult}
use Rattle.box_specs.specs.declared.certificate.Claim.{Claim}
use Rattle.box_specs.specs.declared.certificate.Claim.TheVariants.{Floor, Match, NoMatch}
use Rattle.job_file.specs.Resolve.{ResolvedJob}
use Rattle.run_core.specs.Answers.{StandsFiner}
use Rattle.dye_run.specs.Check.{cert_from, check_report, valid_from}
use Rattle.dye_run.specs.Demo.{demo_report}
use Rattle.run_core.specs.Outcome.{outcome_of}
use Rattle.dye_run.specs.Search.{evaluations_of, matched_evaluations, result_for, search_report}
use Rattle.run_core.proofs.Proper.{IsProper, proper_report, proper_then}
use Rattle.dye_run.proofs.ShowLaws.{lights_stand}

recipe_stands : (r : ResolvedJob) (recipe : List ℕ) → All StandsFiner (evaluations_of r recipe)
recipe_stands r recipe = lights_stand r recipe 1 r.job.light r.weights

recipes_stand : (r : ResolvedJob) (recipes : List (List ℕ)) → All StandsFiner (flat_map (evaluations_of r) recipes)
recipes_stand r [] = All-nil StandsFiner
recipes_stand r (recipe ∷ recipes) = All-append StandsFiner (evaluations_of r recipe) (flat_map (evaluations_of r) recipes) (recipe_stands r recipe) (recipes_stand r recipes)

match_stands : (r : ResolvedJob) (claim : Claim) → All StandsFiner (matched_evaluations r claim)
match_stands r (Match recipe) = recipe_stands r recipe.items
match_stands r NoMatch = All-nil StandsFiner
match_stands r (Floor cost) = All-nil StandsFiner

pub search_proper : (cert : List ℕ) (r : ResolvedJob) → IsProper (Some cert) (outcome_of (search_report cert r))
unfolding search_report
search_proper cert r =
    let s : SearchResult = result_for r in
    proper_report refl (All-append StandsFiner (matched_evaluations r s.claim) (flat_map (evaluations_of r) s.listed) (match_stands r s.claim) (recipes_stand r s.listed))

pub check_proper : (r : ResolvedJob) (text : List ℕ) → IsProper None (outcome_of (check_report r text))
unfolding check_report
check_proper r text = proper_then (cert_from _ text) _ (λ content. proper_then (valid_from r content) _ (λ valid. proper_report refl (All-nil StandsFiner)))

pub demo_proper : (number : ℕ) (r : ResolvedJob) → IsProper None (outcome_of (demo_report number r))
unfolding demo_report
demo_proper number r = proper_report refl (All-nil StandsFiner)
