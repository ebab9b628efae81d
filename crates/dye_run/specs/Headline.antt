-- What a command that searches or checks claims about the recipes of a job, in terms of the
-- recipes: the plain list of them, their costs, limits and verdicts.
use Rattle.std.specs.Prelude.{◌≡◌, ◌⊎◌, ◌*◌, ◌<◌, ◌≤◌, ℕ, true, min, List, [], length, map, option_map, Option, Some, None, Ok}
use Rattle.std.specs.Io.KnownBytes.{append_known}
use Rattle.std.specs.List.{AllZip}
use Rattle.box_cert.specs.Spelling.{Content, cert_text}
use Rattle.box_cert.specs.Text.{cert_of}
use Rattle.box_specs.specs.Answer.{IsAnswer, is_match}
use Rattle.box_specs.specs.Canonical.{IsCanonical}
use Rattle.box_specs.specs.declared.certificate.CertLine.{CertLine}
use Rattle.box_specs.specs.declared.certificate.Claim.{Claim}
use Rattle.box_specs.specs.Landscape.{Land}
use Rattle.box_specs.specs.Meaning.{Means}
use Rattle.box_specs.specs.Span.{IsWithin}
use Rattle.box_specs.specs.Tree.{need}
use Rattle.box_specs.specs.Validity.{IsValid}
use Rattle.cert_laws.specs.Laws.{ClaimHolds}
use Rattle.interval_specs.specs.Encloses.{Encloses}
use Rattle.job_file.specs.Resolve.{ResolvedJob}
use Rattle.job_file.specs.declared.top.BatchRule.{BatchRule}
use Rattle.metamerism.specs.declared.outcomes.Verdict.{Verdict}
use Rattle.recipe_judge.specs.Evaluation.{differences_at}
use Rattle.recipe_judge.specs.Recipes.{recipe_land}
use Rattle.shade_report.specs.Outcomes.{accepted_text, demo_text, outcome_text}
use Rattle.shade_report.specs.Recipes.{RecipeValues, verdict_name}
use Rattle.shelf_io.specs.Contents.{Contents}
use Rattle.fix_bounds.specs.Scales.{base_unit}
use Rattle.run_core.specs.Answers.{Evaluation, verdict_on}
use Rattle.dye_run.specs.Check.{accepted_report, check_rule}
use Rattle.dye_run.specs.Commands as task
use Rattle.dye_run.specs.Commands.{asking_of, task_of}
use Rattle.dye_run.specs.Demo.{demo_job, matched_cost}
use Rattle.run_core.specs.Due.{CanBeRead}
use Rattle.run_core.specs.Endings.{World, with_written}
use Rattle.dye_run.specs.Forms.{Form, check}
use Rattle.dye_run.specs.Jobs.{reads_job}
use Rattle.run_core.specs.Outcome.{conclusion_status, reported}
use Rattle.run_core.specs.Reading.{Gets, result_of}
use Rattle.dye_run.specs.Search.{conclusion_of, evaluations_of, matched_values}
use Rattle.dye_run.specs.Show.{recipe_values}
use Rattle.dye_run.specs.Words.{CertWords}
use Rattle.box_cert.specs.declared.read.TheConstants.{CERT_LIMIT}

-- a job is that of the files: it is resolved from the bytes read from the file with this name, from
-- its curve file and from the weights files of its lights
abbrev pub IsJobOfFiles : Option Contents → BatchRule → List ℕ → ResolvedJob → Type 0
IsJobOfFiles contents rule name r = Gets contents (reads_job rule name None) (Ok (record { job = r; text = [] }))

-- over these files, with the certificate written, `check` accepts the certificate
abbrev pub CheckAccepts : Option Contents → CertWords → ResolvedJob → Claim → Type 0
CheckAccepts contents words job claim =
    (c : Contents) → contents ≡ Some c → result_of c.file (asking_of (check words)) ≡ Ok (reported (accepted_report job claim))

-- a search ends with this status exactly where what it stands for holds: 0, that a recipe keeps the
-- limits and passes, and the budget suffices; 5, that there is none, and it suffices; 6, that it
-- does not
pub record TellsExactly (l : Land) (budget status : ℕ) : Type 0 where
  pub found : (recipe : List ℕ) → IsWithin recipe l.top → is_match l recipe ≡ true → need l ≤ budget → status ≡ 0
  pub none : IsAnswer l None → need l ≤ budget → status ≡ 5
  pub floor : budget < need l → status ≡ 6

-- A search ended with this status: 0 with a match, 5 with none, 6 with a floor. The converse is
-- `exact`.
-- `holds`: the match is the first recipe of the plain list, by cost and then by steps, that keeps
-- the limits and passes; or there is none; or the budget did not suffice, and every recipe that
-- keeps the limits and passes costs at least the floor.
-- `means`: a recipe that keeps the limits fails or is listed: under a match each one before it,
-- under no match each one, under a floor each one that costs less. Each listed recipe keeps the
-- limits and is undecided.
-- As many boxes were judged as are needed, or as the budget allows; the certificate is the canonical
-- one of the budget, and valid.
-- The report and the certificate are printed and written, and `check` accepts the certificate
pub record Finds (rule : BatchRule) (words : CertWords) (before after : World) (status : ℕ) : Type 0 where
  pub job : ResolvedJob
  pub claim : Claim
  pub listed : List (List ℕ)
  pub lines : List CertLine
  pub boxes : ℕ
  pub from_files : IsJobOfFiles before.shelf.contents rule words.job job
  pub ends : conclusion_status (conclusion_of claim) ≡ status
  pub exact : TellsExactly (recipe_land job) job.job.head.budget status
  pub holds : ClaimHolds (recipe_land job) job.job.head.budget claim
  pub judged : boxes ≡ min (need (recipe_land job)) job.job.head.budget
  pub canonical : IsCanonical (recipe_land job) job.job.head.budget claim listed lines boxes
  pub valid : IsValid (recipe_land job) claim listed lines
  pub means : Means (recipe_land job) listed claim
  pub printed : after.sink.taken ≡ append_known before.sink.taken (outcome_text job.job claim boxes (matched_values job claim) (map (recipe_values job) listed))
  pub written : after.shelf.contents ≡ with_written (Some (words.cert, cert_text (record { claim = claim; listed = listed; lines = lines }))) before.shelf.contents
  pub checked : CheckAccepts after.shelf.contents words job claim

-- A check accepted the certificate that a file spells: it is valid, and what it claims of the plain
-- list of recipes holds
pub record Confirms (words : CertWords) (before after : World) : Type 0 where
  pub job : ResolvedJob
  pub cert : Content
  pub text : List ℕ
  pub from_files : IsJobOfFiles before.shelf.contents check_rule words.job job
  pub text_from_file : CanBeRead before.shelf.contents words.cert CERT_LIMIT (Some text)
  pub spells : cert_of (length (recipe_land job).top.lo) text ≡ Ok cert
  pub valid : IsValid (recipe_land job) cert.claim cert.listed cert.lines
  pub means : Means (recipe_land job) cert.listed cert.claim
  pub printed : after.sink.taken ≡ append_known before.sink.taken (accepted_text cert.claim)

-- A summary of the search among the recipes of the generated job of a number, whose certificate is
-- valid
pub record Summarises (number : ℕ) (before after : World) (status : ℕ) : Type 0 where
  pub claim : Claim
  pub listed : List (List ℕ)
  pub lines : List CertLine
  pub boxes : ℕ
  pub ends : conclusion_status (conclusion_of claim) ≡ status
  pub exact : TellsExactly (recipe_land (demo_job number)) (demo_job number).job.head.budget status
  pub judged : boxes ≡ min (need (recipe_land (demo_job number))) (demo_job number).job.head.budget
  pub canonical : IsCanonical (recipe_land (demo_job number)) (demo_job number).job.head.budget claim listed lines boxes
  pub holds : ClaimHolds (recipe_land (demo_job number)) (demo_job number).job.head.budget claim
  pub valid : IsValid (recipe_land (demo_job number)) claim listed lines
  pub means : Means (recipe_land (demo_job number)) listed claim
  pub printed : after.sink.taken ≡ append_known before.sink.taken (demo_text number claim (length listed) (length lines) boxes (matched_cost (demo_job number) claim))

-- the statuses of a search that ended
abbrev pub IsSearchStatus : ℕ → Type 0
IsSearchStatus status = (status ≡ 0) ⊎ ((status ≡ 5) ⊎ (status ≡ 6))

-- the verdict of an evaluation is this one, where lights that fail are not told apart
abbrev pub IsVerdictOf : Evaluation → Verdict → Type 0
IsVerdictOf e verdict = (t : ℕ) × (e.tolerance ≡ Some t) × (verdict_name verdict ≡ verdict_name (verdict_on e t base_unit))

-- the differences of a recipe, and the verdict on each, are those of the evaluations
pub record AreEvaluated (values : RecipeValues) (evaluations : List Evaluation) : Type 0 where
  pub ends : values.deltas ≡ map (λ e. e.at base_unit) evaluations
  pub verdicts : AllZip IsVerdictOf evaluations values.each

-- What the status of a command that searches or checks means for the recipes, by its task.
-- `evaluated`: the ends that are printed of a recipe, and whether it passes, fails or is undecided
-- under each light, are those of its evaluations. `finer`: the differences that are printed of a
-- recipe enclose those at every finer scale m * 10^12
pub record SaysOfRecipes (form : Option Form) (before after : World) (status : ℕ) : Type 0 where
  pub finds : (rule : BatchRule) (words : CertWords) → option_map task_of form ≡ Some (task.finds rule words) → IsSearchStatus status → Finds rule words before after status
  pub confirms : (words : CertWords) → option_map task_of form ≡ Some (task.confirms words) → status ≡ 0 → Confirms words before after
  pub summarises : (number : ℕ) → option_map task_of form ≡ Some (task.summarises number) → IsSearchStatus status → Summarises number before after status
  pub evaluated : (job : ResolvedJob) (recipe : List ℕ) → AreEvaluated (recipe_values job recipe) (evaluations_of job recipe)
  pub finer : (job : ResolvedJob) (recipe : List ℕ) (m : ℕ) → 0 < m → AllZip (Encloses m) (recipe_values job recipe).deltas (differences_at (m * base_unit) job recipe recipe)
