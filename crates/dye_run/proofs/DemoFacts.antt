-- The generated job with a number, as it is read.
use Rattle.std.proofs.Common.{◌≡◌, ◌⊎◌, ◌≤◌, ℕ, List, [], ◌∷◌, length, map, Option, Some, None, All, IfSome, IfOk, IfErr, Result, Ok, Err, refl, sym, ap, ◌∙◌, inl, inr, subst, arith}
use Rattle.std.specs.Global.{Vec}
use Rattle.std.proofs.lemmas.List.Elements.{All-cons, All-nil}
use Rattle.box_cert.specs.Spelling.{Content}
use Rattle.box_specs.specs.declared.certificate.Claim.{Claim}
use Rattle.box_specs.specs.declared.certificate.Claim.TheVariants.{Floor, Match, NoMatch}
use Rattle.cert_laws.specs.Laws.{content_of}
use Rattle.demo_jobs.specs.Accepted.{IsAccepted}
use Rattle.demo_jobs.specs.CurveText.{job_book}
use Rattle.demo_jobs.specs.Dyes.{drawn_dyes}
use Rattle.demo_jobs.specs.Values.{both_weights, job_values, resolved_of}
use Rattle.job_file.specs.Job.{Values}
use Rattle.job_file.specs.JobView.{job_view}
use Rattle.job_file.specs.Resolve.{ResolvedJob}
use Rattle.job_file.specs.declared.job.Job.{Job}
use Rattle.job_file.specs.declared.top.BatchRule.TheVariants.{Without}
use Rattle.shade_report.specs.Outcomes.{GoesWith}
use Rattle.dye_run.specs.Check.{valid_from}
use Rattle.run_core.specs.Endings.{IsSearchable}
use Rattle.dye_run.specs.Files.{FitsFiles, IsShort}
use Rattle.dye_run.specs.Inputs.{table_from}
use Rattle.dye_run.specs.Jobs.{JobTables, job_from, job_tables_from, resolved_from, unless_broken, weights_after}
use Rattle.run_core.specs.Judging.{Gives, stop_outcome}
use Rattle.run_core.specs.Outcome.{Fault, Outcome, refused}
use Rattle.run_core.specs.Answers.{Report}
use Rattle.dye_run.specs.Demo.{matched_cost, summary_text}
use Rattle.dye_run.specs.Search.{conclusion_of, result_for}
use Rattle.run_core.specs.Views.{bytes_view}
use Rattle.run_core.specs.declared.stop.Stop.{Stop}
use Rattle.dye_run.proofs.Headline.{is_valid}
use Rattle.spectral_tables.specs.declared.records.TheConstants.{TABLE_LIMIT}

module _ (drawn text curves first second : List ℕ) (a : IsAccepted drawn text curves first second) where
  abbrev values : Values
  values = job_values (drawn_dyes drawn)

  abbrev tables : JobTables
  tables = record { book = job_book drawn; weights = both_weights }

  pub job_accepted : (name : List ℕ) → job_from Without name (Some text) ≡ Ok (job_values (drawn_dyes drawn))
  unfolding job_from
  job_accepted name = ap (unless_broken name) a.job_read

  pub tables_accepted : job_tables_from (job_values (drawn_dyes drawn)) (Some curves ∷ Some first ∷ Some second ∷ []) ≡ Ok (record { book = job_book drawn; weights = both_weights })
  unfolding job_tables_from weights_after table_from
  tables_accepted = rw (a.curves_read, a.first_read, a.second_read) refl

  pub job_resolves : (name : List ℕ) → resolved_from name (job_values (drawn_dyes drawn)) (record { book = job_book drawn; weights = both_weights }) ≡ Ok (resolved_of drawn)
  job_resolves name = ap (unless_broken name) a.job_resolved

ok_same : {A : Type 0} (step : Result A Fault) (x y : A) → step ≡ Ok x → step ≡ Ok y → x ≡ y
ok_same step x y e f = cc

module _ (drawn text curves first second : List ℕ) (a : IsAccepted drawn text curves first second) where
  pub job_from_slice : (slice : List ℕ) → slice ≡ text → (name : List ℕ) → job_from Without name (Some slice) ≡ Ok (job_values (drawn_dyes drawn))
  job_from_slice slice is name = ap (λ t. job_from Without name (Some t)) is ∙ job_accepted drawn text curves first second a name

  pub job_is : (slice : List ℕ) → slice ≡ text → (name : List ℕ) (j : Values) → job_from Without name (Some slice) ≡ Ok j → j ≡ job_values (drawn_dyes drawn)
  job_is slice is name j e = ok_same (job_from Without name (Some slice)) j (job_values (drawn_dyes drawn)) e (job_from_slice slice is name)

  pub tables_are : (j : Values) (bytes_read : List (Option (List ℕ))) → j ≡ job_values (drawn_dyes drawn) → bytes_read ≡ Some curves ∷ Some first ∷ Some second ∷ []
      → job_tables_from j bytes_read ≡ Ok (record { book = job_book drawn; weights = both_weights })
  tables_are j bytes_read is b = (λ i. job_tables_from (is i) (b i)) ∙ tables_accepted drawn text curves first second a

  pub tables_view_is : (j : Values) (bytes_read : List (Option (List ℕ))) (t : JobTables) → j ≡ job_values (drawn_dyes drawn) → bytes_read ≡ Some curves ∷ Some first ∷ Some second ∷ []
      → job_tables_from j bytes_read ≡ Ok t → t ≡ record { book = job_book drawn; weights = both_weights }
  tables_view_is j bytes_read t is b e = ok_same (job_tables_from j bytes_read) t (record { book = job_book drawn; weights = both_weights }) e (tables_are j bytes_read is b)

  pub resolves : (name : List ℕ) (j : Values) (t : JobTables) → j ≡ job_values (drawn_dyes drawn) → t ≡ record { book = job_book drawn; weights = both_weights } → resolved_from name j t ≡ Ok (resolved_of drawn)
  resolves name j t is e = (λ i. resolved_from name (is i) (e i)) ∙ job_resolves drawn text curves first second a name

-- a step that has a value does not refuse
pub not_refused : {A : Type 0} (why : Option Outcome) (step : Result A Fault) (x : A) → step ≡ Ok x → IfSome why (λ o. (fault : Fault) × (o ≡ refused fault) × (step ≡ Err fault)) → why ≡ None
not_refused (Some o) step x e h = let f = h.2 in cc
not_refused None step x e h = refl

pub not_owned : (why owned : Option Outcome) → (owned ≡ why) ⊎ (owned ≡ None) → why ≡ None → owned ≡ None
not_owned why owned (inl same) none = same ∙ none
not_owned why owned (inr none) h = none

-- the value of a step is that of its definition
pub gives_value : {A X : Type 0} (view : X → A) (result : Result X Stop) (step : Result A Fault) (x : A) → step ≡ Ok x → Gives view result step → IfOk result (λ r. view r ≡ x)
gives_value view (Ok r) step x e gives = ok_same step (view r) x gives e
gives_value view (Err why) step x e gives = tt

pub gives_no_refusal : {A X : Type 0} (view : X → A) (result : Result X Stop) (step : Result A Fault) (x : A) → step ≡ Ok x → Gives view result step → IfErr result (λ why. stop_outcome why ≡ None)
gives_no_refusal view (Ok r) step x e gives = tt
gives_no_refusal view (Err why) step x e gives = not_refused (stop_outcome why) step x e gives

-- ---- the files of a generated job fit it

short_bytes_read : (bytes_read : Option (Vec ℕ)) (text : List ℕ) → bytes_view bytes_read ≡ Some text → length text ≤ 1000000 → IfSome bytes_read (λ bytes. length bytes.items ≤ TABLE_LIMIT)
short_bytes_read (Some b) text e h = let same : b.items ≡ text = cc in subst (λ t. length t ≤ TABLE_LIMIT) (sym same) h
short_bytes_read None text e h = tt

three_files_read : (bytes_read : List (Option (Vec ℕ))) (curves first second : List ℕ) → map bytes_view bytes_read ≡ Some curves ∷ Some first ∷ Some second ∷ [] → length curves ≤ 1000000 → length first ≤ 1000000 → length second ≤ 1000000
    → (length bytes_read ≡ 3) × All IsShort bytes_read
three_files_read [] curves first second e h k l = absurd (let f : [] ≡ Some curves ∷ Some first ∷ Some second ∷ [] = e in cc)
three_files_read (a ∷ []) curves first second e h k l = absurd (let f : bytes_view a ∷ [] ≡ Some curves ∷ Some first ∷ Some second ∷ [] = e in cc)
three_files_read (a ∷ (b ∷ [])) curves first second e h k l = absurd (let f : bytes_view a ∷ (bytes_view b ∷ []) ≡ Some curves ∷ Some first ∷ Some second ∷ [] = e in cc)
three_files_read (a ∷ (b ∷ (c ∷ []))) curves first second e h k l =
    let one : bytes_view a ≡ Some curves = cc in
    let two : bytes_view b ≡ Some first = cc in
    let three : bytes_view c ≡ Some second = cc in
    (refl, All-cons IsShort a (b ∷ (c ∷ [])) (short_bytes_read a curves one h) (All-cons IsShort b (c ∷ []) (short_bytes_read b first two k) (All-cons IsShort c [] (short_bytes_read c second three l) (All-nil IsShort))))
three_files_read (a ∷ (b ∷ (c ∷ (d ∷ rest)))) curves first second e h k l = absurd (let f : bytes_view a ∷ (bytes_view b ∷ (bytes_view c ∷ (bytes_view d ∷ map bytes_view rest))) ≡ Some curves ∷ Some first ∷ Some second ∷ [] = e in cc)

pub generated_fit : (drawn text curves first second : List ℕ) → IsAccepted drawn text curves first second → (job : Job) (bytes_read : List (Option (Vec ℕ))) → job_view job ≡ job_values (drawn_dyes drawn)
    → map bytes_view bytes_read ≡ Some curves ∷ Some first ∷ Some second ∷ [] → FitsFiles (length job.light.items) bytes_read
generated_fit drawn text curves first second a job bytes_read is b =
    let three = three_files_read bytes_read curves first second b a.curves_short a.first_short a.second_short in
    let lights : length job.light.items ≡ 2 = ap (λ j. length j.light) is in
    let count = three.0 in
    record { count = omega (arith, count, lights); short = three.1 }

-- ---- the certificate of a search is not refused

pub never_refused : (r : ResolvedJob) (c : Content) → IsSearchable r → c ≡ content_of (result_for r) → valid_from r c ≡ Ok (content_of (result_for r))
never_refused r c h same = ap (valid_from r) same ∙ is_valid r h

pub same_content : (r : ResolvedJob) (c valid : Content) → IsSearchable r → c ≡ content_of (result_for r) → valid_from r c ≡ Ok valid → valid ≡ content_of (result_for r)
same_content r c valid h same e = ok_same (valid_from r c) valid (content_of (result_for r)) e (never_refused r c h same)

-- ---- the report

abbrev pub demo_report_is : ℕ → ResolvedJob → Report
demo_report_is number r = record { conclusion = conclusion_of (result_for r).claim; text = summary_text number r (result_for r); evaluations = []; written = None; recipes = Some r }

-- there is a cost exactly where there is a match
pub cost_goes : (r : ResolvedJob) (claim : Claim) → GoesWith claim (matched_cost r claim)
cost_goes r (Match recipe) = refl
cost_goes r NoMatch = refl
cost_goes r (Floor cost) = refl
