-- The possible outcomes of a command over its files: a report that writes the command's file, if it
-- has one, and whose enclosures hold at every finer scale, or a refusal.
use Rattle.std.proofs.Common.{◌≡◌, ℕ, List, Option, Result, Ok, Err, All, IfOk, Some, None, refl, sym, ap, ◌∙◌, subst, inl, inr}
use Rattle.shelf_io.specs.Contents.{Contents}
use Rattle.shelf_io.specs.View.{ShelfView}
use Rattle.run_core.specs.Answers.{Report, StandsFiner}
use Rattle.run_core.specs.Asking.{reports_on}
use Rattle.run_core.specs.Asking.{◌>>=◌}
use Rattle.run_core.specs.Endings.{Reaches}
use Rattle.run_core.specs.Judging.{IsJudged, file_view}
use Rattle.run_core.specs.Outcome.{Fault, Outcome, outcome_of, refused, reported}
use Rattle.run_core.specs.Plan.{Plan, name_of}
use Rattle.run_core.specs.Reading.{Gets, Reading, makes}
use Rattle.run_core.specs.declared.report.Report as code
use Rattle.run_core.specs.declared.stop.Stop.{Stop}
use Rattle.run_core.proofs.Readings.{then_got}

pub data IsProper (by : Option (List ℕ)) (o : Outcome) : Type 0 where
  report : (r : Report) → o ≡ reported r → name_of r.written ≡ by → All StandsFiner r.evaluations → IsProper by o
  refusal : (fault : Fault) → o ≡ refused fault → IsProper by o

pub proper_report : {by : Option (List ℕ)} {r : Report} → name_of r.written ≡ by → All StandsFiner r.evaluations → IsProper by (reported r)
proper_report {by} {r} w v = report r refl w v

pub proper_then : {A : Type 0} {by : Option (List ℕ)} (step : Result A Fault) (next : A → Result Report Fault) → ((x : A) → IsProper by (outcome_of (next x))) → IsProper by (outcome_of (step >>= next))
proper_then (Ok x) next h = h x
proper_then (Err fault) next h = refusal fault refl

-- the possible outcomes of a command that reports on what was made of its files
pub proper_reading : {X : Type 0} {by : Option (List ℕ)} (contents : Option Contents) (reading : Reading (Result X Fault)) (judged : X → Result Report Fault) (o : Outcome) → ((x : X) → IsProper by (outcome_of (judged x))) → Gets contents (reports_on reading judged) o → IsProper by o
proper_reading {X} {by} contents reading judged o proper w =
    let r = then_got contents reading (λ made. makes (outcome_of (made >>= judged))) o w in subst (IsProper by) (sym r.2) (proper_then r.0 judged proper)

-- the possible outcomes of a plan are proper
abbrev pub AreProper : Option Contents → Option Plan → Type 0
AreProper contents None = Unit {0}
AreProper contents (Some plan) = (o : Outcome) → Gets contents plan.asking o → IsProper plan.writes o

-- the file of a report that is a proper outcome has the name `by`
own_of : {by : Option (List ℕ)} (o : Outcome) → IsProper by o → (r : Report) → o ≡ reported r → name_of r.written ≡ by
own_of o (report p e own finer) r is = let same : p ≡ r = cc in ap (λ q. name_of q.written) (sym same) ∙ own
own_of o (refusal fault e) r is = cc

-- the file of the report has the name that the plan writes under
pub own_name : (plan : Plan) (before after : ShelfView) (r : Report) (file : Option (List ℕ × List ℕ)) → AreProper before.contents (Some plan) → Reaches plan.asking before after (reported r) → file ≡ r.written → name_of file ≡ plan.writes
own_name plan before after r file proper (inl w) e = ap name_of e ∙ own_of (reported r) (proper (reported r) w) r refl
own_name plan before after r file proper (inr u) e = let is = u.2 in cc

-- so has that of a report that the code made
pub own_judged : (plan : Plan) (before after : ShelfView) (result : Result code.Report Stop) → AreProper before.contents (Some plan) → IsJudged plan.asking before after result → IfOk result (λ made. name_of (file_view made.written) ≡ plan.writes)
own_judged plan before after (Ok made) proper judged = own_name plan before after judged.0 (file_view made.written) proper judged.1 judged.2.written
own_judged plan before after (Err why) proper judged = tt
