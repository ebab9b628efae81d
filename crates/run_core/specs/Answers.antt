-- What a report shows.
use Rattle.std.specs.Prelude.{◌≡◌, ℕ, ◌*◌, ◌<◌, List, [], ◌∷◌, ◌++◌, Option, None, IfSome, flat_map}
use Rattle.interval_specs.specs.Ends.{Ends}
use Rattle.interval_specs.specs.Encloses.{Encloses}
use Rattle.fix_bounds.specs.Scales.{base_unit}
use Rattle.dec_text.specs.FixedPoint.{pair_text}
use Rattle.job_file.specs.Resolve.{ResolvedJob}
use Rattle.metamerism.specs.Verdicts.{light_verdict}
use Rattle.metamerism.specs.declared.outcomes.Verdict.TheVariants.{Fail, Pass}
use Rattle.metamerism.specs.declared.outcomes.Verdict.{Verdict}
use Rattle.run_core.specs.declared.statuses.Conclusion.{Conclusion}
use Rattle.run_core.specs.declared.statuses.Conclusion.TheVariants.{NoVerdict}

-- a quantity that is evaluated with outward rounding: the label of its line, its enclosure at each
-- scale, and its tolerance in thousandths, if it has one
pub record Evaluation : Type 0 where
  pub label : List ℕ
  pub at : ℕ → Ends
  pub tolerance : Option ℕ

-- a quantity without a tolerance
abbrev pub evaluation : List ℕ → (ℕ → Ends) → Evaluation
evaluation label at = record { label = label; at = at; tolerance = None }

-- the verdict on the ends of an evaluation at scale n, against a tolerance in thousandths
abbrev pub verdict_on : Evaluation → ℕ → ℕ → Verdict
verdict_on e tolerance n = light_verdict n tolerance 1 (e.at n)

-- where the verdict by the ends at the base scale is a pass or a fail, that at a finer scale n is
-- the same
abbrev pub VerdictStands : Evaluation → ℕ → Type 0
VerdictStands e n = IfSome e.tolerance (λ t.
    (verdict_on e t base_unit ≡ Pass → verdict_on e t n ≡ Pass) × (verdict_on e t base_unit ≡ Fail 1 → verdict_on e t n ≡ Fail 1))

-- at every finer scale m * 10^12 the enclosure is within that at the base scale, and a pass or a
-- fail stays the same
pub record StandsFiner (e : Evaluation) : Type 0 where
  pub encloses : (m : ℕ) → 0 < m → Encloses m (e.at base_unit) (e.at (m * base_unit))
  pub verdict : (m : ℕ) → 0 < m → VerdictStands e (m * base_unit)

-- one line: a label, and both ends with 12 decimal places
abbrev pub line : List ℕ → Ends → List ℕ
line label e = label ++ 32 ∷ pair_text e.lo e.hi ++ 10 ∷ []

-- the line of an evaluation, at the base scale
abbrev pub line_of : Evaluation → List ℕ
line_of e = line e.label (e.at base_unit)

-- a line for each evaluation
abbrev pub lines_of : List Evaluation → List ℕ
lines_of evaluations = flat_map line_of evaluations

-- a report: how it ends, its text, the evaluations that the text shows, the name and the bytes of
-- the file that is written, if the command writes one, and the job whose recipes were searched or
-- checked, if any were
pub record Report : Type 0 where
  pub conclusion : Conclusion
  pub text : List ℕ
  pub evaluations : List Evaluation
  pub written : Option (List ℕ × List ℕ)
  pub recipes : Option ResolvedJob

-- the report that shows these evaluations and nothing else
abbrev pub plain_report : List Evaluation → Report
plain_report evaluations =
    record { conclusion = NoVerdict; text = lines_of evaluations; evaluations = evaluations; written = None; recipes = None }
