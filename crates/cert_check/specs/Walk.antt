-- The walk over the lines of a tree, one line at a time.
use Rattle.std.specs.Prelude.{◌≡◌, ◌≤◌, ◌+◌, ℕ, zero, suc, Bool, false, Option, Some, None, List, [], ◌∷◌, if◌then◌else◌}
use Rattle.std.specs.List.{AllByRecursion}
use Rattle.box_specs.specs.declared.certificate.CertLine.{CertLine}
use Rattle.box_specs.specs.declared.certificate.CertLine.TheVariants.{Dear, Fail, Limit, Pass, Split, Undecided}
use Rattle.box_specs.specs.declared.certificate.Cutoff.{Cutoff}
use Rattle.box_specs.specs.declared.certificate.Why.{Why}
use Rattle.box_specs.specs.declared.certificate.Why.TheVariants.{NotPoint, WrongList}
use Rattle.box_specs.specs.declared.judged.Judged.{Judged}
use Rattle.box_specs.specs.Judgements.{is_passing, is_undecided}
use Rattle.box_specs.specs.Landscape.{IsSound, Land}
use Rattle.box_specs.specs.Span.{Span, is_single}
use Rattle.box_specs.specs.Splits.{lower_half, upper_half}
use Rattle.box_specs.specs.Validity.{after, is_listed, is_pass_line, is_undecided_line, line_fault, unless}
use Rattle.cert_check.specs.Marks.{MarksMore}

-- why a line does not hold for the first of the waiting boxes
abbrev pub next_fault : Land → Cutoff → (matched listed : List (List ℕ)) → List Span → CertLine → Option Why
next_fault l cutoff matched listed [] line = None
next_fault l cutoff matched listed (b ∷ waiting) line = line_fault l cutoff matched listed b line

-- the boxes that wait after the line
abbrev pub next_waiting : List Span → CertLine → List Span
next_waiting [] line = []
next_waiting (b ∷ waiting) line = after b waiting line

-- the halves of a box that its line splits
abbrev pub halves_by : Span → CertLine → Option (Span × Span)
halves_by b (Split zero mid) = None
halves_by b (Split (suc dye) mid) = Some (lower_half b (record { dye = dye; mid = mid }), upper_half b (record { dye = dye; mid = mid }))
halves_by b (Limit k) = None
halves_by b (Fail j) = None
halves_by b Dear = None
halves_by b Undecided = None
halves_by b Pass = None

-- both halves before the boxes that wait
abbrev pub with_halves : {X : Type 0} → Option (X × X) → List X → List X
with_halves None waiting = waiting
with_halves (Some halves) waiting = halves.0 ∷ halves.1 ∷ waiting

-- the recipe of a box whose line passes a test
abbrev pub recipe_if : Bool → Span → List (List ℕ)
recipe_if passes b = if passes then b.lo ∷ [] else []

abbrev pub next_recipe : (CertLine → Bool) → List Span → CertLine → List (List ℕ)
next_recipe test [] line = []
next_recipe test (b ∷ waiting) line = recipe_if (test line) b

-- a recipe is judged as its line says: undecided, or passing
abbrev pub is_judged_as : CertLine → Judged → Bool
is_judged_as Undecided j = is_undecided j
is_judged_as Pass j = is_passing j
is_judged_as (Split dye mid) j = false
is_judged_as (Limit k) j = false
is_judged_as (Fail k) j = false
is_judged_as Dear j = false

-- why a line of one recipe does not hold: the box has several, the recipe is judged otherwise, or it
-- is not listed
abbrev pub recipe_fault : Bool → Why → List (List ℕ) → Span → Option Why
recipe_fault as_said otherwise listed b = unless (is_single b) NotPoint (unless as_said otherwise (unless (is_listed listed b.lo) WrongList None))

-- at most one box was judged
abbrev pub AtMostOne : (before now : ℕ) → Type 0
AtMostOne before now = now ≤ before + 1

-- What a line that holds changes: the waiting boxes, which stay boxes of the landscape
pub record Advances (l : Land) (line : CertLine) (before now : List Span) : Type 0 where
  pub waiting : now ≡ next_waiting before line
  pub parts : AllByRecursion (IsSound l) now

-- and the mark of its recipe in either list
pub record MarksBoth (line : CertLine) (before : List Span) (passed_old passed_new unsure_old unsure_new : List Bool) (matched listed : List (List ℕ)) : Type 0 where
  pub passed : MarksMore passed_old passed_new (next_recipe is_pass_line before line) matched
  pub unsure : MarksMore unsure_old unsure_new (next_recipe is_undecided_line before line) listed
