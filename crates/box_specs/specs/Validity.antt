-- When a certificate is valid, and where one that is not fails first.
use Rattle.std.specs.Prelude.{◌≡◌, ◌↔◌, ◌+◌, ◌&&◌, ℕ, zero, suc, All, Bool, true, false, nat_le, Option, Some, None, List, [], ◌∷◌, length, if◌then◌else◌}
use Rattle.std.specs.List.{Contains, list_any}
use Rattle.box_specs.specs.declared.certificate.CertLine.{CertLine}
use Rattle.box_specs.specs.declared.certificate.CertLine.TheVariants.{Dear, Fail, Limit, Pass, Split, Undecided}
use Rattle.box_specs.specs.declared.certificate.Claim.{Claim}
use Rattle.box_specs.specs.declared.certificate.Claim.TheVariants.{Floor, Match, NoMatch}
use Rattle.box_specs.specs.declared.certificate.Cutoff.{Cutoff}
use Rattle.box_specs.specs.declared.certificate.Cutoff.TheVariants.{After, From, Never}
use Rattle.box_specs.specs.declared.certificate.Why.{Why}
use Rattle.box_specs.specs.declared.certificate.Why.TheVariants.{BadSplit, NotDear, NotFailing, NotLimit, NotPassing, NotPoint, NotUndecided, WrongList}
use Rattle.box_specs.specs.Answer.{is_match}
use Rattle.box_specs.specs.Landscape.{Grade, Land, fails, is_admitted, is_before, passes, unsure}
use Rattle.box_specs.specs.Order.{IsRising}
use Rattle.box_specs.specs.Span.{IsBox, IsWithin, Span, is_single, same_steps}
use Rattle.box_specs.specs.Splits.{is_cut, lower_half, upper_half}

-- the lines are the given number of whole trees, one after the other: a split replaces a tree by
-- two, and any other line ends one
abbrev pub are_trees : ℕ → List CertLine → Bool
are_trees zero [] = true
are_trees (suc trees) [] = false
are_trees zero (line ∷ lines) = false
are_trees (suc trees) (Split dye mid ∷ lines) = are_trees (suc (suc trees)) lines
are_trees (suc trees) (Limit k ∷ lines) = are_trees trees lines
are_trees (suc trees) (Fail j ∷ lines) = are_trees trees lines
are_trees (suc trees) (Dear ∷ lines) = are_trees trees lines
are_trees (suc trees) (Undecided ∷ lines) = are_trees trees lines
are_trees (suc trees) (Pass ∷ lines) = are_trees trees lines

-- a recipe is listed
abbrev pub is_listed : List (List ℕ) → List ℕ → Bool
is_listed listed steps = list_any (same_steps steps) listed

abbrev pub is_unsure : Grade → Bool
is_unsure passes = false
is_unsure fails = false
is_unsure unsure = true

-- a box can be split as a line says, which names a dye by its number from 1
abbrev pub splits : Span → ℕ → ℕ → Bool
splits b zero mid = false
splits b (suc dye) mid = is_cut b (record { dye = dye; mid = mid })

-- the boxes that wait for their lines, once the first of them has its line: the halves of one that
-- is split, and the others
abbrev pub after : Span → List Span → CertLine → List Span
after b waiting (Split zero mid) = waiting
after b waiting (Split (suc dye) mid) = lower_half b (record { dye = dye; mid = mid }) ∷ upper_half b (record { dye = dye; mid = mid }) ∷ waiting
after b waiting (Limit k) = waiting
after b waiting (Fail j) = waiting
after b waiting Dear = waiting
after b waiting Undecided = waiting
after b waiting Pass = waiting

-- the lower corners of the boxes whose lines pass a test
abbrev pub corners : (CertLine → Bool) → List Span → List CertLine → List (List ℕ)
corners test waiting [] = []
corners test [] (line ∷ lines) = []
corners test (b ∷ waiting) (line ∷ lines) =
    if test line then b.lo ∷ corners test (after b waiting line) lines else corners test (after b waiting line) lines

abbrev pub is_undecided_line : CertLine → Bool
is_undecided_line Undecided = true
is_undecided_line (Split dye mid) = false
is_undecided_line (Limit k) = false
is_undecided_line (Fail j) = false
is_undecided_line Dear = false
is_undecided_line Pass = false

abbrev pub is_pass_line : CertLine → Bool
is_pass_line Pass = true
is_pass_line (Split dye mid) = false
is_pass_line (Limit k) = false
is_pass_line (Fail j) = false
is_pass_line Dear = false
is_pass_line Undecided = false

-- the recipes that a claim says pass
abbrev pub matched_of : Claim → List (List ℕ)
matched_of (Match recipe) = recipe.items ∷ []
matched_of NoMatch = []
matched_of (Floor cost) = []

-- the boxes that a claim says nothing of
abbrev pub cutoff_of : Claim → Cutoff
cutoff_of (Match recipe) = After recipe
cutoff_of NoMatch = Never
cutoff_of (Floor cost) = From cost

module _ (l : Land) where
  -- a box is too dear: its lower corner comes after a recipe, or costs at least so much
  abbrev pub is_dear : Cutoff → Span → Bool
  is_dear (After recipe) b = is_before l recipe.items b.lo
  is_dear (From cost) b = nat_le cost (l.cost b.lo)
  is_dear Never b = false

  -- a recipe comes before that of the cutoff, if it has one
  abbrev pub is_early : Cutoff → List ℕ → Bool
  is_early (After recipe) steps = is_before l steps recipe.items
  is_early (From cost) steps = true
  is_early Never steps = true

module _ (l : Land) (cutoff : Cutoff) (matched listed : List (List ℕ)) where
  -- a line holds for its box
  abbrev pub holds : Span → CertLine → Bool
  holds b (Split dye mid) = splits b dye mid
  holds b (Limit k) = l.excluded k b
  holds b (Fail j) = l.failing j b
  holds b Dear = is_dear l cutoff b
  holds b Undecided = is_single b && (is_admitted l b.lo && is_unsure (l.grade b.lo)) && is_listed listed b.lo
  holds b Pass = is_single b && is_match l b.lo && is_listed matched b.lo

  -- each line holds for its box, where these boxes wait for their lines
  abbrev pub AllHold : List Span → List CertLine → Type 0
  AllHold waiting [] = Unit {0}
  AllHold [] (line ∷ lines) = Unit {0}
  AllHold (b ∷ waiting) (line ∷ lines) = (holds b line ≡ true) × AllHold (after b waiting line) lines

module _ (l : Land) where
  -- the recipes are of the grid and in rising order, and each is that of a line that passes a test
  pub record HaveLines (test : CertLine → Bool) (lines : List CertLine) (recipes : List (List ℕ)) : Type 0 where
    pub grid : All (λ steps. IsWithin steps l.top) recipes
    pub rising : IsRising l recipes
    pub each : All (Contains (corners test (l.top ∷ []) lines)) recipes

  -- A certificate is valid for lists of recipes that pass and that are undecided: its lines are one
  -- whole tree and hold for their boxes, the recipes of both lists have their lines, and those that
  -- are undecided come before the cutoff
  pub record IsValidFor (cutoff : Cutoff) (matched listed : List (List ℕ)) (lines : List CertLine) : Type 0 where
    pub whole : are_trees 1 lines ≡ true
    pub hold : AllHold l cutoff matched listed (l.top ∷ []) lines
    pub passing : HaveLines is_pass_line lines matched
    pub undecided : HaveLines is_undecided_line lines listed
    pub early : All (λ steps. is_early l cutoff steps ≡ true) listed

  abbrev pub IsValid : Claim → List (List ℕ) → List CertLine → Type 0
  IsValid claim listed lines = IsValidFor (cutoff_of claim) (matched_of claim) listed lines

-- each number of a recipe lies in the range of its dye
abbrev pub is_within : List ℕ → (low high : List ℕ) → Bool
is_within [] [] high = true
is_within [] (l ∷ low) high = false
is_within (n ∷ steps) [] high = false
is_within (n ∷ steps) (l ∷ low) [] = false
is_within (n ∷ steps) (l ∷ low) (h ∷ high) = nat_le l n && nat_le n h && is_within steps low high

-- this failure where a test does not hold, and else the next one, if there is one
abbrev pub unless : Bool → Why → Option Why → Option Why
unless holds why next = if holds then next else Some why

-- a failure at a line, if there is one
abbrev pub at_line : ℕ → Option Why → Option (ℕ × Why)
at_line number None = None
at_line number (Some why) = Some (number, why)

-- the first of two failures
abbrev pub or_next : Option (ℕ × Why) → Option (ℕ × Why) → Option (ℕ × Why)
or_next None next = next
or_next (Some failure) next = Some failure

module _ (l : Land) (cutoff : Cutoff) (matched listed : List (List ℕ)) where
  -- why the line of a box does not hold
  abbrev pub line_fault : Span → CertLine → Option Why
  line_fault b (Split dye mid) = unless (splits b dye mid) BadSplit None
  line_fault b (Limit k) = unless (l.excluded k b) NotLimit None
  line_fault b (Fail j) = unless (l.failing j b) NotFailing None
  line_fault b Dear = unless (is_dear l cutoff b) NotDear None
  line_fault b Undecided =
      unless (is_single b) NotPoint (unless (is_admitted l b.lo && is_unsure (l.grade b.lo)) NotUndecided (unless (is_listed listed b.lo) WrongList None))
  line_fault b Pass =
      unless (is_single b) NotPoint (unless (is_match l b.lo) NotPassing (unless (is_listed matched b.lo) WrongList None))

  -- the first line that does not hold, with its number, where these boxes wait for their lines
  abbrev pub line_failure : ℕ → List Span → List CertLine → Option (ℕ × Why)
  line_failure number waiting [] = None
  line_failure number [] (line ∷ lines) = None
  line_failure number (b ∷ waiting) (line ∷ lines) =
      or_next (at_line number (line_fault b line)) (line_failure (number + 1) (after b waiting line) lines)

module _ (l : Land) where
  abbrev pub is_in_grid : List ℕ → Bool
  is_in_grid steps = is_within steps l.top.lo l.top.hi

  -- a recipe comes after the previous one of the list, if there is one
  abbrev pub is_later : Option (List ℕ) → List ℕ → Bool
  is_later None steps = true
  is_later (Some previous) steps = is_before l previous steps

  -- the first recipe of a list that is not of the grid, or not after the previous one, or does not
  -- come before the cutoff; the number is that of the line of the first
  abbrev pub list_failure : Cutoff → ℕ → Option (List ℕ) → List (List ℕ) → Option (ℕ × Why)
  list_failure cutoff number previous [] = None
  list_failure cutoff number previous (steps ∷ rest) =
      if is_in_grid steps && is_later previous steps && is_early l cutoff steps then list_failure cutoff (number + 1) (Some steps) rest
      else Some (number, WrongList)

  -- the first recipe of a list that is not among the marked ones
  abbrev pub unmarked_failure : List (List ℕ) → ℕ → List (List ℕ) → Option (ℕ × Why)
  unmarked_failure marked number [] = None
  unmarked_failure marked number (steps ∷ rest) =
      if is_listed marked steps then unmarked_failure marked (number + 1) rest else Some (number, WrongList)

  -- The first failure of a certificate, in the order of the checks: of the recipe of a match, which
  -- is in line 2; of the listed recipes, which begin in line 4; of the lines of the tree, which
  -- follow them; of the listed recipes against those lines; and of the match against them
  abbrev pub first_failure : Claim → List (List ℕ) → List CertLine → Option (ℕ × Why)
  first_failure claim listed lines =
      or_next (list_failure Never 2 None (matched_of claim))
      (or_next (list_failure (cutoff_of claim) 4 None listed)
      (or_next (line_failure l (cutoff_of claim) (matched_of claim) listed (4 + length listed) (l.top ∷ []) lines)
      (or_next (unmarked_failure (corners is_undecided_line (l.top ∷ []) lines) 4 listed)
      (unmarked_failure (corners is_pass_line (l.top ∷ []) lines) 2 (matched_of claim)))))

  -- a certificate of one whole tree is valid exactly where nothing fails
  abbrev pub FailsUnlessValid : Type 0
  FailsUnlessValid =
      IsBox l.top → (claim : Claim) (listed : List (List ℕ)) (lines : List CertLine)
      → IsValid l claim listed lines ↔ (are_trees 1 lines ≡ true) × (first_failure claim listed lines ≡ None)
