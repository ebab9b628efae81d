-- The certificate of the search.
use Rattle.std.specs.Prelude.{◌≡◌, ◌⊎◌, ◌+◌, ◌<◌, ◌≤◌, ℕ, All, Bool, min, nat_lt, Some, None, List, [], ◌∷◌, ◌++◌, if◌then◌else◌}
use Rattle.std.specs.List.{Contains}
use Rattle.box_specs.specs.declared.certificate.CertLine.{CertLine}
use Rattle.box_specs.specs.declared.certificate.CertLine.TheVariants as line
use Rattle.box_specs.specs.declared.certificate.Claim.{Claim}
use Rattle.box_specs.specs.declared.certificate.Claim.TheVariants.{Floor, Match, NoMatch}
use Rattle.box_specs.specs.declared.judged.Judged.{Judged}
use Rattle.box_specs.specs.declared.judged.Judged.TheVariants.{Fail, Limit, Pass, StillOpen, Undecided}
use Rattle.box_specs.specs.Answer.{answer_of}
use Rattle.box_specs.specs.Landscape.{Land, judgement}
use Rattle.box_specs.specs.Order.{IsRising}
use Rattle.box_specs.specs.Span.{Span}
use Rattle.box_specs.specs.Splits.{CutAt, cut_of}
use Rattle.box_specs.specs.Tree.{Tree, fork, leaf, need, rank, root, spot_of, tree_of}
use Rattle.box_specs.specs.Validity.{corners, is_undecided_line}

-- the line of a box that was judged
abbrev pub line_by : Judged → CutAt → CertLine
line_by (Limit k) cut = line.Limit k
line_by (Fail j) cut = line.Fail j
line_by StillOpen cut = line.Split (cut.dye + 1) cut.mid
line_by Pass cut = line.Pass
line_by Undecided cut = line.Undecided

module _ (l : Land) where
  abbrev pub line_of : Span → CertLine
  line_of b = line_by (judgement l b) (cut_of b)

  -- the lines of a tree: a box that was not judged is too dear, and the boxes below it have no
  -- lines
  abbrev pub lines : (ℕ → Span → Bool) → ℕ → Tree → List CertLine
  lines judged depth (leaf b) = (if judged depth b then line_of b else line.Dear) ∷ []
  lines judged depth (fork b lower upper) =
      if judged depth b then line_of b ∷ lines judged (depth + 1) lower ++ lines judged (depth + 1) upper else line.Dear ∷ []

  -- a box is judged if fewer than the given number of boxes come before it
  abbrev pub is_judged : ℕ → ℕ → Span → Bool
  is_judged boxes depth b = nat_lt (rank l (spot_of l depth b)) boxes

  abbrev pub canonical_lines : ℕ → List CertLine
  canonical_lines boxes = lines (is_judged boxes) 0 (tree_of l)

  -- u is a subtree, at the depth d, of a tree whose root has the given depth
  abbrev pub IsPart : Tree → ℕ → ℕ → Tree → Type 0
  IsPart (leaf b) depth d u = (depth ≡ d) × (leaf b ≡ u)
  IsPart (fork b lower upper) depth d u = ((depth ≡ d) × (fork b lower upper ≡ u)) ⊎ (IsPart lower (depth + 1) d u ⊎ IsPart upper (depth + 1) d u)

  -- where more boxes are needed than the budget allows: the cost of the lower corner of the first
  -- box that was not judged, which has exactly `budget` boxes before it
  abbrev pub IsFloor : (budget needed cost : ℕ) → Type 0
  IsFloor budget needed cost =
      (budget < needed) × (d : ℕ) × (u : Tree) × IsPart (tree_of l) 0 d u × (rank l (spot_of l d (root u)) ≡ budget) × (cost ≡ l.cost (root u).lo)

  -- the claim: the answer, or that there is none, where the budget suffices; and else a floor
  abbrev pub IsClaim : ℕ → Claim → Type 0
  IsClaim budget (Match recipe) = (need l ≤ budget) × (answer_of l ≡ Some recipe.items)
  IsClaim budget NoMatch = (need l ≤ budget) × (answer_of l ≡ None)
  IsClaim budget (Floor cost) = IsFloor budget (need l) cost

  -- What a search of this budget ends with: it judges the boxes that are needed, or as many as the
  -- budget allows; the lines are those of the tree; and the recipes of its undecided lines are
  -- listed in their order
  pub record IsCanonical (budget : ℕ) (claim : Claim) (listed : List (List ℕ)) (tree : List CertLine) (boxes : ℕ) : Type 0 where
    pub judged : boxes ≡ min (need l) budget
    pub claimed : IsClaim budget claim
    pub tree_is : tree ≡ canonical_lines boxes
    pub rising : IsRising l listed
    pub each : All (Contains (corners is_undecided_line (l.top ∷ []) tree)) listed
    pub every : All (Contains listed) (corners is_undecided_line (l.top ∷ []) tree)
