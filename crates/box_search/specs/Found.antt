-- What a search for several passing recipes ends with.
use Rattle.std.specs.Prelude.{◌≡◌, ◌+◌, ◌*◌, ◌≤◌, ℕ, All, Bool, min, None, List, [], ◌∷◌, length, take}
use Rattle.std.specs.List.{Contains}
use Rattle.box_specs.specs.declared.certificate.CertLine.{CertLine}
use Rattle.box_specs.specs.declared.certificate.Claim.{Claim}
use Rattle.box_specs.specs.declared.certificate.Claim.TheVariants.{Floor, Match, NoMatch}
use Rattle.box_specs.specs.Answer.{kth_match, matches}
use Rattle.box_specs.specs.Canonical.{IsFloor, canonical_lines}
use Rattle.box_specs.specs.Landscape.{Land}
use Rattle.box_specs.specs.Order.{IsRising}
use Rattle.box_specs.specs.Tree.{need_to}
use Rattle.box_specs.specs.Validity.{corners, is_pass_line, is_undecided_line}
use Rattle.box_search.specs.declared.found.End.{End}
use Rattle.box_search.specs.declared.found.End.TheVariants.{Enough, Exhausted, Stopped}

module _ (l : Land) where
  -- recipes in their order, which are those of the lines that pass a test
  pub record AreRecipesOf (test : CertLine → Bool) (lines : List CertLine) (recipes : List (List ℕ)) : Type 0 where
    pub rising : IsRising l recipes
    pub each : All (Contains (corners test (l.top ∷ []) lines)) recipes
    pub every : All (Contains recipes) (corners test (l.top ∷ []) lines)

  -- the number of boxes that are needed to find so many passing recipes
  abbrev pub need_for : ℕ → ℕ
  need_for wanted = need_to l (kth_match l wanted)

  -- the end: so many passing recipes are found, or there are fewer and all boxes are judged, where
  -- the budget suffices; and else a floor
  abbrev pub IsEnd : (wanted budget : ℕ) → End → (many : ℕ) → Type 0
  IsEnd wanted budget Enough many = (need_for wanted ≤ budget) × (many ≡ wanted)
  IsEnd wanted budget Exhausted many = (need_for wanted ≤ budget) × (kth_match l wanted ≡ None)
  IsEnd wanted budget (Stopped cost) many = IsFloor l budget (need_for wanted) cost

  -- What a search for so many passing recipes ends with: it judges the boxes that are needed, or as
  -- many as the budget allows; the lines are those of the tree; the passing recipes are the first
  -- ones of all in their order; and these and the undecided ones are those of the lines
  pub record IsFound (wanted budget : ℕ) (end : End) (matched listed : List (List ℕ)) (tree : List CertLine) (boxes : ℕ) : Type 0 where
    pub judged : boxes ≡ min (need_for wanted) budget
    pub ended : IsEnd wanted budget end (length matched)
    pub tree_is : tree ≡ canonical_lines l boxes
    pub first : matched ≡ take (length matched) (matches l)
    pub few : length matched ≤ wanted
    pub passing : AreRecipesOf is_pass_line tree matched
    pub undecided : AreRecipesOf is_undecided_line tree listed

-- the lists of a search are no longer than the number of boxes allows
pub record IsSmall (listed : List (List ℕ)) (tree : List CertLine) (boxes : ℕ) : Type 0 where
  pub few : length listed ≤ boxes
  pub lines : length tree ≤ 2 * boxes + 1

-- the claim of a search for one passing recipe
abbrev pub claim_by : End → List (List ℕ) → Claim
claim_by Enough [] = NoMatch
claim_by Enough (steps ∷ rest) = Match (record { items = steps })
claim_by Exhausted matched = NoMatch
claim_by (Stopped cost) matched = Floor cost
