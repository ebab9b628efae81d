-- What a search ends with, as a function of the landscape and the budget.
use Rattle.std.specs.Prelude.{◌+◌, ◌==◌, ℕ, Bool, min, nat_le, Option, Some, None, List, [], ◌∷◌, if◌then◌else◌}
use Rattle.std.specs.Option.{option_or}
use Rattle.box_specs.specs.declared.certificate.CertLine.{CertLine}
use Rattle.box_specs.specs.declared.certificate.Claim.{Claim}
use Rattle.box_specs.specs.declared.certificate.Claim.TheVariants.{Floor, Match, NoMatch}
use Rattle.box_specs.specs.Answer.{answer_of}
use Rattle.box_specs.specs.Canonical.{canonical_lines}
use Rattle.box_specs.specs.Landscape.{Land}
use Rattle.box_specs.specs.Order.{in_order}
use Rattle.box_specs.specs.Span.{Span}
use Rattle.box_specs.specs.Tree.{Tree, fork, leaf, need, rank, spot_of, tree_of}
use Rattle.box_specs.specs.Validity.{corners, is_undecided_line}
use Rattle.box_search.specs.declared.outcome.Outcome.{Outcome}

-- the claim, the undecided recipes, the lines of the tree, and how many boxes are judged
pub record SearchResult : Type 0 where
  pub claim : Claim
  pub listed : List (List ℕ)
  pub lines : List CertLine
  pub boxes : ℕ

-- an outcome of the code as such a result
abbrev pub outcome_view : Outcome → SearchResult
outcome_view o = record { claim = o.cert.claim; listed = o.cert.undecided; lines = o.cert.lines; boxes = o.boxes }

-- the first box of a tree, parents before halves and the lower half first, for which a test holds
abbrev pub first_box : (ℕ → Span → Bool) → ℕ → Tree → Option Span
first_box test depth (leaf b) = if test depth b then Some b else None
first_box test depth (fork b lower upper) =
    if test depth b then Some b else option_or (first_box test (depth + 1) lower) (first_box test (depth + 1) upper)

-- the claim of an answer
abbrev pub answer_claim : Option (List ℕ) → Claim
answer_claim None = NoMatch
answer_claim (Some steps) = Match (record { items = steps })

module _ (l : Land) where
  -- the cost of the lower corner of a box, 0 for none
  abbrev pub corner_cost : Option Span → ℕ
  corner_cost None = 0
  corner_cost (Some b) = l.cost b.lo

  -- the cost of the lower corner of the box that has exactly this many boxes before it
  abbrev pub floor_at : ℕ → ℕ
  floor_at boxes = corner_cost (first_box (λ depth b. rank l (spot_of l depth b) == boxes) 0 (tree_of l))

  -- the claim of the answer where the budget suffices, and else a floor: the cost of the lower
  -- corner of the first box, by place, that is not judged
  abbrev pub claim_at : ℕ → Claim
  claim_at budget = if nat_le (need l) budget then answer_claim (answer_of l) else Floor (floor_at budget)

  -- the recipes of the undecided lines, in their order and each of them once
  abbrev pub undecided_of : List CertLine → List (List ℕ)
  undecided_of lines = in_order l (corners is_undecided_line (l.top ∷ []) lines)

  abbrev pub result_of : Claim → ℕ → SearchResult
  result_of claim boxes =
      record { claim = claim; listed = undecided_of (canonical_lines l boxes); lines = canonical_lines l boxes; boxes = boxes }

  -- the one result of a search: the boxes that are needed are judged, or as many as the budget
  -- allows
  unfoldable pub search_result : ℕ → SearchResult
  search_result budget = result_of (claim_at budget) (min (need l) budget)
