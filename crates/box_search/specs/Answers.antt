-- What is done with a box once it is judged, and what a search has found when it ends.
use Rattle.std.specs.Prelude.{◌+◌, ◌*◌, ◌≤◌, ℕ, Bool, Option, Some, None, List, [], ◌∷◌, ◌++◌, length, if◌then◌else◌}
use Rattle.box_specs.specs.declared.judged.Judged.{Judged}
use Rattle.box_specs.specs.Canonical.{canonical_lines, is_judged}
use Rattle.box_specs.specs.Judgements.{is_open}
use Rattle.box_specs.specs.Landscape.{Land}
use Rattle.box_specs.specs.Span.{Span}
use Rattle.box_specs.specs.Tree.{tree_of}
use Rattle.box_search.specs.Found.{IsFound, IsSmall}
use Rattle.box_search.specs.Frontier.{halves_of}
use Rattle.box_search.specs.declared.found.End.{End}
use Rattle.box_search.specs.Nodes.{Shows}
use Rattle.box_search.specs.Waiting.{WaitingBox}
use Rattle.box_search.specs.declared.frontier.Halves.{Halves}
use Rattle.box_search.specs.declared.nodes.Node.{Node}

-- the halves of a box that is judged open
abbrev pub halves_by : Land → ℕ → Span → ℕ → Judged → Option (Halves WaitingBox)
halves_by l depth b next judged = if is_open judged then Some (halves_of l depth b next) else None

-- recipes, with that of a box that is judged or without it
abbrev pub next_recipes : Bool → Span → List (List ℕ) → List (List ℕ)
next_recipes joins b recipes = if joins then recipes ++ b.lo ∷ [] else recipes

-- what a search has found: what it ends with has the canonical lines, and the first node shows the
-- tree with the lines of the judged boxes
pub record IsShown (l : Land) (wanted budget : ℕ) (end : End) (matched listed : List (List ℕ)) (boxes : ℕ) (nodes : List Node) : Type 0 where
  pub found : IsFound l wanted budget end matched listed (canonical_lines l boxes) boxes
  pub shown : Shows l nodes (is_judged l boxes) 0 (tree_of l) 0
  pub nodes_few : length nodes ≤ 2 * boxes + 1
  pub small : IsSmall listed (canonical_lines l boxes) boxes
