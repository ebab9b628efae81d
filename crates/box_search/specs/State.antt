-- Where a search stands.
use Rattle.std.specs.Prelude.{◌≡◌, ◌≤◌, not, ℕ, Bool, true, false, Option, Some, None, List, All, length, if◌then◌else◌}
use Rattle.std.specs.List.{Contains}
use Rattle.std.specs.Ordering.{is_eq, is_lt}
use Rattle.box_specs.specs.declared.certificate.CertLine.{CertLine}
use Rattle.box_specs.specs.Canonical.{IsPart, line_of}
use Rattle.box_specs.specs.Order.{IsRising}
use Rattle.box_specs.specs.Landscape.{Land}
use Rattle.box_specs.specs.Span.{IsWithin, Span}
use Rattle.box_specs.specs.Tree.{Spot, Tree, count, root, spot_cmp, spot_of, tree_of}
use Rattle.box_specs.specs.Validity.{is_pass_line, is_undecided_line}

-- a place is no later than the last one that was judged
abbrev pub is_done : Option Spot → Spot → Bool
is_done None z = false
is_done (Some last) z = not (is_lt (spot_cmp last z))

-- a map with this entry at one place, whatever it had there
abbrev pub with_entry : {X : Type 0} → Spot → X → (Spot → Option X) → Spot → Option X
with_entry q x f z = if is_eq (spot_cmp q z) then Some x else f z

-- a map without its entry at one place
abbrev pub without : {X : Type 0} → Spot → (Spot → Option X) → Spot → Option X
without q f z = if is_eq (spot_cmp q z) then None else f z

module _ (l : Land) where
  abbrev pub done_in : Option Spot → ℕ → Span → Bool
  done_in last d b = is_done last (spot_of l d b)

  -- a part of the whole tree, at its place
  pub record IsAt (z : Spot) (b : Span) : Type 0 where
    pub part : Tree
    pub at : IsPart l (tree_of l) 0 z.depth part
    pub box : root part ≡ b
    pub place : z ≡ spot_of l z.depth b

  -- a part is one that waits, or stands below one
  pub record IsCovered (f : Spot → Option Span) (e : ℕ) (v : Tree) : Type 0 where
    pub depth : ℕ
    pub above : Tree
    pub at : IsPart l (tree_of l) 0 depth above
    pub below : IsPart l above depth e v
    pub waits : f (spot_of l depth (root above)) ≡ Some (root above)

  -- the recipe of a judged box whose line passes a test
  pub record IsRecipe (test : CertLine → Bool) (last : Option Spot) (r : List ℕ) : Type 0 where
    pub depth : ℕ
    pub part : Tree
    pub at : IsPart l (tree_of l) 0 depth part
    pub judged : done_in last depth (root part) ≡ true
    pub line : test (line_of l (root part)) ≡ true
    pub corner : (root part).lo ≡ r

  -- the recipes of the judged boxes whose lines pass a test, in their order; n boxes are judged
  pub record HasRecipes (test : CertLine → Bool) (last : Option Spot) (n : ℕ) (recipes : List (List ℕ)) : Type 0 where
    pub rising : IsRising l recipes
    pub each : All (IsRecipe test last) recipes
    pub every : (e : ℕ) (v : Tree) → IsPart l (tree_of l) 0 e v → done_in last e (root v) ≡ true → test (line_of l (root v)) ≡ true → Contains recipes (root v).lo
    pub short : length recipes ≤ n

  -- The invariant of a search: the n boxes at places up to `last` are judged, and g has their
  -- lines. Each other box waits, or lies below one that waits. Two boxes that wait have no recipe
  -- in common. The passing recipes and the undecided ones are those of the judged boxes
  pub record State (f : Spot → Option Span) (g : Spot → Option CertLine) (last : Option Spot) (n : ℕ) (matched listed : List (List ℕ)) : Type 0 where
    pub waits : (z : Spot) (b : Span) → f z ≡ Some b → IsAt z b
    pub later : (z : Spot) (b : Span) → f z ≡ Some b → is_done last z ≡ false
    pub disjoint : (z y : Spot) (b c : Span) (r : List ℕ) → f z ≡ Some b → f y ≡ Some c → IsWithin r b → IsWithin r c → z ≡ y
    pub covers : (e : ℕ) (v : Tree) → IsPart l (tree_of l) 0 e v → done_in last e (root v) ≡ false → IsCovered f e v
    pub counted : count (done_in last) 0 (tree_of l) ≡ n
    pub written : (e : ℕ) (v : Tree) → IsPart l (tree_of l) 0 e v → g (spot_of l e (root v)) ≡ (if done_in last e (root v) then Some (line_of l (root v)) else None)
    pub passing : HasRecipes is_pass_line last n matched
    pub undecided : HasRecipes is_undecided_line last n listed
    pub shallow : (z : Spot) (b : Span) → f z ≡ Some b → z.depth ≤ n
