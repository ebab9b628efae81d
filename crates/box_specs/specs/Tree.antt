-- The tree of boxes: the box of all recipes is split until every part is shut or has a single
-- recipe.
use Rattle.std.specs.Prelude.{◌≤◌, ◌*◌, length, ◌+◌, ◌-◌, ℕ, zero, suc, Bool, true, not, Option, Some, None, List, [], ◌∷◌, if◌then◌else◌}
use Rattle.std.specs.Ordering.{is_lt, nat_cmp, ordering_then}
use Rattle.std.specs.declared.cmp.Ordering.{Ordering}
use Rattle.price_grid.specs.Order.{KeyView, key_cmp}
use Rattle.box_specs.specs.Answer.{all_recipes, answer_of}
use Rattle.box_specs.specs.Landscape.{Land, is_before, is_final, key_of}
use Rattle.box_specs.specs.Span.{IsBox, Span}
use Rattle.box_specs.specs.Splits.{cut_of, lower_half, upper_half}

pub data Tree : Type 0 where
  leaf : Span → Tree
  fork : Span → Tree → Tree → Tree

-- the box at the root
abbrev pub root : Tree → Span
root (leaf b) = b
root (fork b lower upper) = b

-- a bound on the depth of the tree of a box: the sum of the widths of its ranges
abbrev pub spread : (low high : List ℕ) → ℕ
spread [] high = 0
spread (l ∷ low) [] = 0
spread (l ∷ low) (h ∷ high) = (h - l) + spread low high

-- the place of a box in the order in which boxes are judged: by the key of the lower corner, and
-- then by depth
pub record Spot : Type 0 where
  pub key : KeyView
  pub depth : ℕ

abbrev pub spot_cmp : Spot → Spot → Ordering
spot_cmp a b = ordering_then (key_cmp a.key b.key) (nat_cmp a.depth b.depth)

-- the number of boxes that pass a test on their depth and on the box itself; the root has the given
-- depth
abbrev pub count : (ℕ → Span → Bool) → ℕ → Tree → ℕ
count test depth (leaf b) = if test depth b then 1 else 0
count test depth (fork b lower upper) = (if test depth b then 1 else 0) + (count test (depth + 1) lower + count test (depth + 1) upper)

module _ (l : Land) where
  -- the tree of a box, at most as deep as the bound
  abbrev pub grow : ℕ → Span → Tree
  grow zero b = leaf b
  grow (suc deeper) b =
      if is_final l b then leaf b
      else fork b (grow deeper (lower_half b (cut_of b))) (grow deeper (upper_half b (cut_of b)))

  -- the tree of all recipes
  abbrev pub tree_of : Tree
  tree_of = grow (spread l.top.lo l.top.hi) l.top

  abbrev pub spot_of : ℕ → Span → Spot
  spot_of depth b = record { key = key_of l b.lo; depth = depth }

  -- the number of boxes of the tree that come before a place
  abbrev pub rank : Spot → ℕ
  rank spot = count (λ depth b. is_lt (spot_cmp (spot_of depth b) spot)) 0 tree_of

  -- a box is needed to find a recipe where its key does not come after that of the recipe; where
  -- there is no such recipe all boxes are needed
  abbrev pub is_needed : Option (List ℕ) → Span → Bool
  is_needed None b = true
  is_needed (Some last) b = not (is_before l last b.lo)

  -- the number of boxes that are needed to find a recipe
  abbrev pub need_to : Option (List ℕ) → ℕ
  need_to last = count (λ depth b. is_needed last b) 0 tree_of

  -- the number of boxes that are needed to find the answer
  abbrev pub need : ℕ
  need = need_to (answer_of l)

  -- a tree has at most 2 G - 1 boxes, where there are G recipes
  abbrev pub TreeIsSmall : Type 0
  TreeIsSmall = IsBox l.top → count (λ depth b. true) 0 tree_of + 1 ≤ 2 * length (all_recipes l)
