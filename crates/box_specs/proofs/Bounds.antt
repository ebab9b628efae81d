-- The number of boxes of a tree.
use Rattle.std.proofs.Common.{◌≡◌, ◌+◌, ◌-◌, ◌*◌, ◌<◌, ◌≤◌, ◌||◌, ℕ, zero, suc, List, [], ◌∷◌, Bool, true, false, map, length, get_or, length-append, refl, sym, ap, ◌∙◌, subst, arith}
use Rattle.std.specs.List.{slice_set}
use Rattle.price_grid.specs.Grid.{IsUpTo}
use Rattle.box_specs.specs.Answer.{each_before, numbers_from, recipes_between}
use Rattle.box_specs.specs.Landscape.{Land, is_final, is_shut}
use Rattle.box_specs.specs.Span.{IsBox, Span, is_single}
use Rattle.box_specs.specs.Splits.{cut_of, lower_half, upper_half}
use Rattle.box_specs.specs.Tree.{TreeIsSmall, count, grow, spread, tree_of}
use Rattle.box_specs.proofs.Cuts.{cut_fits, lower_is_box, same_count, upper_is_box}

-- the number of recipes between two corners
volume : (low high : List ℕ) → ℕ
volume [] high = 1
volume (l ∷ low) [] = 0
volume (l ∷ low) (h ∷ high) = (h + 1 - l) * volume low high

length_map : {A B : Type 0} (f : A → B) (xs : List A) → length (map f xs) ≡ length xs
length_map f [] = refl
length_map f (x ∷ xs) = ap suc (length_map f xs)

length_numbers : (first many : ℕ) → length (numbers_from first many) ≡ many
length_numbers first zero = refl
length_numbers first (suc many) = ap suc (length_numbers (first + 1) many)

length_each : (ns : List ℕ) (rest : List (List ℕ)) → length (each_before ns rest) ≡ length ns * length rest
length_each [] rest = omega arith
length_each (n ∷ ns) rest =
    let here = length-append (map (λ steps. n ∷ steps) rest) (each_before ns rest) in
    let mapped_part = length_map (λ steps. n ∷ steps) rest in
    let behind = length_each ns rest in
    grind (arith, here, mapped_part, behind)

length_recipes : (low high : List ℕ) → length (recipes_between low high) ≡ volume low high
unfolding volume
length_recipes [] high = refl
length_recipes (l ∷ low) [] = refl
length_recipes (l ∷ low) (h ∷ high) =
    length_each (numbers_from l (h + 1 - l)) (recipes_between low high)
    ∙ ap (λ n. n * length (recipes_between low high)) (length_numbers l (h + 1 - l))
    ∙ ap (λ n. (h + 1 - l) * n) (length_recipes low high)

positive_product : (a b : ℕ) → 1 ≤ a → 1 ≤ b → 1 ≤ a * b
positive_product a b h k = grind arith

-- a box has a recipe
some_volume : (low high : List ℕ) → IsUpTo low high → 1 ≤ volume low high
unfolding volume
some_volume [] [] h = omega arith
some_volume [] (m ∷ high) h = absurd h
some_volume (l ∷ low) [] h = absurd h
some_volume (l ∷ low) (m ∷ high) h = positive_product (m + 1 - l) (volume low high) (omega (arith, h.0)) (some_volume low high h.1)

scaled : (v a b c : ℕ) → a + b ≡ c → a * v + b * v ≡ c * v
scaled v a b c e = grind (arith, e)

two_ranges : (l mid h v : ℕ) → l ≤ mid → mid < h → (mid + 1 - l) * v + (h + 1 - (mid + 1)) * v ≡ (h + 1 - l) * v
two_ranges l mid h v low high =
    let whole : (mid + 1 - l) + (h + 1 - (mid + 1)) ≡ h + 1 - l = omega (arith, low, high) in
    scaled v (mid + 1 - l) (h + 1 - (mid + 1)) (h + 1 - l) whole

factored : (w a b c : ℕ) → a + b ≡ c → w * a + w * b ≡ w * c
factored w a b c e = grind (arith, e)

-- both halves together have as many recipes as the box
volume_cut : (low high : List ℕ) (i mid : ℕ) → i < length low → i < length high → get_or low i 0 ≤ mid → mid < get_or high i 0
    → volume low (slice_set high i mid) + volume (slice_set low i (mid + 1)) high ≡ volume low high
unfolding volume
volume_cut [] high i mid l h k m = absurd (omega arith)
volume_cut (x ∷ low) [] i mid l h k m = absurd (omega arith)
volume_cut (x ∷ low) (y ∷ high) zero mid l h k m = two_ranges x mid y (volume low high) k m
volume_cut (x ∷ low) (y ∷ high) (suc i) mid l h k m =
    factored (y + 1 - x) (volume low (slice_set high i mid)) (volume (slice_set low i (mid + 1)) high) (volume low high)
    (volume_cut low high i mid (omega arith) (omega arith) k m)

open_is_not_single : (l : Land) (b : Span) → is_final l b ≡ false → is_single b ≡ false
open_is_not_single l b h = go (is_shut l b) (is_single b) h where
  go : (s t : Bool) → s || t ≡ false → t ≡ false
  go true t e = cc
  go false t e = e

joined : (one two v w whole : ℕ) → one + 1 ≤ 2 * v → two + 1 ≤ 2 * w → v + w ≡ whole → (1 + (one + two)) + 1 ≤ 2 * whole
joined one two v w whole h k e = omega arith

module _ (l : Land) where
  few_boxes : (fuel depth : ℕ) (b : Span) → IsBox b → count (λ d c. true) depth (grow l fuel b) + 1 ≤ 2 * volume b.lo b.hi
  few_boxes zero depth b box =
      let some = some_volume b.lo b.hi box in
      omega (arith, some)
  few_boxes (suc fuel) depth b box = go (few_boxes fuel (depth + 1)) (is_final l b) refl where
    go : ((c : Span) → IsBox c → count (λ d e. true) (depth + 1) (grow l fuel c) + 1 ≤ 2 * volume c.lo c.hi) → (t : Bool) → is_final l b ≡ t
        → count (λ d c. true) depth (grow l (suc fuel) b) + 1 ≤ 2 * volume b.lo b.hi
    go below true e =
        let some = some_volume b.lo b.hi box in
        rw e (omega (arith, some))
    go below false e =
        let cut = cut_fits b box (open_is_not_single l b e) in
        let high : (cut_of b).dye < length b.hi = omega (arith, cut.there, same_count b.lo b.hi box) in
        let whole = volume_cut b.lo b.hi (cut_of b).dye (cut_of b).mid cut.there high cut.low cut.high in
        rw e (joined _ _ _ _ _ (below (lower_half b (cut_of b)) (lower_is_box b (cut_of b) box cut)) (below (upper_half b (cut_of b)) (upper_is_box b (cut_of b) box cut)) whole)

  pub tree_is_small : TreeIsSmall l
  tree_is_small box =
      let bound = few_boxes (spread l.top.lo l.top.hi) 0 l.top box in
      let all = length_recipes l.top.lo l.top.hi in
      subst (λ n. count (λ d b. true) 0 (tree_of l) + 1 ≤ 2 * n) (sym all) bound
