-- The order in which boxes are judged.
use Rattle.std.proofs.Common.{◌≡◌, ◌<◌, ◌≤◌, not, ℕ, List, true, false, nat_lt, refl, sym, ap, subst, ◌∙◌, arith}
use Rattle.std.specs.Prelude.{Option, Some, None}
use Rattle.std.proofs.lemmas.Bool.{false≢true}
use Rattle.box_specs.specs.Answer.{answer_of}
use Rattle.box_specs.specs.Canonical.{IsPart, is_judged}
use Rattle.box_specs.specs.Landscape.{IsLawful, Land, is_before, IsSound}
use Rattle.box_specs.specs.Span.{IsWithin, Span}
use Rattle.box_specs.specs.Tree.{Spot, Tree, count, is_needed, leaf, need, rank, root, spot_of, tree_of}
use Rattle.box_specs.proofs.Answers.{not_before_trans}
use Rattle.box_search.proofs.Orders.{before_by_key, before_on, key_not_before, not_both, not_itself, precedes, spot_up}
use Rattle.box_search.specs.Trees.{IsSoundTree}
use Rattle.box_search.proofs.Trees.{count_le, count_lt, over, part_deep, part_inside, part_tree, sound_of, whole_tree}
use Rattle.box_specs.proofs.Spans.{corner_within, inside_itself}
use Rattle.box_specs.proofs.Tests.{by, ge_test, lt_test, not_true, test_lt}

module _ (l : Land) (lawful : IsLawful l) where
  pub whole : IsSoundTree l (tree_of l)
  whole = whole_tree l lawful.top

  -- a part of the whole tree
  abbrev pub At : ℕ → Tree → Type 0
  At d u = IsPart l (tree_of l) 0 d u

  pub at_sound : (d : ℕ) (u : Tree) → At d u → IsSound l (root u)
  at_sound d u h = sound_of l u (part_tree l (tree_of l) 0 d u whole h)

  pub at_tree : (d : ℕ) (u : Tree) → At d u → IsSoundTree l u
  at_tree d u h = part_tree l (tree_of l) 0 d u whole h

  -- a part below another does not stand before it
  pub below_after : (u v : Tree) (d e : ℕ) → IsSoundTree l u → IsPart l u d e v → precedes (spot_of l e (root v)) (spot_of l d (root u)) ≡ false
  below_after u v d e i h =
      let inside = part_inside l u d e v i h in
      let high = sound_of l u i in
      let low = sound_of l v (part_tree l u d e v i h) in
      spot_up (spot_of l d (root u)) (spot_of l e (root v))
      (lawful.grows (root u).lo (root v).lo (corner_within (root u) l.top high.box high.inside) (corner_within (root v) l.top low.box low.inside) inside.0) inside.0
      (part_deep l u d e v h)

  -- a part with the lower corner of a leaf stands no deeper than that leaf
  pub alike : (d e : ℕ) (b : Span) (v : Tree) → At d (leaf b) → At e v → b.lo ≡ (root v).lo → e ≤ d
  alike d e b v h k same =
      let low = at_sound d (leaf b) h in
      let high = at_sound e v k in
      let x = corner_within b b low.box (inside_itself b) in
      let y = subst (λ r. IsWithin r (root v)) (sym same) (corner_within (root v) (root v) high.box (inside_itself (root v))) in
      part_deep l v e d (leaf b) (over l (tree_of l) 0 d e b v b.lo whole h k x y)

  -- a place that is not after another has no higher rank, and a part that stands before a place has
  -- a lower one
  pub rank_le : (a b : Spot) → precedes b a ≡ false → rank l a ≤ rank l b
  rank_le a b h = count_le l _ _ (tree_of l) 0 (λ d u i e. before_on (spot_of l d (root u)) a b e h)

  pub rank_lt : (d : ℕ) (u : Tree) (b : Spot) → At d u → precedes (spot_of l d (root u)) b ≡ true → rank l (spot_of l d (root u)) < rank l b
  rank_lt d u b i h =
      count_lt l _ _ (tree_of l) 0 d u (λ e v j f. before_on (spot_of l e (root v)) (spot_of l d (root u)) b f (not_both (spot_of l d (root u)) b h)) i (not_itself (spot_of l d (root u))) h

  -- of two places the one of lower rank stands before the other
  pub lower_rank : (a b : Spot) → rank l a < rank l b → precedes a b ≡ true
  lower_rank a b h = by (precedes a b) (λ e. e) (λ e. absurd (less (rank l a) (rank l b) h (rank_le b a e))) where
    less : (m n : ℕ) → m < n → n ≤ m → ⊥
    less m n x y = omega (arith, x, y)

  -- what lies above a judged part is judged
  pub judged_above : (n d e : ℕ) (u v : Tree) → IsSoundTree l u → IsPart l u d e v → is_judged l n e (root v) ≡ true → is_judged l n d (root u) ≡ true
  judged_above n d e u v i h j =
      let r = rank_le (spot_of l d (root u)) (spot_of l e (root v)) (below_after u v d e i h) in
      let k = test_lt (rank l (spot_of l e (root v))) n j in
      lt_test (rank l (spot_of l d (root u))) n (omega (arith, r, k))

  -- the boxes that are needed are exactly the first `need l` ones
  pub needed_is_judged : (d : ℕ) (u : Tree) → At d u → is_needed l (answer_of l) (root u) ≡ is_judged l (need l) d (root u)
  needed_is_judged d u i = go (answer_of l) refl where
    all : (n : ℕ) → count (λ e b. is_needed l None b) 0 (tree_of l) ≡ n → nat_lt (rank l (spot_of l d (root u))) n ≡ true
    all n e =
        let r = count_lt l (λ f b. precedes (spot_of l f b) (spot_of l d (root u))) (λ f b. is_needed l None b) (tree_of l) 0 d u (λ f v j x. refl) i (not_itself (spot_of l d (root u))) refl in
        lt_test (rank l (spot_of l d (root u))) n (subst (λ m. rank l (spot_of l d (root u)) < m) e r)

    some : (a : List ℕ) (n : ℕ) → count (λ e b. is_needed l (Some a) b) 0 (tree_of l) ≡ n → is_needed l (Some a) (root u) ≡ nat_lt (rank l (spot_of l d (root u))) n
    some a n e = by (is_before l a (root u).lo)
        (λ late.
        let r = count_le l (λ f b. is_needed l (Some a) b) (λ f b. precedes (spot_of l f b) (spot_of l d (root u))) (tree_of l) 0 (λ f v j x. earlier v f (not_true (is_before l a (root v).lo) x) late) in
        rw late (sym (ge_test (rank l (spot_of l d (root u))) n (subst (λ m. m ≤ rank l (spot_of l d (root u))) e r))))
        (λ soon.
        let r = count_lt l (λ f b. precedes (spot_of l f b) (spot_of l d (root u))) (λ f b. is_needed l (Some a) b) (tree_of l) 0 d u
        (λ f v j x. ap not (not_before_trans l a (root u).lo (root v).lo (key_not_before (spot_of l d (root u)) (spot_of l f (root v)) (not_both (spot_of l f (root v)) (spot_of l d (root u)) x)) soon)) i (not_itself (spot_of l d (root u))) (ap not soon) in
        rw soon (sym (lt_test (rank l (spot_of l d (root u))) n (subst (λ m. rank l (spot_of l d (root u)) < m) e r)))) where
          earlier : (v : Tree) (f : ℕ) → is_before l a (root v).lo ≡ false → is_before l a (root u).lo ≡ true → precedes (spot_of l f (root v)) (spot_of l d (root u)) ≡ true
          earlier v f x y = before_by_key (spot_of l f (root v)) (spot_of l d (root u))
              (by (is_before l (root v).lo (root u).lo) (λ z. z) (λ z. absurd (false≢true (sym (not_before_trans l a (root v).lo (root u).lo z x) ∙ y))))

    go : (o : Option (List ℕ)) → answer_of l ≡ o → is_needed l (answer_of l) (root u) ≡ nat_lt (rank l (spot_of l d (root u))) (need l)
    go None e = ap (λ o. is_needed l o (root u)) e ∙ (sym (all (need l) (sym (ap (λ o. count (λ f b. is_needed l o b) 0 (tree_of l)) e))))
    go (Some a) e = ap (λ o. is_needed l o (root u)) e ∙ (some a (need l) (sym (ap (λ o. count (λ f b. is_needed l o b) 0 (tree_of l)) e)))
