-- Judging one more box preserves the invariant of a search.
use Rattle.std.proofs.Common.{◌≡◌, ◌+◌, ◌≤◌, not, ℕ, List, [], ◌∷◌, ◌++◌, Bool, true, false, length, get_or, if◌then◌else◌, refl, sym, ap, subst, ◌∙◌, ◌⊎◌, inl, inr, length-append, arith}
use Rattle.std.specs.Prelude.{All, Option, Some, None}
use Rattle.std.specs.List.{Contains}
use Rattle.std.specs.Ordering.{is_eq, nat_cmp}
use Rattle.std.specs.Cmp.{tied_itself}
use Rattle.std.specs.Cmp.Lexicographic.{slice_cmp}
use Rattle.std.specs.declared.cmp.Ordering.{Ordering}
use Rattle.std.specs.declared.cmp.Ordering.TheVariants.{Equal, Greater, Less}
use Rattle.std.proofs.lemmas.Bool.{cases_lt, false≢true, true≢false}
use Rattle.std.proofs.lemmas.List.Quantifiers.{all_pairs_push}
use Rattle.std.proofs.lemmas.List.Elements.{All-get_or, All-push, All-weaker, Contains-append_left, Contains-push}
use Rattle.price_grid.specs.Order.{key_cmp}
use Rattle.std.proofs.lemmas.Option.{none-some}
use Rattle.box_specs.specs.declared.certificate.CertLine.{CertLine}
use Rattle.box_specs.specs.Canonical.{IsPart, line_of}
use Rattle.box_specs.specs.Order.{IsRising}
use Rattle.box_specs.specs.Landscape.{IsLawful, Land, is_before, key_of, IsSound}
use Rattle.box_specs.specs.Span.{IsInside, IsWithin, Span, is_single}
use Rattle.box_specs.specs.Splits.{cut_of, lower_half, upper_half}
use Rattle.box_specs.specs.Tree.{Spot, Tree, count, fork, leaf, root, spot_cmp, spot_of, tree_of}
use Rattle.box_specs.specs.Validity.{is_pass_line, is_undecided_line}
use Rattle.box_specs.proofs.Cuts.{from_lower, from_upper, in_lower, in_upper, not_both as not_both_halves}
use Rattle.box_search.specs.State.{IsAt, IsCovered, IsRecipe, HasRecipes, State, done_in, is_done, with_entry, without}
use Rattle.box_search.proofs.Orders.{IsTied, equal_spot, key_not_before, not_after, not_both, not_itself, on_before, precedes, spots_are_ordered, tied}
use Rattle.box_specs.proofs.Keys.{equal_one, equal_two, same_list, same_number, tied_keys}
use Rattle.box_search.proofs.Ranks.{alike, at_sound, at_tree, below_after, whole}
use Rattle.box_specs.proofs.Tests.{both_ways, by, not_false, not_true, some_same}
use Rattle.box_search.specs.Trees.{IsSoundTree}
use Rattle.box_search.proofs.Trees.{alone, count_le, count_lt, disjoint, halved, part_deep, part_inside, part_tree, sound_of}
use Rattle.box_specs.proofs.Spans.{corner_within, inside_itself, within_inside}
use Rattle.box_search.proofs.Walks.{passing, undecided}

-- places that compare equal are the same
pub spot_same : (a b : Spot) → is_eq (spot_cmp a b) ≡ true → a ≡ b
spot_same a b h = go (spot_cmp a b) refl h where
  go : (o : Ordering) → spot_cmp a b ≡ o → is_eq o ≡ true → a ≡ b
  go Less e x = absurd (false≢true x)
  go Greater e x = absurd (false≢true x)
  go Equal e x =
      let key = equal_one (key_cmp a.key b.key) (nat_cmp a.depth b.depth) e in
      let cost = same_number a.key.cost b.key.cost (equal_one (nat_cmp a.key.cost b.key.cost) (slice_cmp nat_cmp a.key.steps b.key.steps) key) in
      let steps = same_list a.key.steps b.key.steps (equal_two (nat_cmp a.key.cost b.key.cost) (slice_cmp nat_cmp a.key.steps b.key.steps) key) in
      let depth = same_number a.depth b.depth (equal_two (key_cmp a.key b.key) (nat_cmp a.depth b.depth) e) in
      λ i. record { key = record { cost = cost i; steps = steps i }; depth = depth i }

pub entry_cases : {X : Type 0} (q : Spot) (x : X) (f : Spot → Option X) (z : Spot) (b : X) → with_entry q x f z ≡ Some b → ((q ≡ z) × (x ≡ b)) ⊎ (f z ≡ Some b)
entry_cases {X} q x f z b h = go (is_eq (spot_cmp q z)) refl h where
  go : (t : Bool) → is_eq (spot_cmp q z) ≡ t → (if t then Some x else f z) ≡ Some b → ((q ≡ z) × (x ≡ b)) ⊎ (f z ≡ Some b)
  go true e y = inl (spot_same q z e, some_same x b y)
  go false e y = inr y

pub without_cases : {X : Type 0} (q : Spot) (f : Spot → Option X) (z : Spot) (b : X) → without q f z ≡ Some b → (is_eq (spot_cmp q z) ≡ false) × (f z ≡ Some b)
without_cases {X} q f z b h = go (is_eq (spot_cmp q z)) refl h where
  go : (t : Bool) → is_eq (spot_cmp q z) ≡ t → (if t then None else f z) ≡ Some b → (is_eq (spot_cmp q z) ≡ false) × (f z ≡ Some b)
  go true e y = absurd (none-some b y)
  go false e y = (e, y)

module _ (l : Land) where
  -- two parts at the same depth with a recipe in common are the same part
  pub shared_part : (t : Tree) (k d : ℕ) (u v : Tree) (r : List ℕ) → IsSoundTree l t → IsPart l t k d u → IsPart l t k d v → IsWithin r (root u) → IsWithin r (root v) → u ≡ v
  shared_part (leaf b) k d u v r i h m x y = sym h.1 ∙ m.1
  shared_part (fork b s t) k d u v r i (inl h) (inl m) x y = sym h.1 ∙ m.1
  shared_part (fork b s t) k d u v r i (inl h) (inr (inl m)) x y = absurd (omega (arith, h.0, part_deep l s (k + 1) d v m))
  shared_part (fork b s t) k d u v r i (inl h) (inr (inr m)) x y = absurd (omega (arith, h.0, part_deep l t (k + 1) d v m))
  shared_part (fork b s t) k d u v r i (inr (inl h)) (inl m) x y = absurd (omega (arith, m.0, part_deep l s (k + 1) d u h))
  shared_part (fork b s t) k d u v r i (inr (inr h)) (inl m) x y = absurd (omega (arith, m.0, part_deep l t (k + 1) d u h))
  shared_part (fork b s t) k d u v r i (inr (inl h)) (inr (inl m)) x y = shared_part s (k + 1) d u v r i.4 h m x y
  shared_part (fork b s t) k d u v r i (inr (inr h)) (inr (inr m)) x y = shared_part t (k + 1) d u v r i.5 h m x y
  shared_part (fork b s t) k d u v r i (inr (inl h)) (inr (inr m)) x y = absurd (disjoint l b s t (k + 1) d d u v r i h m x y)
  shared_part (fork b s t) k d u v r i (inr (inr h)) (inr (inl m)) x y = absurd (disjoint l b s t (k + 1) d d v u r i m h y x)

  -- the lower corner of a box is one of its recipes
  pub corner_in_box : (b : Span) → IsSound l b → IsWithin b.lo b
  corner_in_box b s = corner_within b b s.box (inside_itself b)

  -- two parts at the same depth with the same lower corner are the same part
  pub same_part : (t : Tree) (k d : ℕ) (u v : Tree) → IsSoundTree l t → IsPart l t k d u → IsPart l t k d v → (root u).lo ≡ (root v).lo → u ≡ v
  same_part t k d u v i h m e =
      let x = corner_in_box (root u) (sound_of l u (part_tree l t k d u i h)) in
      let y = corner_in_box (root v) (sound_of l v (part_tree l t k d v i m)) in
      shared_part t k d u v (root u).lo i h m x (subst (λ r. IsWithin r (root v)) (sym e) y)

  if_one : (b : Bool) → (if b then 1 else 0) ≤ 1
  if_one true = omega arith
  if_one false = omega arith

  module _ (p q : ℕ → Span → Bool) (d : ℕ) (r : List ℕ) where
    abbrev Only : Tree → ℕ → Type 0
    Only t k = (e : ℕ) (v : Tree) → IsPart l t k e v → q e (root v) ≡ true → (p e (root v) ≡ true) ⊎ ((e ≡ d) × ((root v).lo ≡ r))

    lower_corner : (b : Span) (s t : Tree) (k e : ℕ) (v : Tree) → IsSoundTree l (fork b s t) → IsPart l s (k + 1) e v → (root v).lo ≡ r → IsWithin r (lower_half b (cut_of b))
    lower_corner b s t k e v i h x =
        let y = sound_of l v (part_tree l s (k + 1) e v i.4 h) in
        subst (λ w. IsWithin w (lower_half b (cut_of b))) x (subst (λ c. IsWithin (root v).lo c) i.2 (corner_within (root v) (root s) y.box (part_inside l s (k + 1) e v i.4 h)))

    upper_corner : (b : Span) (s t : Tree) (k e : ℕ) (v : Tree) → IsSoundTree l (fork b s t) → IsPart l t (k + 1) e v → (root v).lo ≡ r → IsWithin r (upper_half b (cut_of b))
    upper_corner b s t k e v i h x =
        let y = sound_of l v (part_tree l t (k + 1) e v i.5 h) in
        subst (λ w. IsWithin w (upper_half b (cut_of b))) x (subst (λ c. IsWithin (root v).lo c) i.3 (corner_within (root v) (root t) y.box (part_inside l t (k + 1) e v i.5 h)))

    -- where each part that passes q passes p too, or has the depth d and the lower corner r, at
    -- most one more part passes q than p
    pub count_more : (t : Tree) (k : ℕ) → IsSoundTree l t → Only t k → count q k t ≤ count p k t + 1
    count_more (leaf b) k i h =
        let x = if_one (q k b) in
        omega (arith, x)
    count_more (fork b s t) k i h =
        go (count_more s (k + 1) i.4 (λ e v m. h e v (inr (inl m)))) (count_more t (k + 1) i.5 (λ e v m. h e v (inr (inr m)))) (q k b) refl where
          N : ℕ
          N = count p k (fork b s t)

          -- the recipe r lies in one half at most, so in the other half no more parts pass q than p
          halves_ : count q (k + 1) s ≤ count p (k + 1) s + 1 → count q (k + 1) t ≤ count p (k + 1) t + 1
              → count q (k + 1) s + count q (k + 1) t ≤ count p (k + 1) s + count p (k + 1) t + 1
          halves_ low high = elim (cases_lt (cut_of b).mid (get_or r (cut_of b).dye 0)) as (λ _. count q (k + 1) s + count q (k + 1) t ≤ count p (k + 1) s + count p (k + 1) t + 1) [
            | inl above ↦
                let two = halved l b i.0 i.1 in
                let none = count_le l q p s (k + 1) (λ e v m x. elim (h e v (inr (inl m)) x) as (λ _. p e (root v) ≡ true) [
                  | inl y ↦ y
                  | inr y ↦
                      let at = lower_corner b s t k e v i m y.1 in
                      absurd (not_both_halves b (cut_of b) i.0.box two.cuts r at (in_upper b (cut_of b) i.0.box two.cuts r (from_lower b (cut_of b) i.0.box two.cuts r at) above))
                ]) in
                omega (arith, none, high)
            | inr below ↦
                let two = halved l b i.0 i.1 in
                let none = count_le l q p t (k + 1) (λ e v m x. elim (h e v (inr (inr m)) x) as (λ _. p e (root v) ≡ true) [
                  | inl y ↦ y
                  | inr y ↦
                      let at = upper_corner b s t k e v i m y.1 in
                      absurd (not_both_halves b (cut_of b) i.0.box two.cuts r (in_lower b (cut_of b) i.0.box two.cuts r (from_upper b (cut_of b) i.0.box two.cuts r at) below) at)
                ]) in
                omega (arith, none, low)
          ]

          -- where the root has the depth d, all other parts are deeper, so in neither half do more
          -- parts pass q than p
          deeper : k ≡ d → (count q (k + 1) s ≤ count p (k + 1) s) × (count q (k + 1) t ≤ count p (k + 1) t)
          deeper at = (
            count_le l q p s (k + 1) (λ e v m x. elim (h e v (inr (inl m)) x) as (λ _. p e (root v) ≡ true) [
              | inl y ↦ y
              | inr y ↦ absurd (omega (arith, at, y.0, part_deep l s (k + 1) e v m))
            ]),
            count_le l q p t (k + 1) (λ e v m x. elim (h e v (inr (inr m)) x) as (λ _. p e (root v) ≡ true) [
              | inl y ↦ y
              | inr y ↦ absurd (omega (arith, at, y.0, part_deep l t (k + 1) e v m))
            ]),
          )

          go : count q (k + 1) s ≤ count p (k + 1) s + 1 → count q (k + 1) t ≤ count p (k + 1) t + 1 → (c : Bool) → q k b ≡ c
              → (if c then 1 else 0) + (count q (k + 1) s + count q (k + 1) t) ≤ ((if p k b then 1 else 0) + (count p (k + 1) s + count p (k + 1) t)) + 1
          go low high false e =
              let two = halves_ low high in
              omega (arith, two)
          go low high true e = elim (h k (fork b s t) (inl (refl, refl)) e) as (λ _. 1 + (count q (k + 1) s + count q (k + 1) t) ≤ ((if p k b then 1 else 0) + (count p (k + 1) s + count p (k + 1) t)) + 1) [
            | inl y ↦
                let two = halves_ low high in
                rw y (omega (arith, two))
            | inr y ↦
                let two = deeper y.0 in
                omega (arith, two.0, two.1)
          ]

pub part_trans : (l : Land) (t : Tree) (k d e : ℕ) (u v : Tree) → IsPart l t k d u → IsPart l u d e v → IsPart l t k e v
part_trans l (leaf b) k d e u v h m = back (sym h.0) (subst (λ w. IsPart l w d e v) (sym h.1) m) where
  back : d ≡ k → IsPart l (leaf b) d e v → IsPart l (leaf b) k e v
  back x y = subst (λ j. IsPart l (leaf b) j e v) x y
part_trans l (fork b s t) k d e u v (inl h) m = back (sym h.0) (subst (λ w. IsPart l w d e v) (sym h.1) m) where
  back : d ≡ k → IsPart l (fork b s t) d e v → IsPart l (fork b s t) k e v
  back x y = subst (λ j. IsPart l (fork b s t) j e v) x y
part_trans l (fork b s t) k d e u v (inr (inl h)) m = inr (inl (part_trans l s (k + 1) d e u v h m))
part_trans l (fork b s t) k d e u v (inr (inr h)) m = inr (inr (part_trans l t (k + 1) d e u v h m))

pub equal_test : (a b : Spot) → precedes a b ≡ false → precedes b a ≡ false → is_eq (spot_cmp a b) ≡ true
equal_test a b h k = ap is_eq (equal_spot a b h k)

-- judging the first box that waits
module _ (l : Land) (lawful : IsLawful l) (f fnew : Spot → Option Span) (g : Spot → Option CertLine) (last : Option Spot) (n : ℕ) (matched listed : List (List ℕ)) (d : ℕ) (u : Tree) where
  abbrev Q : Spot
  Q = spot_of l d (root u)

  -- a child of the box that is judged
  pub record IsChild (z : Spot) (b : Span) : Type 0 where
    pub part : Tree
    pub at : IsPart l u d (d + 1) part
    pub box : root part ≡ b
    pub depth : z.depth ≡ d + 1
    pub place : z ≡ spot_of l z.depth b

  -- the boxes that wait once this one is judged: others that waited before, and children of this
  -- one
  pub record Turned : Type 0 where
    pub new : (z : Spot) (b : Span) → fnew z ≡ Some b → ((f z ≡ Some b) × (is_eq (spot_cmp Q z) ≡ false)) ⊎ IsChild z b
    pub keeps : (z : Spot) (b : Span) → IsAt l z b → f z ≡ Some b → is_eq (spot_cmp Q z) ≡ false → fnew z ≡ Some b
    pub below : (e : ℕ) (v : Tree) → IsPart l u d e v → ((e ≡ d) × (v ≡ u)) ⊎ IsCovered l fnew e v

  module _ (s : State l f g last n matched listed) (here : f Q ≡ Some (root u)) (at_u : IsPart l (tree_of l) 0 d u)
      (least : (z : Spot) (b : Span) → f z ≡ Some b → precedes z Q ≡ false) (t : Turned) where
    -- each place judged so far stands before this one
    earlier : (z : Spot) → is_done last z ≡ true → precedes z Q ≡ true
    earlier z h = go last (s.later Q (root u) here) h where
      go : (o : Option Spot) → is_done o Q ≡ false → is_done o z ≡ true → precedes z Q ≡ true
      go None x y = absurd (false≢true y)
      go (Some p) x y = on_before z p Q (not_true (precedes p z) y) (not_false (precedes p Q) x)

    older : (z : Spot) → is_done last z ≡ true → is_done (Some Q) z ≡ true
    older z h = ap not (not_both z Q (earlier z h))

    tied_part : (e : ℕ) (v : Tree) → IsPart l (tree_of l) 0 e v → IsTied Q (spot_of l e (root v)) → (e ≡ d) × (v ≡ u)
    tied_part e v i h =
        let same = same_part l (tree_of l) 0 e v u (whole l lawful) i (subst (λ k. IsPart l (tree_of l) 0 k u) h.depth at_u) (sym h.steps) in
        (sym h.depth, same)

    newly : (e : ℕ) (v : Tree) → IsPart l (tree_of l) 0 e v → done_in l (Some Q) e (root v) ≡ true → (done_in l last e (root v) ≡ true) ⊎ ((e ≡ d) × (v ≡ u))
    newly e v i h = by (done_in l last e (root v)) (λ x. inl x)
        (λ x.
        let c = s.covers e v i x in
        let low = least (spot_of l c.depth (root c.above)) (root c.above) c.waits in
        let high = below_after l lawful c.above v c.depth e (at_tree l lawful c.depth c.above c.at) c.below in
        let after = not_after Q (spot_of l c.depth (root c.above)) (spot_of l e (root v)) low high in
        inr (tied_part e v i (tied Q (spot_of l e (root v)) (not_true (precedes Q (spot_of l e (root v))) h) after)))

    itself : done_in l (Some Q) d (root u) ≡ true
    itself = ap not (not_itself Q)

    not_yet : done_in l last d (root u) ≡ false
    not_yet = s.later Q (root u) here

    -- one more box is judged
    counted : count (done_in l (Some Q)) 0 (tree_of l) ≡ n + 1
    counted =
        let less = count_lt l (done_in l last) (done_in l (Some Q)) (tree_of l) 0 d u (λ e v i x. older (spot_of l e (root v)) x) at_u not_yet itself in
        let more = count_more l (done_in l last) (done_in l (Some Q)) d (root u).lo (tree_of l) 0 (whole l lawful)
        (λ e v i x. elim (newly e v i x) as (λ _. (done_in l last e (root v) ≡ true) ⊎ ((e ≡ d) × ((root v).lo ≡ (root u).lo))) [
          | inl y ↦ inl y
          | inr y ↦ inr (y.0, ap (λ w. (root w).lo) y.1)
        ]) in
        omega (arith, less, more, s.counted)

    -- each judged box has its line, and no other box has one
    written : (e : ℕ) (v : Tree) → IsPart l (tree_of l) 0 e v
        → with_entry Q (line_of l (root u)) g (spot_of l e (root v)) ≡ (if done_in l (Some Q) e (root v) then Some (line_of l (root v)) else None)
    written e v i = go (is_eq (spot_cmp Q (spot_of l e (root v)))) refl where
      same_done : is_eq (spot_cmp Q (spot_of l e (root v))) ≡ false → done_in l last e (root v) ≡ done_in l (Some Q) e (root v)
      same_done x = both_ways (done_in l last e (root v)) (done_in l (Some Q) e (root v)) (older (spot_of l e (root v)))
          (λ h. elim (newly e v i h) as (λ _. done_in l last e (root v) ≡ true) [
            | inl y ↦ y
            | inr y ↦ absurd (false≢true (sym x ∙ eq y.0 y.1))
          ]) where
            eq : e ≡ d → v ≡ u → is_eq (spot_cmp Q (spot_of l e (root v))) ≡ true
            eq a b = (λ k. is_eq (spot_cmp Q (spot_of l (a k) (root (b k))))) ∙ ap is_eq (tied_itself spots_are_ordered Q)

      go : (c : Bool) → is_eq (spot_cmp Q (spot_of l e (root v))) ≡ c
          → (if c then Some (line_of l (root u)) else g (spot_of l e (root v))) ≡ (if done_in l (Some Q) e (root v) then Some (line_of l (root v)) else None)
      go false x = s.written e v i ∙ ap (λ b. if b then Some (line_of l (root v)) else None) (same_done x)
      go true x =
          let spots = spot_same Q (spot_of l e (root v)) x in
          let part = same_part l (tree_of l) 0 e v u (whole l lawful) i (subst (λ k. IsPart l (tree_of l) 0 k u) (ap (λ (z : Spot). z.depth) spots) at_u) (sym (ap (λ (z : Spot). z.key.steps) spots)) in
          let done : done_in l (Some Q) e (root v) ≡ true = subst (λ z. is_done (Some Q) z ≡ true) spots itself in
          ap (λ w. Some (line_of l (root w))) (sym part) ∙ sym (ap (λ b. if b then Some (line_of l (root v)) else None) done)

    waits_at : (z : Spot) (b : Span) → fnew z ≡ Some b → IsAt l z b
    waits_at z b h = elim (t.new z b h) as (λ _. IsAt l z b) [
      | inl x ↦ s.waits z b x.0
      | inr c ↦ record {
        part = c.part;
        at = subst (λ k. IsPart l (tree_of l) 0 k c.part) (sym c.depth) (part_trans l (tree_of l) 0 d (d + 1) u c.part at_u c.at);
        box = c.box;
        place = c.place;
      }
    ]

    -- each other box that waits stands after this one
    not_tied : (z : Spot) (b : Span) → f z ≡ Some b → is_eq (spot_cmp Q z) ≡ false → precedes Q z ≡ true
    not_tied z b h x = by (precedes Q z) (λ y. y)
        (λ y.
        let a = s.waits z b h in
        let low = least z b h in
        absurd (false≢true (sym x ∙ equal_test Q z y low)))

    later : (z : Spot) (b : Span) → fnew z ≡ Some b → is_done (Some Q) z ≡ false
    later z b h = elim (t.new z b h) as (λ _. is_done (Some Q) z ≡ false) [
      | inl x ↦ ap not (not_tied z b x.0 x.1)
      | inr c ↦
          let up = below_after l lawful u c.part d (d + 1) (at_tree l lawful d u at_u) c.at in
          let at : spot_of l (d + 1) (root c.part) ≡ z = (λ i. spot_of l (sym c.depth i) (c.box i)) ∙ sym c.place in
          let apart_ : precedes Q (spot_of l (d + 1) (root c.part)) ≡ true = by (precedes Q (spot_of l (d + 1) (root c.part))) (λ y. y)
          (λ y. absurd (not_next d (tied Q (spot_of l (d + 1) (root c.part)) y up).depth)) in
          ap not (subst (λ w. precedes Q w ≡ true) at apart_)
    ] where
      not_next : (m : ℕ) → m ≡ m + 1 → ⊥
      not_next m e = omega (arith, e)

    -- a recipe of a child is a recipe of the judged box, and of no other box that waits
    of_child : (z : Spot) (b : Span) (r : List ℕ) → IsChild z b → IsWithin r b → IsWithin r (root u)
    of_child z b r c x =
        within_inside r b (root u) x (subst (λ a. IsInside a (root u)) c.box (part_inside l u d (d + 1) c.part (at_tree l lawful d u at_u) c.at))

    not_child : (z y : Spot) (b c : Span) (r : List ℕ) → f z ≡ Some b → is_eq (spot_cmp Q z) ≡ false → IsChild y c → IsWithin r b → IsWithin r c → ⊥
    not_child z y b c r h k m x w =
        let same : z ≡ Q = s.disjoint z Q b (root u) r h here x (of_child y c r m w) in
        false≢true (sym k ∙ subst (λ q. is_eq (spot_cmp Q q) ≡ true) (sym same) (ap is_eq (tied_itself spots_are_ordered Q)))

    one_child : (z y : Spot) (b c : Span) (r : List ℕ) → IsChild z b → IsChild y c → IsWithin r b → IsWithin r c → z ≡ y
    one_child z y b c r m o x w =
        let same = shared_part l u d (d + 1) m.part o.part r (at_tree l lawful d u at_u) m.at o.at (subst (IsWithin r) (sym m.box) x) (subst (IsWithin r) (sym o.box) w) in
        let depth : z.depth ≡ y.depth = m.depth ∙ sym o.depth in
        let box : b ≡ c = sym m.box ∙ ap root same ∙ o.box in
        m.place ∙ (λ j. spot_of l (depth j) (box j)) ∙ sym o.place

    disjoint_after : (z y : Spot) (b c : Span) (r : List ℕ) → fnew z ≡ Some b → fnew y ≡ Some c → IsWithin r b → IsWithin r c → z ≡ y
    disjoint_after z y b c r h k x w = elim (t.new z b h) as (λ _. z ≡ y) [
      | inl p ↦ elim (t.new y c k) as (λ _. z ≡ y) [
        | inl q ↦ s.disjoint z y b c r p.0 q.0 x w
        | inr m ↦ absurd (not_child z y b c r p.0 p.1 m x w)
      ]
      | inr m ↦ elim (t.new y c k) as (λ _. z ≡ y) [
        | inl q ↦ absurd (not_child y z c b r q.0 q.1 m w x)
        | inr o ↦ one_child z y b c r m o x w
      ]
    ]

    covers : (e : ℕ) (v : Tree) → IsPart l (tree_of l) 0 e v → done_in l (Some Q) e (root v) ≡ false → IsCovered l fnew e v
    covers e v i h = go (s.covers e v i (by (done_in l last e (root v)) (λ x. absurd (true≢false (sym (older (spot_of l e (root v)) x) ∙ h))) (λ x. x))) where
      mine : (c : IsCovered l f e v) → is_eq (spot_cmp Q (spot_of l c.depth (root c.above))) ≡ true → IsCovered l fnew e v
      mine c x =
          let spots = spot_same Q (spot_of l c.depth (root c.above)) x in
          let depth : d ≡ c.depth = ap (λ (z : Spot). z.depth) spots in
          let part : c.above ≡ u = same_part l (tree_of l) 0 c.depth c.above u (whole l lawful) c.at (subst (λ k. IsPart l (tree_of l) 0 k u) depth at_u) (sym (ap (λ (z : Spot). z.key.steps) spots)) in
          let below = subst (λ k. IsPart l u k e v) (sym depth) (subst (λ w. IsPart l w c.depth e v) part c.below) in
          elim (t.below e v below) as (λ _. IsCovered l fnew e v) [
            | inl y ↦ absurd (true≢false (sym ((λ k. done_in l (Some Q) (y.0 k) (root (y.1 k))) ∙ itself) ∙ h))
            | inr y ↦ y
          ]

      go : IsCovered l f e v → IsCovered l fnew e v
      go c = by (is_eq (spot_cmp Q (spot_of l c.depth (root c.above)))) (mine c)
          (λ x. record {
            depth = c.depth;
            above = c.above;
            at = c.at;
            below = c.below;
            waits = t.keeps (spot_of l c.depth (root c.above)) (root c.above) (record { part = c.above; at = c.at; box = refl; place = refl }) c.waits x;
          })

    shallow : (z : Spot) (b : Span) → fnew z ≡ Some b → z.depth ≤ n + 1
    shallow z b h = elim (t.new z b h) as (λ _. z.depth ≤ n + 1) [
      | inl x ↦ omega (arith, s.shallow z b x.0)
      | inr c ↦ omega (arith, c.depth, s.shallow Q (root u) here)
    ]

    -- the recipes of the lines that pass a test, with that of this box or without it
    abbrev pub one_more : Bool → List (List ℕ) → List (List ℕ)
    one_more c recipes = if c then recipes ++ (root u).lo ∷ [] else recipes

    module _ (test : CertLine → Bool) (lone : (b : Span) → IsSound l b → test (line_of l b) ≡ true → is_single b ≡ true) (recipes : List (List ℕ)) (old : HasRecipes l test last n recipes) where
      older_recipe : (r : List ℕ) → IsRecipe l test last r → IsRecipe l test (Some Q) r
      older_recipe r o = record { depth = o.depth; part = o.part; at = o.at; judged = older (spot_of l o.depth (root o.part)) o.judged; line = o.line; corner = o.corner }

      before_this : test (line_of l (root u)) ≡ true → (r : List ℕ) → IsRecipe l test last r → is_before l r (root u).lo ≡ true
      before_this h r o =
          let v = o.part in
          let i = at_tree l lawful o.depth v o.at in
          let one = alone l v i (lone (root v) (at_sound l lawful o.depth v o.at) o.line) in
          let two = alone l u (at_tree l lawful d u at_u) (lone (root u) (at_sound l lawful d u at_u) h) in
          let soon = earlier (spot_of l o.depth (root v)) o.judged in
          let key = key_not_before Q (spot_of l o.depth (root v)) (not_both (spot_of l o.depth (root v)) Q soon) in
          subst (λ w. is_before l w (root u).lo ≡ true) o.corner (by (is_before l (root v).lo (root u).lo) (λ y. y)
          (λ y.
          let same : (root v).lo ≡ (root u).lo = tied_keys (key_of l (root v).lo) (key_of l (root u).lo) y key in
          let leaf_v = subst (λ w. IsPart l (tree_of l) 0 o.depth w) (sym one) o.at in
          let leaf_u = subst (λ w. IsPart l (tree_of l) 0 d w) (sym two) at_u in
          let x = alike l lawful o.depth d (root v) u leaf_v at_u same in
          let z = alike l lawful d o.depth (root u) v leaf_u o.at (sym same) in
          let depth : o.depth ≡ d = omega (arith, x, z) in
          let spots = not_itself Q in
          absurd (false≢true (sym spots ∙ subst (λ w. precedes w Q ≡ true) (λ k. record { key = key_of l (same k); depth = depth k }) soon))))

      rising : (c : Bool) → (c ≡ true → test (line_of l (root u)) ≡ true) → IsRising l (one_more c recipes)
      rising false h = old.rising
      rising true h = all_pairs_push (λ a b. is_before l a b ≡ true) recipes (root u).lo old.rising
          (λ k w x. before_this (h refl) (get_or recipes k w) (All-get_or (IsRecipe l test last) recipes k w x old.each))

      each : (c : Bool) → (c ≡ true → test (line_of l (root u)) ≡ true) → All (IsRecipe l test (Some Q)) (one_more c recipes)
      each false h = All-weaker (IsRecipe l test last) (IsRecipe l test (Some Q)) older_recipe recipes old.each
      each true h =
          All-push (IsRecipe l test (Some Q)) recipes (root u).lo (All-weaker (IsRecipe l test last) (IsRecipe l test (Some Q)) older_recipe recipes old.each)
          (record { depth = d; part = u; at = at_u; judged = itself; line = h refl; corner = refl })

      every : (c : Bool) → c ≡ test (line_of l (root u)) → (e : ℕ) (v : Tree) → IsPart l (tree_of l) 0 e v → done_in l (Some Q) e (root v) ≡ true → test (line_of l (root v)) ≡ true
          → Contains (one_more c recipes) (root v).lo
      every false h e v i x y = elim (newly e v i x) as (λ _. Contains recipes (root v).lo) [
        | inl z ↦ old.every e v i z y
        | inr z ↦ absurd (false≢true (h ∙ (λ k. test (line_of l (root (sym z.1 k)))) ∙ y))
      ]
      every true h e v i x y = elim (newly e v i x) as (λ _. Contains (recipes ++ (root u).lo ∷ []) (root v).lo) [
        | inl z ↦ Contains-append_left recipes ((root u).lo ∷ []) (root v).lo (old.every e v i z y)
        | inr z ↦ subst (λ w. Contains (recipes ++ (root u).lo ∷ []) (root w).lo) (sym z.1) (Contains-push recipes (root u).lo)
      ]

      short : (c : Bool) → length (one_more c recipes) ≤ n + 1
      short false = omega (arith, old.short)
      short true = omega (arith, old.short, length-append recipes ((root u).lo ∷ []))

      has_more : HasRecipes l test (Some Q) (n + 1) (one_more (test (line_of l (root u))) recipes)
      has_more = record {
        rising = rising (test (line_of l (root u))) (λ x. x);
        each = each (test (line_of l (root u))) (λ x. x);
        every = every (test (line_of l (root u))) refl;
        short = short (test (line_of l (root u)));
      }

    pub step : State l fnew (with_entry Q (line_of l (root u)) g) (Some Q) (n + 1) (one_more (is_pass_line (line_of l (root u))) matched) (one_more (is_undecided_line (line_of l (root u))) listed)
    step = record {
      waits = waits_at;
      later = later;
      disjoint = disjoint_after;
      covers = covers;
      counted = counted;
      written = written;
      passing = has_more is_pass_line (λ b i h. (passing l b h).0.alone) matched s.passing;
      undecided = has_more is_undecided_line (λ b i h. (undecided l b lawful i h).0.alone) listed s.undecided;
      shallow = shallow;
    }
