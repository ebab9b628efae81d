-- The tree of boxes, and its parts.
use Rattle.std.proofs.Common.{◌≡◌, ◌+◌, ◌<◌, ◌≤◌, ◌||◌, ℕ, zero, suc, List, [], ◌∷◌, Bool, true, false, length, get_or, if◌then◌else◌, refl, sym, ap, subst, ◌∙◌, inl, inr, arith}
use Rattle.std.specs.List.{slice_set}
use Rattle.std.proofs.lemmas.Bool.{cases_lt, false≢true, or_right}
use Rattle.std.proofs.lemmas.Slice.Eq.{bytes_eq-Decides}
use Rattle.price_grid.specs.Grid.{IsUpTo}
use Rattle.box_specs.specs.Canonical.{IsPart}
use Rattle.box_specs.specs.Landscape.{IsSound, Land, is_final, is_shut}
use Rattle.box_specs.specs.Span.{IsBox, IsInside, IsWithin, Span, is_single, single}
use Rattle.box_specs.specs.Splits.{cut_of, lower_half, upper_half}
use Rattle.box_specs.specs.Tree.{Tree, count, fork, grow, leaf, root, spread, tree_of}
use Rattle.box_search.specs.Trees.{IsSoundTree}
use Rattle.box_specs.proofs.Cuts.{Cuts, cut_fits, from_lower, from_upper, in_lower, in_upper, lower_is_box, not_both, upper_is_box}
use Rattle.box_specs.proofs.Spans.{inside_itself, up_to_itself, up_to_trans, within_inside}

-- a box of one recipe has two equal corners
pub single_corners : (b : Span) → is_single b ≡ true → b.lo ≡ b.hi
single_corners b h = (bytes_eq-Decides b.lo b.hi).0 h

pub single_is : (b : Span) → is_single b ≡ true → single b.lo ≡ b
single_is b h = λ i. record { lo = b.lo; hi = single_corners b h i }

pub less_spread : (low high : List ℕ) (i mid : ℕ) → i < length low → get_or low i 0 ≤ mid → mid < get_or high i 0 → IsUpTo low high
    → (spread low (slice_set high i mid) + 1 ≤ spread low high) × (spread (slice_set low i (mid + 1)) high + 1 ≤ spread low high)
less_spread [] high i mid h k m u = absurd (omega arith)
less_spread (x ∷ low) [] i mid h k m u = absurd u
less_spread (x ∷ low) (y ∷ high) zero mid h k m u = (omega (arith, k, m), omega (arith, k, m))
less_spread (x ∷ low) (y ∷ high) (suc i) mid h k m u =
    let rest = less_spread low high i mid (omega (arith, h)) k m u.1 in
    (omega (arith, rest.0), omega (arith, rest.1))

no_spread : (low high : List ℕ) → IsUpTo low high → spread low high ≡ 0 → low ≡ high
no_spread [] [] h e = refl
no_spread [] (y ∷ high) h e = absurd h
no_spread (x ∷ low) [] h e = absurd h
no_spread (x ∷ low) (y ∷ high) h e =
    let first : x ≡ y = omega (arith, h.0, e) in
    λ i. first i ∷ no_spread low high h.1 (omega (arith, e)) i

open_parts : (s t : Bool) → s || t ≡ false → t ≡ false
open_parts true t e = absurd (false≢true (sym e))
open_parts false t e = e

module _ (l : Land) where
  pub open_single : (b : Span) → is_final l b ≡ false → is_single b ≡ false
  open_single b h = open_parts (is_shut l b) (is_single b) h

  -- a tree of sound boxes whose box is a single recipe is a leaf
  pub alone : (v : Tree) → IsSoundTree l v → is_single (root v) ≡ true → leaf (root v) ≡ v
  alone (leaf b) i h = refl
  alone (fork b x y) i h = absurd (false≢true (sym i.1 ∙ or_right (is_shut l b) (is_single b) h))

  -- what holds of the halves of a box that is split
  pub record Halved (b : Span) : Type 0 where
    pub cuts : Cuts b (cut_of b)
    pub lower : IsSound l (lower_half b (cut_of b))
    pub upper : IsSound l (upper_half b (cut_of b))
    pub lower_in : IsInside (lower_half b (cut_of b)) b
    pub upper_in : IsInside (upper_half b (cut_of b)) b

  pub inside_trans : (a b c : Span) → IsInside a b → IsInside b c → IsInside a c
  inside_trans a b c h k = (up_to_trans c.lo b.lo a.lo k.0 h.0, up_to_trans a.hi b.hi c.hi h.1 k.1)

  pub halved : (b : Span) → IsSound l b → is_final l b ≡ false → Halved b
  halved b s h =
      let c = cut_fits b s.box (open_single b h) in
      let low = lower_is_box b (cut_of b) s.box c in
      let high = upper_is_box b (cut_of b) s.box c in
      let low_in : IsInside (lower_half b (cut_of b)) b = (up_to_itself b.lo, (from_lower b (cut_of b) s.box c (lower_half b (cut_of b)).hi (low, up_to_itself _)).1) in
      let high_in : IsInside (upper_half b (cut_of b)) b = ((from_upper b (cut_of b) s.box c (upper_half b (cut_of b)).lo (up_to_itself _, high)).0, up_to_itself b.hi) in
      record {
        cuts = c;
        lower = record { box = low; inside = inside_trans _ _ _ low_in s.inside };
        upper = record { box = high; inside = inside_trans _ _ _ high_in s.inside };
        lower_in = low_in;
        upper_in = high_in;
      }

  pub sound_of : (t : Tree) → IsSoundTree l t → IsSound l (root t)
  sound_of (leaf b) h = h.0
  sound_of (fork b lower upper) h = h.0

  pub root_grow : (n : ℕ) (b : Span) → root (grow l n b) ≡ b
  root_grow zero b = refl
  root_grow (suc n) b = go (is_final l b) where
    go : (t : Bool) → root (if t then leaf b else fork b (grow l n (lower_half b (cut_of b))) (grow l n (upper_half b (cut_of b)))) ≡ b
    go true = refl
    go false = refl

  final_single : (b : Span) → is_single b ≡ true → is_final l b ≡ true
  final_single b h = or_right (is_shut l b) (is_single b) h

  pub grown : (n : ℕ) (b : Span) → IsSound l b → spread b.lo b.hi ≤ n → IsSoundTree l (grow l n b)
  grown zero b s h = (s, final_single b ((bytes_eq-Decides b.lo b.hi).1 (no_spread b.lo b.hi s.box (omega (arith, h)))))
  grown (suc n) b s h = go (grown n) (is_final l b) refl where
    go : ((c : Span) → IsSound l c → spread c.lo c.hi ≤ n → IsSoundTree l (grow l n c)) → (t : Bool) → is_final l b ≡ t
        → IsSoundTree l (if t then leaf b else fork b (grow l n (lower_half b (cut_of b))) (grow l n (upper_half b (cut_of b))))
    go below true e = (s, e)
    go below false e =
        let two = halved b s e in
        let less = less_spread b.lo b.hi (cut_of b).dye (cut_of b).mid two.cuts.there two.cuts.low two.cuts.high s.box in
        (s, e, root_grow n _, root_grow n _, below _ two.lower (omega (arith, h, less.0)), below _ two.upper (omega (arith, h, less.1)))

  pub whole_tree : IsBox l.top → IsSoundTree l (tree_of l)
  whole_tree box = grown (spread l.top.lo l.top.hi) l.top (record { box = box; inside = (up_to_itself l.top.lo, up_to_itself l.top.hi) }) (omega arith)

  pub whole_root : root (tree_of l) ≡ l.top
  whole_root = root_grow (spread l.top.lo l.top.hi) l.top

module _ (l : Land) where
  -- a tree is a part of itself; its parts stand no higher than it, are trees, and lie inside its
  -- box
  pub part_root : (t : Tree) (k : ℕ) → IsPart l t k k t
  part_root (leaf b) k = (refl, refl)
  part_root (fork b lower upper) k = inl (refl, refl)

  pub part_deep : (t : Tree) (k d : ℕ) (u : Tree) → IsPart l t k d u → k ≤ d
  part_deep (leaf b) k d u h = omega (arith, h.0)
  part_deep (fork b lower upper) k d u (inl h) = omega (arith, h.0)
  part_deep (fork b lower upper) k d u (inr (inl h)) = omega (arith, part_deep lower (k + 1) d u h)
  part_deep (fork b lower upper) k d u (inr (inr h)) = omega (arith, part_deep upper (k + 1) d u h)

  pub part_tree : (t : Tree) (k d : ℕ) (u : Tree) → IsSoundTree l t → IsPart l t k d u → IsSoundTree l u
  part_tree (leaf b) k d u i h = subst (IsSoundTree l) h.1 i
  part_tree (fork b lower upper) k d u i (inl h) = subst (IsSoundTree l) h.1 i
  part_tree (fork b lower upper) k d u i (inr (inl h)) = part_tree lower (k + 1) d u i.4 h
  part_tree (fork b lower upper) k d u i (inr (inr h)) = part_tree upper (k + 1) d u i.5 h

  pub part_inside : (t : Tree) (k d : ℕ) (u : Tree) → IsSoundTree l t → IsPart l t k d u → IsInside (root u) (root t)
  part_inside (leaf b) k d u i h = subst (λ v. IsInside (root v) b) h.1 (inside_itself b)
  part_inside (fork b lower upper) k d u i (inl h) = subst (λ v. IsInside (root v) b) h.1 (inside_itself b)
  part_inside (fork b lower upper) k d u i (inr (inl h)) =
      inside_trans l _ _ _ (subst (λ c. IsInside (root u) c) i.2 (part_inside lower (k + 1) d u i.4 h)) (halved l b i.0 i.1).lower_in
  part_inside (fork b lower upper) k d u i (inr (inr h)) =
      inside_trans l _ _ _ (subst (λ c. IsInside (root u) c) i.3 (part_inside upper (k + 1) d u i.5 h)) (halved l b i.0 i.1).upper_in

  -- no recipe lies in parts of both halves
  pub disjoint : (b : Span) (lower upper : Tree) (k d e : ℕ) (u v : Tree) (r : List ℕ) → IsSoundTree l (fork b lower upper) → IsPart l lower k d u → IsPart l upper k e v
      → IsWithin r (root u) → IsWithin r (root v) → ⊥
  disjoint b lower upper k d e u v r i h m x y =
      let low = subst (λ c. IsWithin r c) i.2 (within_inside r _ _ x (part_inside lower k d u i.4 h)) in
      let high = subst (λ c. IsWithin r c) i.3 (within_inside r _ _ y (part_inside upper k e v i.5 m)) in
      not_both b (cut_of b) i.0.box (halved l b i.0 i.1).cuts r low high

  -- a leaf whose box has the recipe r
  pub record LeafFor (t : Tree) (k : ℕ) (r : List ℕ) : Type 0 where
    pub depth : ℕ
    pub box : Span
    pub part : IsPart l t k depth (leaf box)
    pub within : IsWithin r box

  pub leaf_for : (t : Tree) (k : ℕ) (r : List ℕ) → IsSoundTree l t → IsWithin r (root t) → LeafFor t k r
  leaf_for (leaf b) k r i h = record { depth = k; box = b; part = (refl, refl); within = h }
  leaf_for (fork b lower upper) k r i h = elim (cases_lt (cut_of b).mid (get_or r (cut_of b).dye 0)) as (λ _. LeafFor (fork b lower upper) k r) [
    | inl above ↦
        let two = halved l b i.0 i.1 in
        let found = leaf_for upper (k + 1) r i.5 (subst (λ c. IsWithin r c) (sym i.3) (in_upper b (cut_of b) i.0.box two.cuts r h above)) in
        record { depth = found.depth; box = found.box; part = inr (inr found.part); within = found.within }
    | inr below ↦
        let two = halved l b i.0 i.1 in
        let found = leaf_for lower (k + 1) r i.4 (subst (λ c. IsWithin r c) (sym i.2) (in_lower b (cut_of b) i.0.box two.cuts r h below)) in
        record { depth = found.depth; box = found.box; part = inr (inl found.part); within = found.within }
  ]

  abbrev is_leaf : Tree → Bool
  is_leaf (leaf b) = true
  is_leaf (fork b lower upper) = false

  -- each part that has a recipe of a leaf is that leaf or stands above it
  pub over : (t : Tree) (k d e : ℕ) (b : Span) (v : Tree) (r : List ℕ) → IsSoundTree l t → IsPart l t k d (leaf b) → IsPart l t k e v → IsWithin r b → IsWithin r (root v)
      → IsPart l v e d (leaf b)
  over (leaf c) k d e b v r i h m x y = subst (λ w. IsPart l w e d (leaf b)) m.1 (sym m.0 ∙ h.0, h.1)
  over (fork c lower upper) k d e b v r i h (inl m) x y =
      let F : ℕ → Type 0 = λ n. IsPart l (fork c lower upper) n d (leaf b) in
      subst (λ w. IsPart l w e d (leaf b)) m.1 (subst F m.0 h)
  over (fork c lower upper) k d e b v r i (inl h) (inr m) x y = absurd (false≢true (ap is_leaf h.1))
  over (fork c lower upper) k d e b v r i (inr (inl h)) (inr (inl m)) x y = over lower (k + 1) d e b v r i.4 h m x y
  over (fork c lower upper) k d e b v r i (inr (inl h)) (inr (inr m)) x y = absurd (disjoint c lower upper (k + 1) d e (leaf b) v r i h m x y)
  over (fork c lower upper) k d e b v r i (inr (inr h)) (inr (inl m)) x y = absurd (disjoint c lower upper (k + 1) e d v (leaf b) r i m h y x)
  over (fork c lower upper) k d e b v r i (inr (inr h)) (inr (inr m)) x y = over upper (k + 1) d e b v r i.5 h m x y

  one_le : (a b : Bool) → (a ≡ true → b ≡ true) → (if a then 1 else 0) ≤ (if b then 1 else 0)
  one_le true b h = rw (h refl) (omega arith)
  one_le false b h = omega arith

  -- where each part that passes p passes q too, no more parts pass p than q
  pub count_le : (p q : ℕ → Span → Bool) (t : Tree) (k : ℕ) → ((d : ℕ) (u : Tree) → IsPart l t k d u → p d (root u) ≡ true → q d (root u) ≡ true) → count p k t ≤ count q k t
  count_le p q (leaf b) k h = one_le (p k b) (q k b) (h k (leaf b) (refl, refl))
  count_le p q (fork b lower upper) k h =
      let here = one_le (p k b) (q k b) (h k (fork b lower upper) (inl (refl, refl))) in
      let low = count_le p q lower (k + 1) (λ d u i. h d u (inr (inl i))) in
      let high = count_le p q upper (k + 1) (λ d u i. h d u (inr (inr i))) in
      omega (arith, here, low, high)

  -- and fewer do, where one part passes only q
  pub count_lt : (p q : ℕ → Span → Bool) (t : Tree) (k e : ℕ) (v : Tree) → ((d : ℕ) (u : Tree) → IsPart l t k d u → p d (root u) ≡ true → q d (root u) ≡ true)
      → IsPart l t k e v → p e (root v) ≡ false → q e (root v) ≡ true → count p k t < count q k t
  count_lt p q (leaf b) k e v h i m n = go (p k b) (q k b) (back p m) (back q n) where
    back : {c : Bool} (f : ℕ → Span → Bool) → f e (root v) ≡ c → f k b ≡ c
    back {c = c} f x = subst (λ j. f j b ≡ c) (sym i.0) (subst (λ w. f e (root w) ≡ c) (sym i.1) x)

    go : (x y : Bool) → x ≡ false → y ≡ true → (if x then 1 else 0) < (if y then 1 else 0)
    go x y f g = rw (f, g) (omega arith)
  count_lt p q (fork b lower upper) k e v h (inl i) m n =
      let low = count_le p q lower (k + 1) (λ d u j. h d u (inr (inl j))) in
      let high = count_le p q upper (k + 1) (λ d u j. h d u (inr (inr j))) in
      let here = go (p k b) (q k b) (back p m) (back q n) in
      omega (arith, here, low, high) where
        back : {c : Bool} (f : ℕ → Span → Bool) → f e (root v) ≡ c → f k b ≡ c
        back {c = c} f x = subst (λ j. f j b ≡ c) (sym i.0) (subst (λ w. f e (root w) ≡ c) (sym i.1) x)

        go : (x y : Bool) → x ≡ false → y ≡ true → (if x then 1 else 0) < (if y then 1 else 0)
        go x y f g = rw (f, g) (omega arith)
  count_lt p q (fork b lower upper) k e v h (inr (inl i)) m n =
      let here = one_le (p k b) (q k b) (h k (fork b lower upper) (inl (refl, refl))) in
      let low = count_lt p q lower (k + 1) e v (λ d u j. h d u (inr (inl j))) i m n in
      let high = count_le p q upper (k + 1) (λ d u j. h d u (inr (inr j))) in
      omega (arith, here, low, high)
  count_lt p q (fork b lower upper) k e v h (inr (inr i)) m n =
      let here = one_le (p k b) (q k b) (h k (fork b lower upper) (inl (refl, refl))) in
      let low = count_le p q lower (k + 1) (λ d u j. h d u (inr (inl j))) in
      let high = count_lt p q upper (k + 1) e v (λ d u j. h d u (inr (inr j))) i m n in
      omega (arith, here, low, high)
