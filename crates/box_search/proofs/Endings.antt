-- How a search begins, goes on and ends.
use Rattle.std.proofs.Common.{◌≡◌, ◌+◌, ◌-◌, ◌<◌, ◌≤◌, ◌++◌, not, ℕ, List, [], ◌∷◌, Bool, true, false, length, take, length-append, if◌then◌else◌, refl, sym, ap, subst, ◌∙◌, ◌⊎◌, inl, inr, arith}
use Rattle.std.specs.Prelude.{Option, Some, None}
use Rattle.std.specs.List.{AllByRecursion, Contains, slice_get}
use Rattle.std.specs.Ordering.{is_eq}
use Rattle.std.specs.Cmp.{tied_itself}
use Rattle.std.proofs.lemmas.Bool.{false≢true}
use Rattle.std.proofs.lemmas.List.Elements.{All-contains, All-from_recursion, All-nil, All-weaker}
use Rattle.box_specs.specs.declared.certificate.CertLine.{CertLine}
use Rattle.box_specs.specs.declared.certificate.CertLine.TheVariants.{Dear}
use Rattle.box_specs.specs.Answer.{kth_match, matches}
use Rattle.box_specs.specs.Canonical.{IsPart, canonical_lines, is_judged, line_of}
use Rattle.box_specs.specs.Landscape.{IsLawful, Land, is_before, is_final, key_of, IsSound}
use Rattle.box_specs.specs.Span.{IsWithin, Span}
use Rattle.box_specs.specs.Splits.{cut_of, lower_half, upper_half}
use Rattle.box_specs.specs.Tree.{Spot, Tree, count, fork, is_needed, leaf, need_to, rank, root, spot_cmp, spot_of, tree_of}
use Rattle.box_specs.specs.Order.{IsRising}
use Rattle.box_search.specs.Found.{AreRecipesOf, need_for}
use Rattle.box_specs.specs.Validity.{corners, is_listed, is_pass_line, is_undecided_line}
use Rattle.box_specs.proofs.Answers.{never_before_itself}
use Rattle.box_specs.proofs.Cuts.{not_both as not_both_halves}
use Rattle.box_search.specs.State.{IsAt, IsCovered, HasRecipes, IsRecipe, State, done_in, is_done, with_entry, without}
use Rattle.box_search.proofs.Judging.{IsChild, Turned, corner_in_box, entry_cases, equal_test, part_trans, same_part, spot_same, without_cases}
use Rattle.std.proofs.lemmas.Option.{none-some}
use Rattle.box_search.proofs.Orders.{before_by_key, before_on, key_not_before, next_deeper, not_after, not_both, not_deeper, not_itself, on_before, precedes, spot_up, spots_are_ordered}
use Rattle.box_specs.proofs.Keys.{tied_keys}
use Rattle.box_search.proofs.Ranks.{alike, at_sound, at_tree, below_after, judged_above, whole}
use Rattle.box_specs.proofs.Tests.{by, ge_test, lt_test, not_false, not_true}
use Rattle.box_search.specs.Trees.{IsSoundTree}
use Rattle.box_search.proofs.Trees.{alone, count_le, count_lt, halved, part_root, whole_root}
use Rattle.box_specs.proofs.Spans.{corner_within}
use Rattle.box_search.proofs.Valid.{MatchLeaf, at_top, corner_in, line_match, match_leaf}
use Rattle.box_search.proofs.Matches.{IsMatch, kth_is, last_at, match_in, matches_all, matches_rise, rest_listed, take_own}
use Rattle.box_search.proofs.Rising.{not_twice, prefix}
use Rattle.box_specs.proofs.Lists.{listed_of}
use Rattle.box_search.proofs.Walks.{corners_are, mark, passing}

pub equal_itself : (z : Spot) → is_eq (spot_cmp z z) ≡ true
equal_itself z = ap is_eq (tied_itself spots_are_ordered z)

-- a map with both halves of a box
abbrev pub with_halves : Land → ℕ → Span → (Spot → Option Span) → Spot → Option Span
with_halves l d b f =
    with_entry (spot_of l (d + 1) (lower_half b (cut_of b))) (lower_half b (cut_of b)) (with_entry (spot_of l (d + 1) (upper_half b (cut_of b))) (upper_half b (cut_of b)) f)

-- the halves of a box have different places
pub two_places : (l : Land) (d : ℕ) (b : Span) → IsSound l b → is_final l b ≡ false → is_eq (spot_cmp (spot_of l d (lower_half b (cut_of b))) (spot_of l d (upper_half b (cut_of b)))) ≡ false
two_places l d b i h = by (is_eq (spot_cmp (spot_of l d (lower_half b (cut_of b))) (spot_of l d (upper_half b (cut_of b)))))
    (λ x.
    let corner : b.lo ≡ (upper_half b (cut_of b)).lo = ap (λ (q : Spot). q.key.steps) (spot_same (spot_of l d (lower_half b (cut_of b))) (spot_of l d (upper_half b (cut_of b))) x) in
    let two = halved l b i h in
    absurd (not_both_halves b (cut_of b) i.box two.cuts b.lo (corner_in_box l (lower_half b (cut_of b)) two.lower)
    (subst (λ r. IsWithin r (upper_half b (cut_of b))) (sym corner) (corner_in_box l (upper_half b (cut_of b)) two.upper))))
    (λ x. x)

module _ (l : Land) (lawful : IsLawful l) where
  module _ (f : Spot → Option Span) (g : Spot → Option CertLine) (last : Option Spot) (n : ℕ) (matched listed : List (List ℕ)) (d : ℕ) where
    -- a judged box that is not split waits no longer
    pub turned_leaf : (u : Tree) → IsSoundTree l u → is_final l (root u) ≡ true → Turned l lawful f (without (spot_of l d (root u)) f) g last n matched listed d u
    turned_leaf (fork b s t) i h = absurd (false≢true (sym i.1 ∙ h))
    turned_leaf (leaf b) i h = record {
      new = λ z c k.
          let x = without_cases (spot_of l d b) f z c k in
          inl (x.1, x.0);
      keeps = λ z c a k x. ap (λ t. if t then None else f z) x ∙ k;
      below = λ e v k. inl (sym k.0, sym k.1);
    }

    -- a judged box that is split waits no longer, and its halves wait
    pub turned_fork : (u : Tree) → IsSoundTree l u → IsPart l (tree_of l) 0 d u → is_final l (root u) ≡ false
        → Turned l lawful f (with_halves l d (root u) (without (spot_of l d (root u)) f)) g last n matched listed d u
    turned_fork (leaf b) i at h = absurd (false≢true (sym h ∙ i.1))
    turned_fork (fork b s t) i at h = record { new = new; keeps = keeps; below = below } where
      Low : Span
      Low = lower_half b (cut_of b)

      High : Span
      High = upper_half b (cut_of b)

      F : Spot → Option Span
      F = without (spot_of l d b) f

      child : (w : Tree) → IsPart l (fork b s t) d (d + 1) w → (z : Spot) (c : Span) → spot_of l (d + 1) (root w) ≡ z → root w ≡ c → IsChild l lawful f F g last n matched listed d (fork b s t) z c
      child w k z c x y =
          let depth : z.depth ≡ d + 1 = sym (ap (λ (q : Spot). q.depth) x) in
          record { part = w; at = k; box = y; depth = depth; place = sym x ∙ (λ j. spot_of l (sym depth j) (y j)) }

      low_part : IsPart l (fork b s t) d (d + 1) s
      low_part = inr (inl (part_root l s (d + 1)))

      high_part : IsPart l (fork b s t) d (d + 1) t
      high_part = inr (inr (part_root l t (d + 1)))

      new : (z : Spot) (c : Span) → with_halves l d b F z ≡ Some c → ((f z ≡ Some c) × (is_eq (spot_cmp (spot_of l d b) z) ≡ false)) ⊎ IsChild l lawful f (with_halves l d b F) g last n matched listed d (fork b s t) z c
      new z c k = elim (entry_cases (spot_of l (d + 1) Low) Low (with_entry (spot_of l (d + 1) High) High F) z c k) as (λ _. ((f z ≡ Some c) × (is_eq (spot_cmp (spot_of l d b) z) ≡ false)) ⊎ IsChild l lawful f (with_halves l d b F) g last n matched listed d (fork b s t) z c) [
        | inl x ↦ inr (recast (child s low_part z c (ap (spot_of l (d + 1)) i.2 ∙ x.0) (i.2 ∙ x.1)))
        | inr y ↦ elim (entry_cases (spot_of l (d + 1) High) High F z c y) as (λ _. ((f z ≡ Some c) × (is_eq (spot_cmp (spot_of l d b) z) ≡ false)) ⊎ IsChild l lawful f (with_halves l d b F) g last n matched listed d (fork b s t) z c) [
          | inl x ↦ inr (recast (child t high_part z c (ap (spot_of l (d + 1)) i.3 ∙ x.0) (i.3 ∙ x.1)))
          | inr w ↦
              let x = without_cases (spot_of l d b) f z c w in
              inl (x.1, x.0)
        ]
      ] where
        recast : IsChild l lawful f F g last n matched listed d (fork b s t) z c → IsChild l lawful f (with_halves l d b F) g last n matched listed d (fork b s t) z c
        recast x = record { part = x.part; at = x.at; box = x.box; depth = x.depth; place = x.place }

      -- a box that waits at the place of a half is that half
      same_half : (w : Tree) → IsPart l (fork b s t) d (d + 1) w → (z : Spot) (c : Span) → IsAt l z c → is_eq (spot_cmp (spot_of l (d + 1) (root w)) z) ≡ true → root w ≡ c
      same_half w k z c a x =
          let spots = spot_same (spot_of l (d + 1) (root w)) z x in
          let depth : z.depth ≡ d + 1 = sym (ap (λ (q : Spot). q.depth) spots) in
          let whole_w = part_trans l (tree_of l) 0 d (d + 1) (fork b s t) w at k in
          let corner : (root w).lo ≡ (root a.part).lo = ap (λ (q : Spot). q.key.steps) (spots ∙ a.place) ∙ (λ j. (sym a.box j).lo) in
          ap root (same_part l (tree_of l) 0 (d + 1) w a.part (whole l lawful) whole_w (subst (λ m. IsPart l (tree_of l) 0 m a.part) depth a.at) corner) ∙ a.box

      keeps : (z : Spot) (c : Span) → IsAt l z c → f z ≡ Some c → is_eq (spot_cmp (spot_of l d b) z) ≡ false → with_halves l d b F z ≡ Some c
      keeps z c a k x = by (is_eq (spot_cmp (spot_of l (d + 1) Low) z))
          (λ y. ap (λ e. if e then Some Low else with_entry (spot_of l (d + 1) High) High F z) y ∙ ap Some (sym i.2 ∙ same_half s low_part z c a (subst (λ m. is_eq (spot_cmp (spot_of l (d + 1) m) z) ≡ true) (sym i.2) y)))
          (λ y. ap (λ e. if e then Some Low else with_entry (spot_of l (d + 1) High) High F z) y ∙ by (is_eq (spot_cmp (spot_of l (d + 1) High) z))
          (λ w. ap (λ e. if e then Some High else F z) w ∙ ap Some (sym i.3 ∙ same_half t high_part z c a (subst (λ m. is_eq (spot_cmp (spot_of l (d + 1) m) z) ≡ true) (sym i.3) w)))
          (λ w. ap (λ e. if e then Some High else F z) w ∙ ap (λ e. if e then None else f z) x ∙ k))

      low_waits : with_halves l d b F (spot_of l (d + 1) Low) ≡ Some Low
      low_waits = ap (λ e. if e then Some Low else with_entry (spot_of l (d + 1) High) High F (spot_of l (d + 1) Low)) (equal_itself (spot_of l (d + 1) Low))

      high_waits : with_halves l d b F (spot_of l (d + 1) High) ≡ Some High
      high_waits =
          ap (λ e. if e then Some Low else with_entry (spot_of l (d + 1) High) High F (spot_of l (d + 1) High)) (two_places l (d + 1) b i.0 i.1)
          ∙ ap (λ e. if e then Some High else F (spot_of l (d + 1) High)) (equal_itself (spot_of l (d + 1) High))

      covered : (w : Tree) (e : ℕ) (v : Tree) → IsPart l (fork b s t) d (d + 1) w → IsPart l w (d + 1) e v → (c : Span) → root w ≡ c → with_halves l d b F (spot_of l (d + 1) c) ≡ Some c → IsCovered l (with_halves l d b F) e v
      covered w e v k m c x y = record {
        depth = d + 1;
        above = w;
        at = part_trans l (tree_of l) 0 d (d + 1) (fork b s t) w at k;
        below = m;
        waits = subst (λ a. with_halves l d b F (spot_of l (d + 1) a) ≡ Some a) (sym x) y;
      }

      below : (e : ℕ) (v : Tree) → IsPart l (fork b s t) d e v → ((e ≡ d) × (v ≡ fork b s t)) ⊎ IsCovered l (with_halves l d b F) e v
      below e v (inl k) = inl (sym k.0, sym k.1)
      below e v (inr (inl k)) = inr (covered s e v low_part k Low i.2 low_waits)
      below e v (inr (inr k)) = inr (covered t e v high_part k High i.3 high_waits)

    -- the lower half stands before the other boxes that wait
    module _ (s : State l f g last n matched listed) (b : Span) (sound : IsSound l b) (here : f (spot_of l d b) ≡ Some b) (least : (z : Spot) (c : Span) → f z ≡ Some c → precedes z (spot_of l d b) ≡ false) where
      abbrev Here : Spot
      Here = spot_of l d b

      before_upper : is_final l b ≡ false → precedes (spot_of l (d + 1) (lower_half b (cut_of b))) (spot_of l (d + 1) (upper_half b (cut_of b))) ≡ true
      before_upper h =
          let two = halved l b sound h in
          let high = corner_within (upper_half b (cut_of b)) l.top two.upper.box two.upper.inside in
          let up = spot_up (spot_of l (d + 1) (lower_half b (cut_of b))) (spot_of l (d + 1) (upper_half b (cut_of b)))
          (lawful.grows b.lo (upper_half b (cut_of b)).lo (corner_within b l.top sound.box sound.inside) high two.upper_in.0) two.upper_in.0 (omega arith) in
          by (precedes (spot_of l (d + 1) (lower_half b (cut_of b))) (spot_of l (d + 1) (upper_half b (cut_of b)))) (λ x. x)
          (λ x. absurd (false≢true (sym (two_places l (d + 1) b sound h) ∙ equal_test (spot_of l (d + 1) (lower_half b (cut_of b))) (spot_of l (d + 1) (upper_half b (cut_of b))) x up)))

      -- a box that waits with the lower corner of this one is this one
      other_corner : (z : Spot) (c : Span) → f z ≡ Some c → z.key.steps ≡ b.lo → z ≡ Here
      other_corner z c h e =
          let a = s.waits z c h in
          let corner : c.lo ≡ b.lo = sym (ap (λ (q : Spot). q.key.steps) a.place) ∙ e in
          let sound_c = subst (IsSound l) a.box (at_sound l lawful z.depth a.part a.at) in
          s.disjoint z Here c b b.lo h here (subst (λ r. IsWithin r c) corner (corner_in_box l c sound_c)) (corner_in_box l b sound)

      before_others : (z : Spot) (c : Span) → f z ≡ Some c → is_eq (spot_cmp Here z) ≡ false → precedes (spot_of l (d + 1) (lower_half b (cut_of b))) z ≡ true
      before_others z c h k =
          let behind : precedes Here z ≡ true = by (precedes Here z) (λ x. x) (λ x. absurd (false≢true (sym k ∙ equal_test Here z x (least z c h)))) in
          by (precedes (spot_of l (d + 1) (lower_half b (cut_of b))) z) (λ x. x)
          (λ x.
          let same = spot_same (spot_of l (d + 1) (lower_half b (cut_of b))) z (equal_test (spot_of l (d + 1) (lower_half b (cut_of b))) z x (next_deeper Here z behind)) in
          let this = other_corner z c h (sym (ap (λ (q : Spot). q.key.steps) same)) in
          absurd (false≢true (sym k ∙ subst (λ q. is_eq (spot_cmp Here q) ≡ true) (sym this) (equal_itself Here))))

      pub lower_ahead : is_final l b ≡ false → (z : Spot) (c : Span) → with_entry (spot_of l (d + 1) (upper_half b (cut_of b))) (upper_half b (cut_of b)) (without Here f) z ≡ Some c
          → precedes (spot_of l (d + 1) (lower_half b (cut_of b))) z ≡ true
      lower_ahead h z c k = elim (entry_cases (spot_of l (d + 1) (upper_half b (cut_of b))) (upper_half b (cut_of b)) (without Here f) z c k) as (λ _. precedes (spot_of l (d + 1) (lower_half b (cut_of b))) z ≡ true) [
        | inl x ↦ subst (λ q. precedes (spot_of l (d + 1) (lower_half b (cut_of b))) q ≡ true) x.0 (before_upper h)
        | inr y ↦
            let x = without_cases Here f z c y in
            before_others z c x.1 x.0
      ]

  count_none : (t : Tree) (k : ℕ) → count (done_in l None) k t ≡ 0
  count_none (leaf b) k = refl
  count_none (fork b s t) k = omega (arith, count_none s (k + 1), count_none t (k + 1))

  -- at the start only the box of all recipes waits, and no box is judged
  pub first_state : State l (with_entry (spot_of l 0 l.top) l.top (λ z. None)) (λ z. None) None 0 [] []
  first_state = record {
    waits = λ z b h. elim (entry_cases (spot_of l 0 l.top) l.top (λ q. None) z b h) as (λ _. IsAt l z b) [
      | inl x ↦
          let depth : z.depth ≡ 0 = sym (ap (λ (q : Spot). q.depth) x.0) in
          record {
            part = tree_of l;
            at = subst (λ k. IsPart l (tree_of l) 0 k (tree_of l)) (sym depth) (part_root l (tree_of l) 0);
            box = whole_root l ∙ x.1;
            place = sym x.0 ∙ (λ j. spot_of l (sym depth j) (x.1 j));
          }
      | inr x ↦ absurd (none-some b x)
    ];
    later = λ z b h. refl;
    disjoint = λ z y b c r h k x w. elim (entry_cases (spot_of l 0 l.top) l.top (λ q. None) z b h) as (λ _. z ≡ y) [
      | inl p ↦ elim (entry_cases (spot_of l 0 l.top) l.top (λ q. None) y c k) as (λ _. z ≡ y) [
        | inl q ↦ sym p.0 ∙ q.0
        | inr q ↦ absurd (none-some c q)
      ]
      | inr p ↦ absurd (none-some b p)
    ];
    covers = λ e v i h. record {
      depth = 0;
      above = tree_of l;
      at = part_root l (tree_of l) 0;
      below = i;
      waits = subst (λ b. with_entry (spot_of l 0 l.top) l.top (λ q. None) (spot_of l 0 b) ≡ Some b) (sym (whole_root l)) (ap (λ c. if c then Some l.top else None) (equal_itself (spot_of l 0 l.top)));
    };
    counted = count_none (tree_of l) 0;
    written = λ e v i. refl;
    passing = no_recipes is_pass_line;
    undecided = no_recipes is_undecided_line;
    shallow = λ z b h. elim (entry_cases (spot_of l 0 l.top) l.top (λ q. None) z b h) as (λ _. z.depth ≤ 0) [
      | inl x ↦ omega (arith, ap (λ (q : Spot). q.depth) x.0)
      | inr x ↦ absurd (none-some b x)
    ];
  } where
    no_recipes : (test : CertLine → Bool) → HasRecipes l test None 0 []
    no_recipes test = record {
      rising = λ i j d a b. absurd (omega (arith, b));
      each = All-nil (IsRecipe l test None);
      every = λ e v i x y. absurd (false≢true x);
      short = omega arith;
    }

  done_down : (last : Option Spot) (w z : Spot) → is_done last z ≡ true → precedes w z ≡ true → is_done last w ≡ true
  done_down None w z h k = absurd (false≢true h)
  done_down (Some p) w z h k = ap not (by (precedes p w) (λ x. absurd (false≢true (sym (not_true (precedes p z) h) ∙ before_on p w z x (not_both w z k)))) (λ x. x))

  done_before : (last : Option Spot) (w z : Spot) → is_done last z ≡ false → is_done last w ≡ true → precedes w z ≡ true
  done_before None w z h k = absurd (false≢true k)
  done_before (Some p) w z h k = on_before w p z (not_true (precedes p w) k) (not_false (precedes p z) h)

  module _ (f : Spot → Option Span) (g : Spot → Option CertLine) (last : Option Spot) (n : ℕ) (matched listed : List (List ℕ)) (s : State l f g last n matched listed) where
    -- a box is judged exactly where its rank is less than the number of judged boxes
    pub ranked : (e : ℕ) (v : Tree) → IsPart l (tree_of l) 0 e v → is_judged l n e (root v) ≡ done_in l last e (root v)
    ranked e v i = by (done_in l last e (root v))
        (λ h.
        let less = count_lt l (λ d b. precedes (spot_of l d b) (spot_of l e (root v))) (done_in l last) (tree_of l) 0 e v (λ d w j x. done_down last (spot_of l d (root w)) (spot_of l e (root v)) h x) i (not_itself (spot_of l e (root v))) h in
        lt_test (rank l (spot_of l e (root v))) n (omega (arith, less, s.counted)) ∙ sym h)
        (λ h.
        let more = count_le l (done_in l last) (λ d b. precedes (spot_of l d b) (spot_of l e (root v))) (tree_of l) 0 (λ d w j x. done_before last (spot_of l d (root w)) (spot_of l e (root v)) h x) in
        ge_test (rank l (spot_of l e (root v))) n (omega (arith, more, s.counted)) ∙ sym h)

    -- the recipes of the judged boxes whose lines pass a test are those of the lines of the tree
    module _ (test : CertLine → Bool) (dear : test Dear ≡ false) (recipes : List (List ℕ)) (h : HasRecipes l test last n recipes) where
      abbrev Corners : List (List ℕ)
      Corners = corners test (l.top ∷ []) (canonical_lines l n)

      marked : (r : List ℕ) → IsRecipe l test last r → Contains Corners r
      marked r o =
          let judged = ranked o.depth o.part o.at ∙ o.judged in
          let there = mark l (is_judged l n) test o.depth o.part judged o.line (tree_of l) 0 (whole l lawful) o.at
          (λ d u i p. judged_above l lawful n d o.depth u o.part i p judged) [] [] in
          let at = at_top l lawful [] 0 n (λ bs xs. is_listed (corners test bs xs) (root o.part).lo ≡ true) there in
          subst (Contains Corners) o.corner (listed_of Corners (root o.part).lo at)

      pub recipes_of : AreRecipesOf l test (canonical_lines l n) recipes
      recipes_of = record {
        rising = h.rising;
        each = All-weaker (IsRecipe l test last) (Contains Corners) marked recipes h.each;
        every = All-from_recursion (Contains recipes) Corners
            (at_top l lawful [] 0 n (λ bs xs. AllByRecursion (Contains recipes) (corners test bs xs))
            (corners_are l (is_judged l n) (Contains recipes) test dear (tree_of l) 0 (whole l lawful) (λ d u i j t. h.every d u i (sym (ranked d u i) ∙ j) t) [] [] tt));
      }

    -- the recipe of a judged box that passes is a match
    recipe_match : (r : List ℕ) → IsRecipe l is_pass_line last r → IsMatch l r
    recipe_match r o = subst (IsMatch l) o.corner (corner_in l lawful o.depth o.part o.at, line_match l (root o.part) o.line)

    -- a match that stands before one of the found recipes is found too
    found_before : (y x : List ℕ) → Contains (matches l) y → Contains matched x → is_before l y x ≡ true → Contains matched y
    found_before y x in_all in_found before =
        let m = All-contains (IsMatch l) (matches l) y (matches_all l lawful.top) in_all in
        let o = All-contains (IsRecipe l is_pass_line last) matched x s.passing.each in_found in
        let at = match_leaf l lawful y m.0 m.1 in
        let key : is_before l at.box.lo (root o.part).lo ≡ true = (λ i. is_before l (at.corner i) (o.corner i)) ∙ before in
        let soon = before_by_key (spot_of l at.depth at.box) (spot_of l o.depth (root o.part)) key in
        subst (Contains matched) at.corner
        (s.passing.every at.depth (leaf at.box) at.part (done_down last (spot_of l at.depth at.box) (spot_of l o.depth (root o.part)) o.judged soon) at.line)

    -- the found recipes are the first matches
    pub found_first : (rest : List (List ℕ)) × (matches l ≡ matched ++ rest)
    found_first =
        prefix l matched (matches l) s.passing.rising (matches_rise l)
        (All-weaker (IsRecipe l is_pass_line last) (Contains (matches l)) (λ r o. match_in l r (recipe_match r o)) matched s.passing.each) found_before

    pub found_taken : matched ≡ take (length matched) (matches l)
    found_taken = sym (ap (take (length matched)) found_first.1 ∙ take_own matched found_first.0)

    -- where fewer recipes are found than are wanted, the box of the last of these is not judged yet
    pub not_done : (wanted : ℕ) → length matched < wanted → (r : List ℕ) → kth_match l wanted ≡ Some r → (x : MatchLeaf l r) → done_in l last x.depth x.box ≡ false
    not_done wanted few r e x = by (done_in l last x.depth x.box)
        (λ y. absurd (not_twice l matched found_first.0 r (subst (IsRising l) found_first.1 (matches_rise l)) (subst (Contains matched) x.corner (s.passing.every x.depth (leaf x.box) x.part y x.line))
        (rest_listed matched found_first.0 (wanted - 1) r (omega (arith, few)) (sym (ap (λ xs. slice_get xs (wanted - 1)) found_first.1) ∙ e))))
        (λ y. y)

  -- as many recipes are found as are wanted, and that of the box that was judged last is the last of
  -- them: the judged boxes are those that are needed
  module _ (f : Spot → Option Span) (g : Spot → Option CertLine) (n : ℕ) (matched listed : List (List ℕ)) (d : ℕ) (u : Tree)
      (s : State l f g (Some (spot_of l d (root u))) n matched listed) (at : IsPart l (tree_of l) 0 d u) (h : is_pass_line (line_of l (root u)) ≡ true) where
    abbrev Q : Spot
    Q = spot_of l d (root u)

    leaf_u : IsPart l (tree_of l) 0 d (leaf (root u))
    leaf_u = subst (λ w. IsPart l (tree_of l) 0 d w) (sym (alone l u (at_tree l lawful d u at) (passing l (root u) h).0.alone)) at

    needed_done : (e : ℕ) (v : Tree) → IsPart l (tree_of l) 0 e v → is_needed l (Some (root u).lo) (root v) ≡ true → done_in l (Some Q) e (root v) ≡ true
    needed_done e v i x = ap not (by (is_before l (root v).lo (root u).lo)
        (λ y. not_both (spot_of l e (root v)) Q (before_by_key (spot_of l e (root v)) Q y))
        (λ y. not_deeper (spot_of l e (root v)) Q key (alike l lawful d e (root u) v leaf_u i (tied_keys (key_of l (root u).lo) (key_of l (root v).lo) key y)))) where
          key : is_before l (root u).lo (root v).lo ≡ false
          key = not_true (is_before l (root u).lo (root v).lo) x

    need_last : need_to l (Some (root u).lo) ≡ n
    need_last =
        let more = count_le l (λ e b. is_needed l (Some (root u).lo) b) (done_in l (Some Q)) (tree_of l) 0 needed_done in
        let less = count_le l (done_in l (Some Q)) (λ e b. is_needed l (Some (root u).lo) b) (tree_of l) 0
        (λ e v i x. ap not (key_not_before Q (spot_of l e (root v)) (not_true (precedes Q (spot_of l e (root v))) x))) in
        omega (arith, more, less, s.counted)

    last_is : (wanted : ℕ) (old : List (List ℕ)) → matched ≡ old ++ (root u).lo ∷ [] → length matched ≡ wanted → kth_match l wanted ≡ Some (root u).lo
    last_is wanted old e many =
        let first = found_first f g (Some Q) n matched listed s in
        let k : wanted - 1 ≡ length old = omega (arith, many, ap length e, length-append old ((root u).lo ∷ [])) in
        ap (λ xs. slice_get xs (wanted - 1)) first.1 ∙ (λ i. slice_get (e i ++ first.0) (k i)) ∙ last_at old first.0 (root u).lo

    pub need_enough : (wanted : ℕ) (old : List (List ℕ)) → matched ≡ old ++ (root u).lo ∷ [] → length matched ≡ wanted → need_for l wanted ≡ n
    need_enough wanted old e many = ap (need_to l) (last_is wanted old e many) ∙ need_last

  module _ (f : Spot → Option Span) (g : Spot → Option CertLine) (last : Option Spot) (n : ℕ) (matched listed : List (List ℕ)) (s : State l f g last n matched listed)
      (wanted : ℕ) (few : length matched < wanted) where
    -- no box waits: there are no more matches, and all boxes are judged
    module _ (empty : (z : Spot) → f z ≡ None) where
      all_done : (e : ℕ) (v : Tree) → IsPart l (tree_of l) 0 e v → done_in l last e (root v) ≡ true
      all_done e v i = by (done_in l last e (root v)) (λ x. x)
          (λ x.
          let c = s.covers e v i x in
          absurd (none-some (root c.above) (sym (empty (spot_of l c.depth (root c.above))) ∙ c.waits)))

      pub none_is : kth_match l wanted ≡ None
      none_is = go (kth_match l wanted) refl where
        go : (o : Option (List ℕ)) → kth_match l wanted ≡ o → kth_match l wanted ≡ None
        go None e = e
        go (Some r) e =
            let m = kth_is l lawful.top wanted r e in
            let x = match_leaf l lawful r m.0 m.1 in
            absurd (false≢true (sym (not_done f g last n matched listed s wanted few r e x) ∙ all_done x.depth (leaf x.box) x.part))

      pub none_need : need_for l wanted ≡ n
      none_need =
          let more = count_le l (λ e b. is_needed l None b) (done_in l last) (tree_of l) 0 (λ e v i x. all_done e v i) in
          let less = count_le l (done_in l last) (λ e b. is_needed l None b) (tree_of l) 0 (λ e v i x. refl) in
          let same : need_to l None ≡ n = omega (arith, more, less, s.counted) in
          ap (need_to l) none_is ∙ same

    -- a box waits: more boxes are needed, and the first of those that wait has the next rank
    module _ (q : Spot) (c : Span) (here : f q ≡ Some c) (least : (z : Spot) (b : Span) → f z ≡ Some b → precedes z q ≡ false) where
      a : IsAt l q c
      a = s.waits q c here

      pub next_rank : rank l q ≡ n
      next_rank =
          let more = count_le l (done_in l last) (λ e b. precedes (spot_of l e b) q) (tree_of l) 0 (λ e v i x. done_before last (spot_of l e (root v)) q (s.later q c here) x) in
          let less = count_le l (λ e b. precedes (spot_of l e b) q) (done_in l last) (tree_of l) 0 (λ e v i x. by (done_in l last e (root v)) (λ y. y)
          (λ y.
          let w = s.covers e v i y in
          let low = least (spot_of l w.depth (root w.above)) (root w.above) w.waits in
          let high = below_after l lawful w.above v w.depth e (at_tree l lawful w.depth w.above w.at) w.below in
          absurd (false≢true (sym (not_after q (spot_of l w.depth (root w.above)) (spot_of l e (root v)) low high) ∙ x)))) in
          omega (arith, more, less, s.counted)

      more_needed : (o : Option (List ℕ)) → kth_match l wanted ≡ o → n < need_to l o
      more_needed None e =
          let not_yet : done_in l last q.depth (root a.part) ≡ false = subst (λ z. is_done last z ≡ false) (a.place ∙ (λ j. spot_of l q.depth (sym a.box j))) (s.later q c here) in
          let more = count_lt l (done_in l last) (λ k b. is_needed l None b) (tree_of l) 0 q.depth a.part (λ k v i x. refl) a.at not_yet refl in
          omega (arith, more, s.counted)
      more_needed (Some r) e =
          let m = kth_is l lawful.top wanted r e in
          let x = match_leaf l lawful r m.0 m.1 in
          let later = not_done f g last n matched listed s wanted few r e x in
          let itself : is_needed l (Some r) x.box ≡ true = ap not (subst (λ w. is_before l r w ≡ false) (sym x.corner) (never_before_itself l r)) in
          let more = count_lt l (done_in l last) (λ k b. is_needed l (Some r) b) (tree_of l) 0 x.depth (leaf x.box)
          (λ k v i y. ap not (subst (λ w. is_before l w (root v).lo ≡ false) x.corner
          (key_not_before (spot_of l x.depth x.box) (spot_of l k (root v)) (not_both (spot_of l k (root v)) (spot_of l x.depth x.box) (done_before last (spot_of l k (root v)) (spot_of l x.depth x.box) later y)))))
          x.part later itself in
          omega (arith, more, s.counted)

      pub floor_need : n < need_for l wanted
      floor_need = more_needed (kth_match l wanted) refl
