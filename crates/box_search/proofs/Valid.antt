-- The certificate of a search is valid.
use Rattle.std.proofs.Common.{◌≡◌, ◌<◌, ◌≤◌, ◌&&◌, ◌||◌, not, min, ℕ, List, [], ◌∷◌, ◌++◌, Bool, true, false, nat_le, length, refl, sym, ap, subst, ◌∙◌, append-nil, arith}
use Rattle.std.specs.Prelude.{All, Option, Some, None, is_some}
use Rattle.std.specs.List.{AllByRecursion, Contains}
use Rattle.std.proofs.lemmas.List.Elements.{All-contains, All-from_recursion, recursion_from_All, All-weaker}
use Rattle.std.proofs.lemmas.Bool.{and_parts, false≢true, or_right, true≢false}
use Rattle.box_specs.specs.declared.certificate.CertLine.{CertLine}
use Rattle.box_specs.specs.declared.certificate.Claim.{Claim}
use Rattle.box_specs.specs.declared.certificate.Claim.TheVariants.{Floor, Match, NoMatch}
use Rattle.box_specs.specs.Answer.{IsAnswer, IsFirstMatch, answer_of, is_match, is_pass}
use Rattle.box_specs.specs.Canonical.{IsClaim, IsPart, canonical_lines, is_judged, line_of}
use Rattle.box_specs.specs.Order.{IsRising}
use Rattle.box_specs.specs.Landscape.{Grade, IsLawful, Land, fails, is_admitted, is_before, is_shut, key_of, passes, unsure}
use Rattle.box_specs.specs.Span.{IsWithin, Span, is_single}
use Rattle.box_specs.specs.Tree.{Tree, count, fork, is_needed, leaf, need, rank, root, spot_of, tree_of}
use Rattle.box_specs.specs.Validity.{AllHold, HaveLines, IsValid, are_trees, corners, cutoff_of, is_early, is_listed, is_pass_line, is_undecided_line, matched_of}
use Rattle.price_grid.specs.Grid.{IsUpTo}
use Rattle.box_specs.proofs.Answers.{answer_is, never_before_itself, not_before_trans, pass_of}
use Rattle.box_search.specs.Laws.{CanonicalIsValid}
use Rattle.box_search.proofs.Orders.{before_by_key, cost_not_before, key_not_before, not_both, not_deeper, on_before, precedes}
use Rattle.box_specs.proofs.Keys.{tied_keys}
use Rattle.box_search.proofs.Ranks.{alike, at_sound, at_tree, judged_above, lower_rank, needed_is_judged, rank_lt, whole}
use Rattle.box_specs.proofs.Tests.{by, le_test, not_false, not_true, test_ge, test_lt}
use Rattle.box_search.specs.Trees.{IsSoundTree}
use Rattle.box_search.proofs.Trees.{count_le, leaf_for, single_corners, whole_root}
use Rattle.box_specs.proofs.Spans.{corner_within, up_to_both}
use Rattle.box_search.proofs.Walks.{Fits, IsPoint, corners_are, mark, one_tree, passing, point_line, undecided, walks}
use Rattle.box_specs.proofs.Lists.{listed_by, listed_of}

module _ (l : Land) where
  -- the leaf of a match: its lower corner is the recipe, and its line passes
  pub record MatchLeaf (r : List ℕ) : Type 0 where
    pub depth : ℕ
    pub box : Span
    pub part : IsPart l (tree_of l) 0 depth (leaf box)
    pub corner : box.lo ≡ r
    pub line : is_pass_line (line_of l box) ≡ true

  parts_or : (s t : Bool) → s || t ≡ true → s ≡ false → t ≡ true
  parts_or true t h e = absurd (true≢false e)
  parts_or false t h e = h

  is_pass_fails : (g : Grade) → g ≡ fails → is_pass g ≡ true → ⊥
  is_pass_fails g e h = false≢true (sym (ap is_pass e) ∙ h)

  none_of : (x y : Option ℕ) → is_some x || is_some y ≡ false → y ≡ None
  none_of (Some k) y h = absurd (true≢false h)
  none_of None (Some j) h = absurd (true≢false h)
  none_of None None h = refl

  pub match_leaf : IsLawful l → (r : List ℕ) → IsWithin r l.top → is_match l r ≡ true → MatchLeaf r
  match_leaf lawful r within m =
      let at = leaf_for l (tree_of l) 0 r (whole l lawful) (subst (λ b. IsWithin r b) (sym (whole_root l)) within) in
      let s = at_sound l lawful at.depth (leaf at.box) at.part in
      let final = (at_tree l lawful at.depth (leaf at.box) at.part).1 in
      let two = and_parts (is_admitted l r) (is_pass (l.grade r)) m in
      let open_ : is_shut l at.box ≡ false = by (is_shut l at.box)
      (λ e. absurd (is_pass_fails (l.grade r) (lawful.shut at.box s.box s.inside e r at.within two.0) two.1)) (λ e. e) in
      let alone = parts_or (is_shut l at.box) (is_single at.box) final open_ in
      let corner : at.box.lo ≡ r = up_to_both at.box.lo r at.within.0 (subst (λ c. IsUpTo r c) (sym (single_corners at.box alone)) at.within.1) in
      let grade : l.grade at.box.lo ≡ passes = ap l.grade corner ∙ pass_of (l.grade r) two.1 in
      record {
        depth = at.depth;
        box = at.box;
        part = at.part;
        corner = corner;
        line = point_line l at.box (record { alone = alone; admitted = subst (λ c. is_admitted l c ≡ true) (sym corner) two.0; no_light = none_of _ _ open_ }) grade;
      }

  -- the lower corner of a box whose line passes is a match
  pub line_match : (b : Span) → is_pass_line (line_of l b) ≡ true → is_match l b.lo ≡ true
  line_match b h =
      let p = passing l b h in
      λ i. p.0.admitted i && is_pass (p.1 i)

  -- what is asked of a listed recipe
  abbrev pub IsGood : Claim → List ℕ → Type 0
  IsGood claim r = IsWithin r l.top × (is_early l (cutoff_of claim) r ≡ true)

module _ (l : Land) (lawful : IsLawful l) where
  pub answer : IsAnswer l (answer_of l)
  answer = answer_is l lawful.top

  pub corner_in : (d : ℕ) (u : Tree) → IsPart l (tree_of l) 0 d u → IsWithin (root u).lo l.top
  corner_in d u i =
      let s = at_sound l lawful d u i in
      corner_within (root u) l.top s.box s.inside

  match_part : (s : List ℕ) → answer_of l ≡ Some s → (d : ℕ) (u : Tree) → IsPart l (tree_of l) 0 d u → is_judged l (need l) d (root u) ≡ not (is_before l s (root u).lo)
  match_part s e d u i = sym (needed_is_judged l lawful d u i) ∙ ap (λ o. is_needed l o (root u)) e

  pub first_is : (s : List ℕ) → answer_of l ≡ Some s → IsFirstMatch l s
  first_is s e = subst (IsAnswer l) e answer

  -- the only match among the lower corners of the boxes that are needed is the answer
  claimed_is : (s : List ℕ) → answer_of l ≡ Some s → (d : ℕ) (u : Tree) → IsPart l (tree_of l) 0 d u → is_judged l (need l) d (root u) ≡ true → is_match l (root u).lo ≡ true → s ≡ (root u).lo
  claimed_is s e d u i j m =
      tied_keys (key_of l s) (key_of l (root u).lo) (not_true _ (sym (match_part s e d u i) ∙ j)) ((first_is s e).first (root u).lo (corner_in d u i) m)

  no_fork : (b : Span) (s t : Tree) → IsSoundTree l (fork b s t) → is_single b ≡ true → ⊥
  no_fork b s t i h = false≢true (sym i.1 ∙ or_right (is_shut l b) (is_single b) h)

  -- under a floor, no judged box passes
  none_passes : (budget d e : ℕ) (u v : Tree) → budget < need l → IsPart l (tree_of l) 0 e v → rank l (spot_of l e (root v)) ≡ budget
      → IsPart l (tree_of l) 0 d u → is_judged l budget d (root u) ≡ true → is_pass_line (line_of l (root u)) ≡ true → ⊥
  none_passes budget d e (fork b s t) v more k r i j h = no_fork b s t (at_tree l lawful d (fork b s t) i) (passing l b h).0.alone
  none_passes budget d e (leaf b) v more k r i j h = go (answer_of l) refl where
    m : is_match l b.lo ≡ true
    m = line_match l b h

    before : precedes (spot_of l d b) (spot_of l e (root v)) ≡ true
    before = lower_rank l lawful (spot_of l d b) (spot_of l e (root v)) (subst (λ n. rank l (spot_of l d b) < n) (sym r) (test_lt (rank l (spot_of l d b)) budget j))

    no_later : (f : ℕ) (w : Tree) → IsPart l (tree_of l) 0 f w → is_before l b.lo (root w).lo ≡ false → precedes (spot_of l d b) (spot_of l f (root w)) ≡ false
    no_later f w q x = by (is_before l (root w).lo b.lo)
        (λ y. not_both (spot_of l f (root w)) (spot_of l d b) (before_by_key (spot_of l f (root w)) (spot_of l d b) y))
        (λ y. not_deeper (spot_of l f (root w)) (spot_of l d b) x (alike l lawful d f b w i q (tied_keys (key_of l b.lo) (key_of l (root w).lo) x y)))

    go : (o : Option (List ℕ)) → answer_of l ≡ o → ⊥
    go None x = false≢true (sym (subst (IsAnswer l) x answer b.lo (corner_in d (leaf b) i)) ∙ m)
    go (Some a) x =
        let late = (first_is a x).first b.lo (corner_in d (leaf b) i) m in
        let needed = count_le l (λ f c. is_needed l (Some a) c) (λ f c. precedes (spot_of l f c) (spot_of l e (root v))) (tree_of l) 0
        (λ f w q y. on_before (spot_of l f (root w)) (spot_of l d b) (spot_of l e (root v)) (no_later f w q (not_before_trans l b.lo a (root w).lo (not_true _ y) late)) before) in
        let least : need l ≤ rank l (spot_of l e (root v)) = subst (λ o'. count (λ f c. is_needed l o' c) 0 (tree_of l) ≤ rank l (spot_of l e (root v))) (sym x) needed in
        less (need l) budget (rank l (spot_of l e (root v))) more r least where
          less : (n m k : ℕ) → m < n → k ≡ m → n ≤ k → ⊥
          less n m k h1 h2 h3 = omega (arith, h1, h2, h3)

  none_passing : {lines : List CertLine} → HaveLines l is_pass_line lines []
  none_passing {lines} = record {
    grid = λ k d lt. absurd (omega arith);
    rising = λ i j d a b. absurd (omega (arith, b));
    each = λ k d lt. absurd (omega arith);
  }

  module _ (listed : List (List ℕ)) (budget n : ℕ) where
    -- each part is as the claim demands
    fits : (claim : Claim) → IsClaim l budget claim → n ≡ min (need l) budget → (d : ℕ) (u : Tree) → IsPart l (tree_of l) 0 d u
        → Fits l (is_judged l n) lawful (cutoff_of claim) (matched_of claim) listed d (root u)
    fits (Match recipe) c e d u i =
        let all : n ≡ need l = omega (arith, e, c.0) in
        let F : ℕ → Type 0 = λ m. Fits l (is_judged l m) lawful (cutoff_of (Match recipe)) (matched_of (Match recipe)) listed d (root u) in
        subst F (sym all) (record {
          dear = λ j. not_false _ (sym (match_part recipe.items c.1 d u i) ∙ j);
          passed = λ j p. listed_by (recipe.items ∷ []) (root u).lo (0, omega arith, claimed_is recipe.items c.1 d u i j (line_match l (root u) p));
        })
    fits NoMatch c e d u i =
        let all : n ≡ need l = omega (arith, e, c.0) in
        let F : ℕ → Type 0 = λ m. Fits l (is_judged l m) lawful (cutoff_of NoMatch) (matched_of NoMatch) listed d (root u) in
        let always : is_judged l (need l) d (root u) ≡ true = sym (needed_is_judged l lawful d u i) ∙ ap (λ o. is_needed l o (root u)) c.1 in
        subst F (sym all) (record {
          dear = λ j. absurd (false≢true (sym j ∙ always));
          passed = λ j p. absurd (false≢true (sym (subst (IsAnswer l) c.1 answer (root u).lo (corner_in d u i)) ∙ line_match l (root u) p));
        })
    fits (Floor cost) c e d u i =
        let all : n ≡ budget = omega (arith, e, c.0) in
        let F : ℕ → Type 0 = λ m. Fits l (is_judged l m) lawful (cutoff_of (Floor cost)) (matched_of (Floor cost)) listed d (root u) in
        let f = c.1 in
        let v = c.2 in
        subst F (sym all) (record {
          dear = λ j. costs c.1 c.2 c.3 c.4 c.5 j;
          passed = λ j p. absurd (none_passes budget d c.1 u c.2 c.0 c.3 c.4 i j p);
        }) where
          less : (a b : ℕ) (m : ℕ) → a < b → b ≡ m → m ≤ a → ⊥
          less a b m x y z = omega (arith, x, y, z)

          costs : (f : ℕ) (v : Tree) → IsPart l (tree_of l) 0 f v → rank l (spot_of l f (root v)) ≡ budget → cost ≡ l.cost (root v).lo → is_judged l budget d (root u) ≡ false
              → nat_le cost (l.cost (root u).lo) ≡ true
          costs f v k r m j =
              let late : precedes (spot_of l d (root u)) (spot_of l f (root v)) ≡ false = by (precedes (spot_of l d (root u)) (spot_of l f (root v)))
              (λ x. absurd (less (rank l (spot_of l d (root u))) (rank l (spot_of l f (root v))) budget (rank_lt l lawful d u (spot_of l f (root v)) i x) r (test_ge (rank l (spot_of l d (root u))) budget j)))
              (λ x. x) in
              let dear = cost_not_before (key_of l (root u).lo) (key_of l (root v).lo) (key_not_before (spot_of l d (root u)) (spot_of l f (root v)) late) in
              le_test cost (l.cost (root u).lo) (subst (λ x. x ≤ l.cost (root u).lo) (sym m) dear)

    -- the undecided recipe of a judged box is in the grid, and before the claimed one
    good : (claim : Claim) → IsClaim l budget claim → n ≡ min (need l) budget → (d : ℕ) (u : Tree) → IsPart l (tree_of l) 0 d u → is_judged l n d (root u) ≡ true
        → is_undecided_line (line_of l (root u)) ≡ true → IsGood l claim (root u).lo
    good claim c e d u i j h = (corner_in d u i, early claim c) where
      p : IsPoint l (root u) × (l.grade (root u).lo ≡ unsure)
      p = undecided l (root u) lawful (at_sound l lawful d u i) h

      is_pass_unsure : (g : Grade) → g ≡ unsure → is_pass g ≡ true → ⊥
      is_pass_unsure g x y = false≢true (sym (ap is_pass x) ∙ y)

      early : (k : Claim) → IsClaim l budget k → is_early l (cutoff_of k) (root u).lo ≡ true
      early (Match recipe) x =
          let all : n ≡ need l = omega (arith, e, x.0) in
          let late : is_before l recipe.items (root u).lo ≡ false = not_true _ (sym (match_part recipe.items x.1 d u i) ∙ subst (λ m. is_judged l m d (root u) ≡ true) all j) in
          by (is_before l (root u).lo recipe.items) (λ y. y)
          (λ y.
          let same : recipe.items ≡ (root u).lo = tied_keys (key_of l recipe.items) (key_of l (root u).lo) late y in
          let matches = subst (λ r. is_match l r ≡ true) same (first_is recipe.items x.1).matches in
          absurd (is_pass_unsure (l.grade (root u).lo) p.1 (and_parts (is_admitted l (root u).lo) (is_pass (l.grade (root u).lo)) matches).1))
      early NoMatch x = refl
      early (Floor cost) x = refl

    pub at_top : (W : List Span → List CertLine → Type 0) → W (root (tree_of l) ∷ []) (canonical_lines l n ++ []) → W (l.top ∷ []) (canonical_lines l n)
    at_top W w = subst (λ b. W (b ∷ []) (canonical_lines l n)) (whole_root l) (subst (λ xs. W (root (tree_of l) ∷ []) xs) (append-nil (canonical_lines l n)) w)

    -- the recipe of a match is of the grid, and has a line that passes
    has_line : (claim : Claim) → IsClaim l budget claim → n ≡ min (need l) budget → HaveLines l is_pass_line (canonical_lines l n) (matched_of claim)
    has_line (Match recipe) c e =
        let all : n ≡ need l = omega (arith, e, c.0) in
        let f = first_is recipe.items c.1 in
        let leaf_ = match_leaf l lawful recipe.items f.grid f.matches in
        let late : is_before l recipe.items leaf_.box.lo ≡ false = subst (λ r. is_before l recipe.items r ≡ false) (sym leaf_.corner) (never_before_itself l recipe.items) in
        let judged : is_judged l n leaf_.depth leaf_.box ≡ true = subst (λ m. is_judged l m leaf_.depth leaf_.box ≡ true) (sym all) (match_part recipe.items c.1 leaf_.depth (leaf leaf_.box) leaf_.part ∙ ap not late) in
        let there = mark l (is_judged l n) is_pass_line leaf_.depth (leaf leaf_.box) judged leaf_.line (tree_of l) 0 (whole l lawful) leaf_.part
        (λ d u i p. judged_above l lawful n d leaf_.depth u (leaf leaf_.box) i p judged) [] [] in
        let passed = corners is_pass_line (l.top ∷ []) (canonical_lines l n) in
        let listed_ = at_top (λ bs xs. is_listed (corners is_pass_line bs xs) leaf_.box.lo ≡ true) there in
        record {
          grid = All-from_recursion (λ r. IsWithin r l.top) (recipe.items ∷ []) (f.grid, tt);
          rising = λ i j d a b. absurd (omega (arith, a, b));
          each = All-from_recursion (Contains passed) (recipe.items ∷ []) (listed_of passed recipe.items (subst (λ r. is_listed passed r ≡ true) leaf_.corner listed_), tt);
        }
    has_line NoMatch c e = none_passing
    has_line (Floor cost) c e = none_passing

    pub valid_at : (claim : Claim) → IsClaim l budget claim → n ≡ min (need l) budget → IsRising l listed
        → All (Contains (corners is_undecided_line (l.top ∷ []) (canonical_lines l n))) listed
        → All (Contains listed) (corners is_undecided_line (l.top ∷ []) (canonical_lines l n)) → IsValid l claim listed (canonical_lines l n)
    valid_at claim c e rising each every =
        let undecided_ = corners is_undecided_line (l.top ∷ []) (canonical_lines l n) in
        let all_good = All-from_recursion (IsGood l claim) undecided_ (at_top (λ bs xs. AllByRecursion (IsGood l claim) (corners is_undecided_line bs xs))
        (corners_are l (is_judged l n) (IsGood l claim) is_undecided_line refl (tree_of l) 0 (whole l lawful) (good claim c e) [] [] tt)) in
        let listed_good = All-weaker (Contains undecided_) (IsGood l claim) (λ r h. All-contains (IsGood l claim) undecided_ r all_good h) listed each in
        let there = All-weaker (Contains listed) (λ r. is_listed listed r ≡ true) (λ r h. listed_by listed r h) undecided_ every in
        record {
          whole = at_top (λ bs xs. are_trees (length bs) xs ≡ true) (one_tree l (is_judged l n) (tree_of l) 0 (whole l lawful) [] [] refl);
          hold = at_top (λ bs xs. AllByRecursion (λ r. is_listed listed r ≡ true) (corners is_undecided_line bs xs) → AllHold l (cutoff_of claim) (matched_of claim) listed bs xs)
              (walks l (is_judged l n) lawful (cutoff_of claim) (matched_of claim) listed (tree_of l) 0 (whole l lawful) (fits claim c e) [] [] (λ a. tt))
              (recursion_from_All (λ r. is_listed listed r ≡ true) undecided_ there);
          passing = has_line claim c e;
          undecided = record { grid = All-weaker (IsGood l claim) (λ r. IsWithin r l.top) (λ r h. h.0) listed listed_good; rising = rising; each = each };
          early = All-weaker (IsGood l claim) (λ r. is_early l (cutoff_of claim) r ≡ true) (λ r h. h.1) listed listed_good;
        }

pub canonical_is_valid : (l : Land) → CanonicalIsValid l
canonical_is_valid l lawful budget claim listed tree boxes c =
    subst (λ xs. IsValid l claim listed xs) (sym c.tree_is)
    (valid_at l lawful listed budget boxes claim c.claimed c.judged c.rising
    (subst (λ xs. All (Contains (corners is_undecided_line (l.top ∷ []) xs)) listed) c.tree_is c.each)
    (subst (λ xs. All (Contains listed) (corners is_undecided_line (l.top ∷ []) xs)) c.tree_is c.every))
