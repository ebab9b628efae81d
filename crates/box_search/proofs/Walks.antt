-- The walk over the lines of a tree of which some boxes are judged.
use Rattle.std.proofs.Common.{◌≡◌, ◌+◌, ◌&&◌, ◌||◌, ℕ, zero, suc, List, [], ◌∷◌, ◌++◌, Bool, true, false, length, if◌then◌else◌, refl, sym, ap, subst, ◌∙◌, inl, inr, append_assoc, add-one}
use Rattle.std.specs.Prelude.{Option, Some, None, is_some, is_none}
use Rattle.std.specs.List.{AllByRecursion}
use Rattle.std.proofs.lemmas.Bool.{false≢true, or_left, or_right, true≢false}
use Rattle.std.proofs.lemmas.Slice.Eq.{bytes_eq-Decides}
use Rattle.box_specs.specs.declared.certificate.CertLine.{CertLine}
use Rattle.box_specs.specs.declared.certificate.CertLine.TheVariants.{Dear, Fail, Limit, Pass, Split, Undecided}
use Rattle.box_specs.specs.declared.certificate.Cutoff.{Cutoff}
use Rattle.box_specs.specs.Answer.{is_match, is_pass}
use Rattle.box_specs.specs.Canonical.{IsPart, line_by, line_of, lines}
use Rattle.box_specs.specs.Landscape.{Grade, IsLawful, Land, fails, first_from, is_admitted, is_final, judged_by, light_of, limit_of, passes, unsure, IsSound}
use Rattle.box_specs.specs.Span.{Span, is_single, same_steps}
use Rattle.box_specs.specs.Splits.{CutAt, cut_of, lower_half, upper_half}
use Rattle.box_specs.specs.Tree.{Tree, fork, leaf, root}
use Rattle.box_specs.specs.Validity.{AllHold, after, are_trees, corners, holds, is_dear, is_listed, is_pass_line, is_undecided_line, is_unsure, splits}
use Rattle.box_specs.proofs.Cuts.{rule_fits}
use Rattle.box_search.specs.Trees.{IsSoundTree}
use Rattle.box_search.proofs.Trees.{part_root, single_is, sound_of}
use Rattle.box_specs.proofs.Spans.{corner_within}

-- a line that does not split its box
abbrev pub is_end : CertLine → Bool
is_end (Split dye mid) = false
is_end (Limit k) = true
is_end (Fail j) = true
is_end Dear = true
is_end Undecided = true
is_end Pass = true

end_after : (b : Span) (bs : List Span) (x : CertLine) → is_end x ≡ true → after b bs x ≡ bs
end_after b bs (Split dye mid) h = absurd (false≢true h)
end_after b bs (Limit k) h = refl
end_after b bs (Fail j) h = refl
end_after b bs Dear h = refl
end_after b bs Undecided h = refl
end_after b bs Pass h = refl

end_trees : (n : ℕ) (x : CertLine) (xs : List CertLine) → is_end x ≡ true → are_trees (suc n) (x ∷ xs) ≡ are_trees n xs
end_trees n (Split dye mid) xs h = absurd (false≢true h)
end_trees n (Limit k) xs h = refl
end_trees n (Fail j) xs h = refl
end_trees n Dear xs h = refl
end_trees n Undecided xs h = refl
end_trees n Pass xs h = refl

split_after : (b : Span) (bs : List Span) (cut : CutAt) → after b bs (Split (cut.dye + 1) cut.mid) ≡ lower_half b cut ∷ upper_half b cut ∷ bs
split_after b bs cut = ap (λ n. after b bs (Split n cut.mid)) (add-one cut.dye)

module _ (l : Land) where
  pub open_line : (b : Span) → is_final l b ≡ false → line_of l b ≡ Split ((cut_of b).dye + 1) (cut_of b).mid
  open_line b h = go (limit_of l b) (light_of l b) (is_single b) (l.grade b.lo) h where
    go : (x y : Option ℕ) (s : Bool) (g : Grade) → (is_some x || is_some y) || s ≡ false → line_by (judged_by l x y s g) (cut_of b) ≡ Split ((cut_of b).dye + 1) (cut_of b).mid
    go (Some k) y s g e = absurd (true≢false e)
    go None (Some j) s g e = absurd (true≢false e)
    go None None true g e = absurd (true≢false e)
    go None None false g e = refl

  pub leaf_line : (b : Span) → is_final l b ≡ true → is_end (line_of l b) ≡ true
  leaf_line b h = go (limit_of l b) (light_of l b) (is_single b) (l.grade b.lo) h where
    go : (x y : Option ℕ) (s : Bool) (g : Grade) → (is_some x || is_some y) || s ≡ true → is_end (line_by (judged_by l x y s g) (cut_of b)) ≡ true
    go (Some k) y s g e = refl
    go None (Some j) s g e = refl
    go None None true passes e = refl
    go None None true fails e = refl
    go None None true unsure e = refl
    go None None false g e = absurd (false≢true e)

  -- a box of one recipe that no limit excludes and on which no light fails
  pub record IsPoint (b : Span) : Type 0 where
    pub alone : is_single b ≡ true
    pub admitted : is_admitted l b.lo ≡ true
    pub no_light : light_of l b ≡ None

  own_limit : (b : Span) → is_single b ≡ true → limit_of l b ≡ None → is_admitted l b.lo ≡ true
  own_limit b s e = ap (λ c. is_none (limit_of l c)) (single_is b s) ∙ ap is_none e

  pub passing : (b : Span) → is_pass_line (line_of l b) ≡ true → IsPoint b × (l.grade b.lo ≡ passes)
  passing b h = go (limit_of l b) (light_of l b) (is_single b) (l.grade b.lo) refl refl refl refl h where
    go : (x y : Option ℕ) (s : Bool) (g : Grade) → limit_of l b ≡ x → light_of l b ≡ y → is_single b ≡ s → l.grade b.lo ≡ g
        → is_pass_line (line_by (judged_by l x y s g) (cut_of b)) ≡ true → IsPoint b × (l.grade b.lo ≡ passes)
    go (Some k) y s g e f i j h = absurd (false≢true h)
    go None (Some k) s g e f i j h = absurd (false≢true h)
    go None None false g e f i j h = absurd (false≢true h)
    go None None true passes e f i j h = (record { alone = i; admitted = own_limit b i e; no_light = f }, j)
    go None None true fails e f i j h = absurd (false≢true h)
    go None None true unsure e f i j h = absurd (false≢true h)

  -- the recipe of such a box inside the whole does not have the grade `fails`
  never : (b : Span) → IsLawful l → IsSound l b → IsPoint b → l.grade b.lo ≡ fails → ⊥
  never b lawful s p g =
      let within = corner_within b l.top s.box s.inside in
      let shut = (lawful.own b.lo within p.admitted).1 g in
      false≢true (sym (ap (λ c. is_some (light_of l c)) (single_is b p.alone) ∙ ap is_some p.no_light) ∙ shut)

  pub undecided : (b : Span) → IsLawful l → IsSound l b → is_undecided_line (line_of l b) ≡ true → IsPoint b × (l.grade b.lo ≡ unsure)
  undecided b lawful s h = go (limit_of l b) (light_of l b) (is_single b) (l.grade b.lo) refl refl refl refl h where
    go : (x y : Option ℕ) (s : Bool) (g : Grade) → limit_of l b ≡ x → light_of l b ≡ y → is_single b ≡ s → l.grade b.lo ≡ g
        → is_undecided_line (line_by (judged_by l x y s g) (cut_of b)) ≡ true → IsPoint b × (l.grade b.lo ≡ unsure)
    go (Some k) y t g e f i j h = absurd (false≢true h)
    go None (Some k) t g e f i j h = absurd (false≢true h)
    go None None false g e f i j h = absurd (false≢true h)
    go None None true passes e f i j h = absurd (false≢true h)
    go None None true fails e f i j h = absurd (never b lawful s (record { alone = i; admitted = own_limit b i e; no_light = f }) j)
    go None None true unsure e f i j h = (record { alone = i; admitted = own_limit b i e; no_light = f }, j)

  none_is : (o : Option ℕ) → is_none o ≡ true → o ≡ None
  none_is None h = refl
  none_is (Some n) h = absurd (false≢true h)

  -- where the recipe of such a box has the grade `passes`, the line of the box passes
  pub point_line : (b : Span) → IsPoint b → l.grade b.lo ≡ passes → is_pass_line (line_of l b) ≡ true
  point_line b p g =
      let limit = none_is (limit_of l b) (sym (ap (λ c. is_none (limit_of l c)) (single_is b p.alone)) ∙ p.admitted) in
      λ i. is_pass_line (line_by (judged_by l (limit i) (p.no_light i) (p.alone i) (g i)) (cut_of b))

  some_is : (i j : ℕ) → Some i ≡ Some j → i ≡ j
  some_is i j f = cc

  pub found_from : (test : ℕ → Bool) (n m k : ℕ) → first_from l test n m ≡ Some k → test k ≡ true
  found_from test n zero k h = cc
  found_from test n (suc m) k h = go (found_from test (n + 1) m k) (test n) refl h where
    go : (first_from l test (n + 1) m ≡ Some k → test k ≡ true) → (t : Bool) → test n ≡ t → (if t then Some n else first_from l test (n + 1) m) ≡ Some k → test k ≡ true
    go rest true e f = subst (λ j. test j ≡ true) (some_is n k f) e
    go rest false e f = rest f

  module _ (lawful : IsLawful l) (cutoff : Cutoff) (matched listed : List (List ℕ)) where
    -- a line holds, provided that its recipe is listed where the line is undecided
    abbrev HoldsAt : Span → CertLine → Type 0
    HoldsAt b x = (is_undecided_line x ≡ true → is_listed listed b.lo ≡ true) → holds l cutoff matched listed b x ≡ true

    judged_holds : (b : Span) → IsSound l b → (is_pass_line (line_of l b) ≡ true → is_listed matched b.lo ≡ true) → HoldsAt b (line_of l b)
    judged_holds b s = go (limit_of l b) (light_of l b) (is_single b) (l.grade b.lo) refl refl refl refl where
      go : (x y : Option ℕ) (t : Bool) (g : Grade) → limit_of l b ≡ x → light_of l b ≡ y → is_single b ≡ t → l.grade b.lo ≡ g
          → (is_pass_line (line_by (judged_by l x y t g) (cut_of b)) ≡ true → is_listed matched b.lo ≡ true) → HoldsAt b (line_by (judged_by l x y t g) (cut_of b))
      go (Some k) y t g e f i j p u = found_from (λ n. l.excluded n b) 1 5 k e
      go None (Some k) t g e f i j p u = found_from (λ n. l.failing n b) 1 l.lights k f
      go None None false g e f i j p u =
          ap (λ n. splits b n (cut_of b).mid) (add-one (cut_of b).dye) ∙ rule_fits b s.box i
      go None None true passes e f i j p u =
          let match : is_match l b.lo ≡ true = λ k. own_limit b i e k && is_pass (j k) in
          let claimed = p refl in
          λ k. i k && match k && claimed k
      go None None true fails e f i j p u = absurd (never b lawful s (record { alone = i; admitted = own_limit b i e; no_light = f }) j)
      go None None true unsure e f i j p u =
          let open_ : is_admitted l b.lo && is_unsure (l.grade b.lo) ≡ true = λ k. own_limit b i e k && is_unsure (j k) in
          let there = u refl in
          λ k. i k && open_ k && there k

-- Induction over the lines of a tree, the last line first: a property of the lines so far holds of
-- all lines where it goes on to hold as each line is put before them
module _ (l : Land) (judged : ℕ → Span → Bool) where
  abbrev pub own : ℕ → Span → CertLine
  own d b = if judged d b then line_of l b else Dear

  own_end : (d : ℕ) (b : Span) → is_final l b ≡ true → is_end (own d b) ≡ true
  own_end d b h = go (judged d b) where
    go : (j : Bool) → is_end (if j then line_of l b else Dear) ≡ true
    go true = leaf_line l b h
    go false = refl

  fork_after : (b : Span) (s t : Tree) (bs : List Span) → IsSoundTree l (fork b s t) → after b bs (line_of l b) ≡ root s ∷ root t ∷ bs
  fork_after b s t bs i =
      ap (after b bs) (open_line l b i.1) ∙ split_after b bs (cut_of b) ∙ (λ k. sym i.2 k ∷ sym i.3 k ∷ bs)

  module _ (W : List Span → List CertLine → Type 0) (t0 : Tree) (k0 : ℕ)
      (step : (d : ℕ) (u : Tree) → IsPart l t0 k0 d u → IsSoundTree l u → (bs : List Span) (xs : List CertLine) → W (after (root u) bs (own d (root u))) xs → W (root u ∷ bs) (own d (root u) ∷ xs)) where
    pub each_line : (t : Tree) (k : ℕ) → IsSoundTree l t → ((d : ℕ) (u : Tree) → IsPart l t k d u → IsPart l t0 k0 d u) → (bs : List Span) (xs : List CertLine) → W bs xs
        → W (root t ∷ bs) (lines l judged k t ++ xs)
    each_line (leaf b) k i h bs xs w =
        step k (leaf b) (h k (leaf b) (part_root l (leaf b) k)) i bs xs (subst (λ cs. W cs xs) (sym (end_after b bs (own k b) (own_end k b i.1))) w)
    each_line (fork b s t) k i h bs xs w =
        go
        (each_line s (k + 1) i.4 (λ d u p. h d u (inr (inl p))) (root t ∷ bs) (lines l judged (k + 1) t ++ xs) (each_line t (k + 1) i.5 (λ d u p. h d u (inr (inr p))) bs xs w))
        (judged k b) refl where
          here : IsPart l t0 k0 k (fork b s t)
          here = h k (fork b s t) (part_root l (fork b s t) k)

          go : W (root s ∷ root t ∷ bs) (lines l judged (k + 1) s ++ (lines l judged (k + 1) t ++ xs)) → (j : Bool) → judged k b ≡ j
              → W (b ∷ bs) ((if j then line_of l b ∷ lines l judged (k + 1) s ++ lines l judged (k + 1) t else Dear ∷ []) ++ xs)
          go below false e =
              let o : own k b ≡ Dear = ap (λ c. if c then line_of l b else Dear) e in
              subst (λ x. W (b ∷ bs) (x ∷ xs)) o (step k (fork b s t) here i bs xs (subst (λ x. W (after b bs x) xs) (sym o) w))
          go below true e =
              let o : own k b ≡ line_of l b = ap (λ c. if c then line_of l b else Dear) e in
              let rest : W (root s ∷ root t ∷ bs) ((lines l judged (k + 1) s ++ lines l judged (k + 1) t) ++ xs) = subst (λ ys. W (root s ∷ root t ∷ bs) ys) (sym (append_assoc (lines l judged (k + 1) s) (lines l judged (k + 1) t) xs)) below in
              let at : W (after b bs (own k b)) ((lines l judged (k + 1) s ++ lines l judged (k + 1) t) ++ xs) = subst (λ cs. W cs ((lines l judged (k + 1) s ++ lines l judged (k + 1) t) ++ xs)) (sym (ap (after b bs) o ∙ fork_after b s t bs i)) rest in
              subst (λ x. W (b ∷ bs) (x ∷ ((lines l judged (k + 1) s ++ lines l judged (k + 1) t) ++ xs))) o (step k (fork b s t) here i bs ((lines l judged (k + 1) s ++ lines l judged (k + 1) t) ++ xs) at)

  trees_step : (d : ℕ) (u : Tree) → IsSoundTree l u → (bs : List Span) (xs : List CertLine)
      → are_trees (length (after (root u) bs (own d (root u)))) xs ≡ true → are_trees (suc (length bs)) (own d (root u) ∷ xs) ≡ true
  trees_step d u i bs xs w = go (judged d (root u)) (is_final l (root u)) refl w where
    ended : (x : CertLine) → is_end x ≡ true → are_trees (length (after (root u) bs x)) xs ≡ true → are_trees (suc (length bs)) (x ∷ xs) ≡ true
    ended x e v = end_trees (length bs) x xs e ∙ ap (λ cs. are_trees (length cs) xs) (sym (end_after (root u) bs x e)) ∙ v

    split_one : (cut : CutAt) → are_trees (length (after (root u) bs (Split (cut.dye + 1) cut.mid))) xs ≡ true → are_trees (suc (length bs)) (Split (cut.dye + 1) cut.mid ∷ xs) ≡ true
    split_one cut v = ap (λ cs. are_trees (length cs) xs) (sym (split_after (root u) bs cut)) ∙ v

    go : (j f : Bool) → is_final l (root u) ≡ f → are_trees (length (after (root u) bs (if j then line_of l (root u) else Dear))) xs ≡ true
        → are_trees (suc (length bs)) ((if j then line_of l (root u) else Dear) ∷ xs) ≡ true
    go false f e v = v
    go true true e v = ended (line_of l (root u)) (leaf_line l (root u) e) v
    go true false e v =
        let at = open_line l (root u) e in
        let F : CertLine → Type 0 = λ x. are_trees (suc (length bs)) (x ∷ xs) ≡ true in
        let G : CertLine → Type 0 = λ x. are_trees (length (after (root u) bs x)) xs ≡ true in
        subst F (sym at) (split_one (cut_of (root u)) (subst G at v))

  -- the lines of a tree spell exactly one tree
  pub one_tree : (t : Tree) (k : ℕ) → IsSoundTree l t → (bs : List Span) (xs : List CertLine) → are_trees (length bs) xs ≡ true → are_trees (suc (length bs)) (lines l judged k t ++ xs) ≡ true
  one_tree t k i bs xs w =
      each_line (λ cs ys. are_trees (length cs) ys ≡ true) t k (λ d u p j cs ys v. trees_step d u j cs ys v) t k i (λ d u p. p) bs xs w

  -- what holds of the lower corner of each judged part whose line passes a test holds of all
  -- corners of such lines
  pub corners_are : (P : List ℕ → Type 0) (test : CertLine → Bool) → test Dear ≡ false → (t : Tree) (k : ℕ) → IsSoundTree l t
      → ((d : ℕ) (u : Tree) → IsPart l t k d u → judged d (root u) ≡ true → test (line_of l (root u)) ≡ true → P (root u).lo)
      → (bs : List Span) (xs : List CertLine) → AllByRecursion P (corners test bs xs) → AllByRecursion P (corners test (root t ∷ bs) (lines l judged k t ++ xs))
  corners_are P test dear t k i h bs xs w = each_line (λ cs ys. AllByRecursion P (corners test cs ys)) t k step t k i (λ d u p. p) bs xs w where
    step : (d : ℕ) (u : Tree) → IsPart l t k d u → IsSoundTree l u → (cs : List Span) (ys : List CertLine)
        → AllByRecursion P (corners test (after (root u) cs (own d (root u))) ys) → AllByRecursion P (corners test (root u ∷ cs) (own d (root u) ∷ ys))
    step d u p j cs ys v = go (test (own d (root u))) refl where
      known : (b : Bool) → judged d (root u) ≡ b → test (if b then line_of l (root u) else Dear) ≡ true → P (root u).lo
      known true e f = h d u p e f
      known false e f = absurd (false≢true (sym dear ∙ f))

      go : (b : Bool) → test (own d (root u)) ≡ b
          → AllByRecursion P (if b then (root u).lo ∷ corners test (after (root u) cs (own d (root u))) ys else corners test (after (root u) cs (own d (root u))) ys)
      go true e = (known (judged d (root u)) refl e, v)
      go false e = v

  -- a recipe among the corners stays among them when a line is put before the others
  more : (test : CertLine → Bool) (r : List ℕ) (b : Span) (bs : List Span) (x : CertLine) (xs : List CertLine)
      → is_listed (corners test (after b bs x) xs) r ≡ true → is_listed (corners test (b ∷ bs) (x ∷ xs)) r ≡ true
  more test r b bs x xs h = go (test x) where
    go : (c : Bool) → is_listed (if c then b.lo ∷ corners test (after b bs x) xs else corners test (after b bs x) xs) r ≡ true
    go true = or_right (same_steps r b.lo) (is_listed (corners test (after b bs x) xs) r) h
    go false = h

  here_listed : (test : CertLine → Bool) (b : Span) (bs : List Span) (x : CertLine) (xs : List CertLine) → test x ≡ true → is_listed (corners test (b ∷ bs) (x ∷ xs)) b.lo ≡ true
  here_listed test b bs x xs h = go (test x) h where
    go : (c : Bool) → c ≡ true → is_listed (if c then b.lo ∷ corners test (after b bs x) xs else corners test (after b bs x) xs) b.lo ≡ true
    go true e = or_left (same_steps b.lo b.lo) (is_listed (corners test (after b bs x) xs) b.lo) ((bytes_eq-Decides b.lo b.lo).1 refl)
    go false e = absurd (false≢true e)

  -- where a part and all above it are judged, and its line passes the test, its corner is listed
  module _ (test : CertLine → Bool) (e : ℕ) (v : Tree) (now : judged e (root v) ≡ true) (tests : test (line_of l (root v)) ≡ true) where
    pub mark : (t : Tree) (k : ℕ) → IsSoundTree l t → IsPart l t k e v
        → ((d : ℕ) (u : Tree) → IsSoundTree l u → IsPart l u d e v → judged d (root u) ≡ true)
        → (bs : List Span) (xs : List CertLine) → is_listed (corners test (root t ∷ bs) (lines l judged k t ++ xs)) (root v).lo ≡ true
    mark (leaf b) k i p above bs xs =
        let at : judged k b ≡ true = above k (leaf b) i p in
        let line : own k b ≡ line_of l b = ap (λ c. if c then line_of l b else Dear) at in
        let same = p.1 in
        subst (λ w. is_listed (corners test (b ∷ bs) (own k b ∷ xs)) (root w).lo ≡ true) same (here_listed test b bs (own k b) xs (ap test line ∙ subst (λ w. test (line_of l (root w)) ≡ true) (sym same) tests))
    mark (fork b s t) k i p above bs xs =
        go (λ q. mark s (k + 1) i.4 q above (root t ∷ bs) (lines l judged (k + 1) t ++ xs)) (λ q. mark t (k + 1) i.5 q above bs xs) (judged k b) (above k (fork b s t) i p) p where
          ys : List CertLine
          ys = (lines l judged (k + 1) s ++ lines l judged (k + 1) t) ++ xs

          down : is_listed (corners test (root s ∷ root t ∷ bs) (lines l judged (k + 1) s ++ (lines l judged (k + 1) t ++ xs))) (root v).lo ≡ true
              → is_listed (corners test (b ∷ bs) (line_of l b ∷ ys)) (root v).lo ≡ true
          down h =
              more test (root v).lo b bs (line_of l b) ys
              (subst (λ cs. is_listed (corners test cs ys) (root v).lo ≡ true) (sym (fork_after b s t bs i))
              (subst (λ zs. is_listed (corners test (root s ∷ root t ∷ bs) zs) (root v).lo ≡ true) (sym (append_assoc (lines l judged (k + 1) s) (lines l judged (k + 1) t) xs)) h))

          high : is_listed (corners test (root t ∷ bs) (lines l judged (k + 1) t ++ xs)) (root v).lo ≡ true
              → is_listed (corners test (root s ∷ root t ∷ bs) (lines l judged (k + 1) s ++ (lines l judged (k + 1) t ++ xs))) (root v).lo ≡ true
          high h =
              each_line (λ cs zs. is_listed (corners test cs zs) (root v).lo ≡ true) s (k + 1) (λ d u w j cs zs. more test (root v).lo (root u) cs (own d (root u)) zs) s (k + 1) i.4 (λ d u w. w) (root t ∷ bs) (lines l judged (k + 1) t ++ xs) h

          go : (IsPart l s (k + 1) e v → is_listed (corners test (root s ∷ root t ∷ bs) (lines l judged (k + 1) s ++ (lines l judged (k + 1) t ++ xs))) (root v).lo ≡ true)
              → (IsPart l t (k + 1) e v → is_listed (corners test (root t ∷ bs) (lines l judged (k + 1) t ++ xs)) (root v).lo ≡ true)
              → (j : Bool) → j ≡ true → IsPart l (fork b s t) k e v
              → is_listed (corners test (b ∷ bs) ((if j then line_of l b ∷ lines l judged (k + 1) s ++ lines l judged (k + 1) t else Dear ∷ []) ++ xs)) (root v).lo ≡ true
          go low upper false g q = absurd (false≢true g)
          go low upper true g (inl q) = subst (λ w. is_listed (corners test (b ∷ bs) (line_of l b ∷ ys)) (root w).lo ≡ true) q.1 (here_listed test b bs (line_of l b) ys (subst (λ w. test (line_of l (root w)) ≡ true) (sym q.1) tests))
          go low upper true g (inr (inl q)) = down (low q)
          go low upper true g (inr (inr q)) = down (high (upper q))

  -- all lines hold
  module _ (lawful : IsLawful l) (cutoff : Cutoff) (matched listed : List (List ℕ)) where
    abbrev Walks : List Span → List CertLine → Type 0
    Walks bs xs = AllByRecursion (λ r. is_listed listed r ≡ true) (corners is_undecided_line bs xs) → AllHold l cutoff matched listed bs xs

    -- what is asked of a part: that it is too dear if it was not judged, and that its recipe is
    -- matched if it passes
    pub record Fits (d : ℕ) (b : Span) : Type 0 where
      pub dear : judged d b ≡ false → is_dear l cutoff b ≡ true
      pub passed : judged d b ≡ true → is_pass_line (line_of l b) ≡ true → is_listed matched b.lo ≡ true

    walk_on : (b : Span) (bs : List Span) (x : CertLine) (xs : List CertLine) → HoldsAt l lawful cutoff matched listed b x → Walks (after b bs x) xs → Walks (b ∷ bs) (x ∷ xs)
    walk_on b bs x xs own_holds rest all = go (is_undecided_line x) refl all where
      on : (is_undecided_line x ≡ true → is_listed listed b.lo ≡ true) → AllByRecursion (λ r. is_listed listed r ≡ true) (corners is_undecided_line (after b bs x) xs)
          → AllHold l cutoff matched listed (b ∷ bs) (x ∷ xs)
      on u v = (own_holds u, rest v)

      go : (c : Bool) → is_undecided_line x ≡ c
          → AllByRecursion (λ r. is_listed listed r ≡ true) (if c then b.lo ∷ corners is_undecided_line (after b bs x) xs else corners is_undecided_line (after b bs x) xs)
          → AllHold l cutoff matched listed (b ∷ bs) (x ∷ xs)
      go true e v = on (λ _. v.0) v.1
      go false e v = on (λ f. absurd (false≢true (sym e ∙ f))) v

    pub walks : (t : Tree) (k : ℕ) → IsSoundTree l t → ((d : ℕ) (u : Tree) → IsPart l t k d u → Fits d (root u)) → (bs : List Span) (xs : List CertLine) → Walks bs xs
        → Walks (root t ∷ bs) (lines l judged k t ++ xs)
    walks t k i h bs xs w = each_line Walks t k step t k i (λ d u p. p) bs xs w where
      step : (d : ℕ) (u : Tree) → IsPart l t k d u → IsSoundTree l u → (cs : List Span) (ys : List CertLine) → Walks (after (root u) cs (own d (root u))) ys → Walks (root u ∷ cs) (own d (root u) ∷ ys)
      step d u p j cs ys = walk_on (root u) cs (own d (root u)) ys (line_holds (judged d (root u)) refl) where
        line_holds : (c : Bool) → judged d (root u) ≡ c → HoldsAt l lawful cutoff matched listed (root u) (if c then line_of l (root u) else Dear)
        line_holds true e = judged_holds l lawful cutoff matched listed (root u) (sound_of l u j) ((h d u p).passed e)
        line_holds false e = λ _. (h d u p).dear e
