-- A search has one result for each budget.
use Rattle.std.proofs.Common.{◌≡◌, ◌+◌, ◌-◌, ◌<◌, ◌≤◌, ◌==◌, min, ℕ, zero, suc, List, [], ◌∷◌, Bool, true, false, nat_le, if◌then◌else◌, refl, sym, ap, subst, ◌∙◌, ◌⊎◌, inl, inr, arith, eq-eqb}
use Rattle.std.specs.Prelude.{Option, Some, None}
use Rattle.std.specs.Option.{option_or}
use Rattle.std.proofs.lemmas.Bool.{cases_lt, false≢true}
use Rattle.box_specs.specs.declared.certificate.Claim.{Claim}
use Rattle.box_specs.specs.declared.certificate.Claim.TheVariants.{Floor, Match, NoMatch}
use Rattle.box_specs.specs.Answer.{answer_of}
use Rattle.box_specs.specs.Canonical.{IsClaim, IsPart, canonical_lines, is_judged}
use Rattle.box_specs.specs.Landscape.{IsLawful, Land}
use Rattle.box_specs.specs.Span.{Span}
use Rattle.box_specs.specs.Tree.{Tree, count, fork, is_needed, leaf, need, rank, root, spot_of, tree_of}
use Rattle.box_specs.specs.Validity.{corners, is_undecided_line}
use Rattle.box_search.specs.Laws.{ResultIsCanonical, ResultIsOne}
use Rattle.box_search.specs.Result.{answer_claim, claim_at, corner_cost, first_box, floor_at, search_result}
use Rattle.box_specs.specs.Order.{in_order}
use Rattle.box_search.proofs.Judging.{count_more}
use Rattle.box_search.proofs.Orders.{IsTied, not_itself, precedes, tied}
use Rattle.box_search.proofs.Ranks.{At, rank_lt, whole}
use Rattle.box_specs.proofs.Tests.{above, at_most, by, ge_test, le_test, lt_test, not_le_test, test_lt, tested}
use Rattle.box_search.proofs.Rising.{order_each, order_every, order_is, order_rises}
use Rattle.box_search.proofs.Trees.{count_le, count_lt, part_root}

-- a part of the tree that passes the test
record Passing (l : Land) (test : ℕ → Span → Bool) (k : ℕ) (t : Tree) : Type 0 where
  pub depth : ℕ
  pub part : Tree
  pub at : IsPart l t k depth part
  pub passes : test depth (root part) ≡ true

record IsPassing (l : Land) (test : ℕ → Span → Bool) (k : ℕ) (t : Tree) (b : Span) : Type 0 where
  pub of : Passing l test k t
  pub is : root of.part ≡ b

abbrev Tells : Land → (ℕ → Span → Bool) → ℕ → Tree → Option Span → Type 0
Tells l test k t None = (e : ℕ) (v : Tree) → IsPart l t k e v → test e (root v) ≡ false
Tells l test k t (Some b) = IsPassing l test k t b

module _ (l : Land) (test : ℕ → Span → Bool) where
  here : (k : ℕ) (t : Tree) → test k (root t) ≡ true → IsPassing l test k t (root t)
  here k t h = record { of = record { depth = k; part = t; at = part_root l t k; passes = h }; is = refl }

  not_here : (k e : ℕ) (t v : Tree) → k ≡ e → t ≡ v → test k (root t) ≡ false → test e (root v) ≡ false
  not_here k e t v x y h = (λ i. test (sym x i) (root (sym y i))) ∙ h

  -- `first_box` gives a box that passes the test, or none where no box of the tree passes
  first_tells : (k : ℕ) (t : Tree) → Tells l test k t (first_box test k t)
  first_tells k (leaf b) = go (test k b) refl where
    go : (c : Bool) → test k b ≡ c → Tells l test k (leaf b) (if c then Some b else None)
    go true h = here k (leaf b) h
    go false h = λ e v i. not_here k e (leaf b) v i.0 i.1 h
  first_tells k (fork b s t) = go (test k b) refl (first_box test (k + 1) s) (first_box test (k + 1) t) (first_tells (k + 1) s) (first_tells (k + 1) t) where
    go : (c : Bool) → test k b ≡ c → (x y : Option Span) → Tells l test (k + 1) s x → Tells l test (k + 1) t y → Tells l test k (fork b s t) (if c then Some b else option_or x y)
    go true h x y p q = here k (fork b s t) h
    go false h (Some c) y p q = record { of = record { depth = p.of.depth; part = p.of.part; at = inr (inl p.of.at); passes = p.of.passes }; is = p.is }
    go false h None (Some c) p q = record { of = record { depth = q.of.depth; part = q.of.part; at = inr (inr q.of.at); passes = q.of.passes }; is = q.is }
    go false h None None p q = none where
      none : (e : ℕ) (v : Tree) → IsPart l (fork b s t) k e v → test e (root v) ≡ false
      none e v (inl i) = not_here k e (fork b s t) v i.0 i.1 h
      none e v (inr (inl i)) = p e v i
      none e v (inr (inr i)) = q e v i

module _ (l : Land) (lawful : IsLawful l) where
  abbrev rank_at : ℕ → Span → ℕ
  rank_at d b = rank l (spot_of l d b)

  abbrev has_rank : ℕ → ℕ → Span → Bool
  has_rank n d b = rank l (spot_of l d b) == n

  not_preceding : (d e : ℕ) (u v : Tree) → At l lawful d u → rank_at d (root u) ≡ rank_at e (root v) → precedes (spot_of l d (root u)) (spot_of l e (root v)) ≡ false
  not_preceding d e u v i same = by (precedes (spot_of l d (root u)) (spot_of l e (root v)))
      (λ x.
      let less = rank_lt l lawful d u (spot_of l e (root v)) i x in
      absurd (never (rank_at d (root u)) (rank_at e (root v)) less same))
      (λ x. x) where
        never : (m n : ℕ) → m < n → m ≡ n → ⊥
        never m n h k = omega (arith, h, k)

  -- two boxes of the same rank have the same lower corner and the same depth
  one_rank : (d e : ℕ) (u v : Tree) → At l lawful d u → At l lawful e v → rank_at d (root u) ≡ rank_at e (root v) → IsTied (spot_of l d (root u)) (spot_of l e (root v))
  one_rank d e u v i j same = tied (spot_of l d (root u)) (spot_of l e (root v)) (not_preceding d e u v i same) (not_preceding e d v u j (sym same))

  -- how many boxes have a rank below a number
  abbrev pub below : ℕ → ℕ
  below n = count (is_judged l n) 0 (tree_of l)

  abbrev all_boxes : ℕ
  all_boxes = count (λ d b. true) 0 (tree_of l)

  below_or_at : (r m : ℕ) → r < m + 1 → (r < m) ⊎ (r ≡ m)
  below_or_at r m h = elim (cases_lt r m) as (λ _. (r < m) ⊎ (r ≡ m)) [
    | inl x ↦ inl x
    | inr x ↦ inr (omega (arith, h, x))
  ]

  no_more : (m : ℕ) → ((e : ℕ) (v : Tree) → At l lawful e v → has_rank m e (root v) ≡ false) → below (m + 1) ≤ below m
  no_more m none = count_le l (is_judged l (m + 1)) (is_judged l m) (tree_of l) 0
      (λ e v i x. elim (below_or_at (rank_at e (root v)) m (test_lt (rank_at e (root v)) (m + 1) x)) as (λ _. is_judged l m e (root v) ≡ true) [
        | inl y ↦ lt_test (rank_at e (root v)) m y
        | inr y ↦ absurd (false≢true (sym (none e v i) ∙ eq-eqb (rank_at e (root v)) m y))
      ])

  one_more : (m : ℕ) → below (m + 1) ≤ below m + 1
  one_more m = go (first_box (has_rank m) 0 (tree_of l)) (first_tells l (has_rank m) 0 (tree_of l)) where
    go : (o : Option Span) → Tells l (has_rank m) 0 (tree_of l) o → below (m + 1) ≤ below m + 1
    go None h =
        let same = no_more m h in
        omega (arith, same)
    go (Some b) h = count_more l (is_judged l m) (is_judged l (m + 1)) h.of.depth (root h.of.part).lo (tree_of l) 0 (whole l lawful)
        (λ e v i x. elim (below_or_at (rank_at e (root v)) m (test_lt (rank_at e (root v)) (m + 1) x)) as (λ _. (is_judged l m e (root v) ≡ true) ⊎ ((e ≡ h.of.depth) × ((root v).lo ≡ (root h.of.part).lo))) [
          | inl y ↦ inl (lt_test (rank_at e (root v)) m y)
          | inr y ↦
              let two = one_rank e h.of.depth v h.of.part i h.of.at (y ∙ sym (tested (rank_at h.of.depth (root h.of.part)) m h.of.passes)) in
              inr (two.depth, two.steps)
        ])

  none_at : (k : ℕ) (b : Span) → count (is_judged l 0) k (leaf b) ≡ 0
  none_at k b = ap one (ge_test (rank_at k b) 0 (omega arith)) where
    one : Bool → ℕ
    one t = if t then 1 else 0

  none_below : (t : Tree) (k : ℕ) → count (is_judged l 0) k t ≡ 0
  none_below (leaf b) k = none_at k b
  none_below (fork b s t) k =
      let one = none_at k b in
      omega (arith, one, none_below s (k + 1), none_below t (k + 1))

  pub few_below : (m : ℕ) → below m ≤ m
  few_below zero =
      let none = none_below (tree_of l) 0 in
      omega (arith, none)
  few_below (suc m) =
      let rest = few_below m in
      let next : m + 1 ≡ suc m = omega arith in
      step m (below m) (below (suc m)) rest (subst (λ n. below n ≤ below m + 1) next (one_more m)) where
        step : (m n k : ℕ) → n ≤ m → k ≤ n + 1 → k ≤ suc m
        step m n k h x = omega (arith, h, x)

  rest_below : (m k : ℕ) → below (m + k) ≤ below m + k
  rest_below m zero =
      let here : below m ≤ below m + 0 = omega arith in
      let none : m ≡ m + 0 = omega arith in
      subst (λ n. below n ≤ below m + 0) none here
  rest_below m (suc k) =
      let rest = rest_below m k in
      let more = one_more (m + k) in
      let next : m + k + 1 ≡ m + suc k = omega arith in
      subst (λ n. below n ≤ below m + suc k) next (step (below (m + k + 1)) (below (m + k)) (below m) k rest more) where
        step : (a b c k : ℕ) → b ≤ c + k → a ≤ b + 1 → a ≤ c + suc k
        step a b c k x y = omega (arith, x, y)

  all_below : all_boxes ≤ below all_boxes
  all_below = count_le l (λ d b. true) (is_judged l all_boxes) (tree_of l) 0
      (λ d u i x. lt_test (rank_at d (root u)) all_boxes
      (count_lt l (λ e b. precedes (spot_of l e b) (spot_of l d (root u))) (λ e b. true) (tree_of l) 0 d u (λ e v j y. refl) i (not_itself (spot_of l d (root u))) refl))

  -- each number below the number of all boxes is the rank of a box
  box_of : (m : ℕ) → m < all_boxes → Passing l (has_rank m) 0 (tree_of l)
  box_of m h = go (first_box (has_rank m) 0 (tree_of l)) (first_tells l (has_rank m) 0 (tree_of l)) where
    rest : below all_boxes ≤ below (m + 1) + (all_boxes - (m + 1))
    rest = subst (λ n. below n ≤ below (m + 1) + (all_boxes - (m + 1))) (fits m all_boxes h) (rest_below (m + 1) (all_boxes - (m + 1))) where
      fits : (a b : ℕ) → a < b → a + 1 + (b - (a + 1)) ≡ b
      fits a b x = omega (arith, x)

    too_few : (n a b c m : ℕ) → m < n → n ≤ a → a ≤ b + (n - (m + 1)) → b ≤ c → c ≤ m → ⊥
    too_few n a b c m x y z w v = omega (arith, x, y, z, w, v)

    go : (o : Option Span) → Tells l (has_rank m) 0 (tree_of l) o → Passing l (has_rank m) 0 (tree_of l)
    go None none = absurd (too_few all_boxes (below all_boxes) (below (m + 1)) (below m) m h all_below rest (no_more m none) (few_below m))
    go (Some b) some = some.of

  need_few : need l ≤ all_boxes
  need_few = count_le l (λ d b. is_needed l (answer_of l) b) (λ d b. true) (tree_of l) 0 (λ d u i x. refl)

  -- the lower corner of a box whose rank is the budget costs `floor_at l budget`
  floor_is : (budget d : ℕ) (u : Tree) → At l lawful d u → rank_at d (root u) ≡ budget → l.cost (root u).lo ≡ floor_at l budget
  floor_is budget d u i r = go (first_box (has_rank budget) 0 (tree_of l)) (first_tells l (has_rank budget) 0 (tree_of l)) where
    go : (o : Option Span) → Tells l (has_rank budget) 0 (tree_of l) o → l.cost (root u).lo ≡ corner_cost l o
    go None none = absurd (false≢true (sym (none d u i) ∙ eq-eqb (rank_at d (root u)) budget r))
    go (Some b) some =
        let two = one_rank d some.of.depth u some.of.part i some.of.at (r ∙ sym (tested (rank_at some.of.depth (root some.of.part)) budget some.of.passes)) in
        ap l.cost two.steps ∙ ap (λ c. l.cost c.lo) some.is

  enough : (budget : ℕ) → need l ≤ budget → nat_le (need l) budget ≡ true
  enough budget h = le_test (need l) budget h

  too_small : (budget : ℕ) → budget < need l → nat_le (need l) budget ≡ false
  too_small budget h = not_le_test (need l) budget h

  claim_is : (budget : ℕ) (claim : Claim) → IsClaim l budget claim → claim ≡ claim_at l budget
  claim_is budget (Match recipe) c = ap answer_claim (sym c.1) ∙ ap (λ t. if t then answer_claim (answer_of l) else Floor (floor_at l budget)) (sym (enough budget c.0))
  claim_is budget NoMatch c = ap answer_claim (sym c.1) ∙ ap (λ t. if t then answer_claim (answer_of l) else Floor (floor_at l budget)) (sym (enough budget c.0))
  claim_is budget (Floor cost) c =
      ap Floor (c.5 ∙ floor_is budget c.1 c.2 c.3 c.4) ∙ ap (λ t. if t then answer_claim (answer_of l) else Floor (floor_at l budget)) (sym (too_small budget c.0))

  pub claim_holds : (budget : ℕ) → IsClaim l budget (claim_at l budget)
  claim_holds budget = go (nat_le (need l) budget) refl where
    answered : need l ≤ budget → (o : Option (List ℕ)) → answer_of l ≡ o → IsClaim l budget (answer_claim o)
    answered h None e = (h, e)
    answered h (Some r) e = (h, e)

    go : (t : Bool) → nat_le (need l) budget ≡ t → IsClaim l budget (if t then answer_claim (answer_of l) else Floor (floor_at l budget))
    go true e = answered (at_most (need l) budget e) (answer_of l) refl
    go false e =
        let more = above (need l) budget e in
        let box = box_of budget (less (need l) all_boxes budget more need_few) in
        let r = tested (rank_at box.depth (root box.part)) budget box.passes in
        (more, box.depth, box.part, box.at, r, sym (floor_is budget box.depth box.part box.at r)) where
          less : (a b c : ℕ) → c < a → a ≤ b → c < b
          less a b c x y = omega (arith, x, y)

pub one_result : (l : Land) → ResultIsOne l
unfolding search_result
one_result l lawful budget result c =
    let lines : result.lines ≡ canonical_lines l (min (need l) budget) = c.tree_is ∙ ap (canonical_lines l) c.judged in
    let cs = corners is_undecided_line (l.top ∷ []) in
    let listed = order_is l result.listed (cs result.lines) c.rising c.each c.every ∙ ap (λ xs. in_order l (cs xs)) lines in
    let claim = claim_is l lawful budget result.claim c.claimed in
    λ i. record { claim = claim i; listed = listed i; lines = lines i; boxes = c.judged i }

pub result_is_canonical : (l : Land) → ResultIsCanonical l
unfolding search_result
result_is_canonical l lawful budget = record {
  judged = refl;
  claimed = claim_holds l lawful budget;
  tree_is = refl;
  rising = order_rises l cs;
  each = order_each l cs;
  every = order_every l cs;
} where
  cs : List (List ℕ)
  cs = corners is_undecided_line (l.top ∷ []) (canonical_lines l (min (need l) budget))
