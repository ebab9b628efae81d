-- The nodes that a dye stores: in rising order, with one more, and those of its dyeings.
use Rattle.std.proofs.Common.{◌≡◌, ◌+◌, ◌-◌, ◌<◌, ◌≤◌, ℕ, suc, Bool, true, false, nat_eq, nat_lt, List, [], ◌∷◌, All, length, get_or, drop, map, ⊎_elim, refl, sym, ap, subst, ◌∙◌, arith, if◌then◌else◌}
use Rattle.std.specs.List.{insert}
use Rattle.std.proofs.lemmas.Bool.{cases_lt}
use Rattle.std.proofs.lemmas.Bool.Decides.{nat_tests}
use Rattle.std.proofs.lemmas.List.Elements.{All-cons, All-nil, All-head, All-tail}
use Rattle.std.proofs.lemmas.List.{length-map, get_or_default}
use Rattle.interval_specs.specs.Ends.{nothing}
use Rattle.interval_specs.proofs.Laws.{none_of}
use Rattle.ks_curves.specs.declared.node.StoredNode.{StoredNode}
use Rattle.ks_curves.specs.Dye.{Dyeing, IsDyeing}
use Rattle.ks_curves.specs.BrokenLine.{Node, origin, value_from}
use Rattle.ks_curves.specs.Nodes.{KeepsNodes}
use Rattle.std.proofs.Math.Seq.{drop-cons}
use Rattle.ks_curves.specs.Order.{put_by, place_by}
use Rattle.ks_curves.specs.Calibration.{node_at, nodes_at, in_order}
use Rattle.ks_curves.specs.StoredNode.{node_of, RiseFrom, IsAdded, AreNodes}
use Rattle.ks_curves.proofs.BrokenLaws.{node_added}
use Rattle.ks_curves.proofs.Cases.{by_less, less_test, not_less_test, most_test, not_most_test}
use Rattle.ks_curves.proofs.Chains.{Chain, before_next, at_first}
use Rattle.ks_curves.proofs.Orders.{Rises, order_rises}
use Rattle.ks_curves.proofs.Stored.{units_of}

-- ---- rising nodes

pub chain_from : (a : Node) (nodes : List Node) → IsAdded a.value → RiseFrom a.units nodes → All (λ b. IsAdded b.value) nodes → Chain IsAdded a nodes
chain_from a [] here rise each = here
chain_from a (b ∷ nodes) here rise each =
    let Q : Node → Type 0 = λ b. IsAdded b.value in
    (here, (rise.0, chain_from b nodes (All-head Q b nodes each) rise.1 (All-tail Q b nodes each)))

pub none_at_origin : (nodes : List Node) → RiseFrom 0 nodes → value_from origin nodes 0 ≡ nothing
unfolding value_from
none_at_origin [] rise = none_of 0 nothing
none_at_origin (b ∷ nodes) rise = before_next origin b nodes 0 rise.0 ∙ at_first origin b rise.0

-- ---- a node is put among the others

pub put_same : (x : Node) (d : StoredNode) (xs : List StoredNode) (p : ℕ) → p ≡ place_by units_of x.units (map node_of xs) → p < length xs → (get_or xs p d).units ≡ x.units
    → put_by units_of x (map node_of xs) ≡ map node_of xs
unfolding put_by place_by
put_same x d [] p is lt same = absurd (omega (arith, lt))
put_same x d (y ∷ ys) p is lt same =
    ⊎_elim
    (λ (after : y.units < x.units).
    let next : p ≡ 1 + place_by units_of x.units (map node_of ys) = is ∙ rw (not_most_test x.units y.units after) refl in
    let q : ℕ = place_by units_of x.units (map node_of ys) in
    let more : p ≡ suc q = omega (arith, next) in
    let below : q < length ys = omega (arith, lt, more) in
    let there : (get_or ys q d).units ≡ x.units = ap (λ k. (get_or (y ∷ ys) k d).units) (sym more) ∙ same in
    rw (not_less_test x.units y.units (omega (arith, after)), less_test y.units x.units after) (ap (λ (zs : List Node). node_of y ∷ zs) (put_same x d ys q refl below there)))
    (λ (up : x.units ≤ y.units).
    let here : p ≡ 0 = is ∙ rw (most_test x.units y.units up) refl in
    let equal : y.units ≡ x.units = ap (λ k. (get_or (y ∷ ys) k d).units) (sym here) ∙ same in
    rw (not_less_test x.units y.units (omega (arith, equal)), not_less_test y.units x.units (omega (arith, equal))) refl)
    (cases_lt y.units x.units)

pub put_new : (x : StoredNode) (d : StoredNode) (xs : List StoredNode) (p : ℕ) → p ≡ place_by units_of x.units (map node_of xs) → (p < length xs → (get_or xs p d).units ≡ x.units → ⊥)
    → map node_of (insert xs p x) ≡ put_by units_of (node_of x) (map node_of xs)
unfolding put_by place_by
put_new x d [] p is other = ap (λ k. map node_of (insert [] k x)) is
put_new x d (y ∷ ys) p is other =
    ⊎_elim
    (λ (after : y.units < x.units).
    let next : p ≡ 1 + place_by units_of x.units (map node_of ys) = is ∙ rw (not_most_test x.units y.units after) refl in
    let q : ℕ = place_by units_of x.units (map node_of ys) in
    let more : p ≡ suc q = omega (arith, next) in
    let there : q < length ys → (get_or ys q d).units ≡ x.units → ⊥ = λ (lt : q < length ys) (same : (get_or ys q d).units ≡ x.units). other (omega (arith, lt, more)) (ap (λ k. (get_or (y ∷ ys) k d).units) more ∙ same) in
    ap (λ k. map node_of (insert (y ∷ ys) k x)) more
    ∙ rw (not_less_test x.units y.units (omega (arith, after)), less_test y.units x.units after) (ap (λ (zs : List Node). node_of y ∷ zs) (put_new x d ys q refl there)))
    (λ (up : x.units ≤ y.units).
    let here : p ≡ 0 = is ∙ rw (most_test x.units y.units up) refl in
    ⊎_elim
    (λ (before : x.units < y.units). ap (λ k. map node_of (insert (y ∷ ys) k x)) here ∙ rw (less_test x.units y.units before) refl)
    (λ (down : y.units ≤ x.units).
    absurd (other (omega (arith, here)) (ap (λ k. (get_or (y ∷ ys) k d).units) here ∙ omega (arith, up, down))))
    (cases_lt x.units y.units))
    (cases_lt y.units x.units)

-- ---- the nodes of dyeings

put_some : (d : Dyeing) (ds : List Dyeing) → 0 < length (put_by (λ d. d.0) d ds)
unfolding put_by
put_some d [] = omega arith
put_some d (e ∷ ds) =
    by_less (λ t. 0 < length (if t then d ∷ e ∷ ds else (if nat_lt e.0 d.0 then e ∷ put_by (λ d. d.0) d ds else e ∷ ds))) d.0 e.0
    (λ before. omega arith)
    (λ not_before. by_less (λ t. 0 < length (if t then e ∷ put_by (λ d. d.0) d ds else e ∷ ds)) e.0 d.0 (λ after. omega arith) (λ same. omega arith))

pub order_some : (ds : List Dyeing) → 0 < length ds → All (λ d. 1 ≤ d.0) ds → 0 < length (in_order ds)
unfolding in_order
order_some [] some each = absurd (omega (arith, some))
order_some (d ∷ ds) some each = go (nat_eq d.0 0) refl
  where
    go : (t : Bool) → nat_eq d.0 0 ≡ t → 0 < length (if t then in_order ds else (put_by (λ d. d.0) d (in_order ds)))
    go true e = let least = each 0 d (omega arith) in absurd (grind (arith, nat_tests, e, least))
    go false e = put_some d (in_order ds)

module _ (n : ℕ) (substrate : List ℕ) (wave : ℕ) where
  nodes_rise : (u : ℕ) (ds : List Dyeing) → Rises u ds → RiseFrom u (map (node_at n substrate wave) ds)
  unfolding node_at
  nodes_rise u [] h = tt
  nodes_rise u (d ∷ ds) h = (h.0, nodes_rise d.0 ds h.1)

  nodes_added : (ds : List Dyeing) → All (λ a. IsAdded a.value) (map (node_at n substrate wave) ds)
  nodes_added [] = All-nil (λ a. IsAdded a.value)
  nodes_added (d ∷ ds) = All-cons (λ a. IsAdded a.value) (node_at n substrate wave d) (map (node_at n substrate wave) ds) (node_added n substrate wave d) (nodes_added ds)

  pub are_nodes : (count : ℕ) (ds : List Dyeing) → 0 < length ds → All (IsDyeing count) ds → AreNodes (nodes_at n substrate wave ds)
  are_nodes count ds some each =
      let least : All (λ d. 1 ≤ d.0) ds = λ k d lt. (each k d lt).units.0 in
      record {
        some = rw length-map (order_some ds some least);
        rise = nodes_rise 0 (in_order ds) (order_rises ds);
        added = nodes_added (in_order ds);
      }

  -- ---- one dyeing more

  put_node : (d : Dyeing) (es : List Dyeing) → map (node_at n substrate wave) (put_by (λ d. d.0) d es) ≡ put_by units_of (node_at n substrate wave d) (map (node_at n substrate wave) es)
  unfolding put_by node_at
  put_node d [] = refl
  put_node d (e ∷ es) = go (nat_lt d.0 e.0) (nat_lt e.0 d.0) (put_node d es)
    where
      f : Dyeing → Node
      f = node_at n substrate wave

      go : (s t : Bool) → map f (put_by (λ d. d.0) d es) ≡ put_by units_of (f d) (map f es)
          → map f (if s then d ∷ e ∷ es else (if t then e ∷ put_by (λ d. d.0) d es else e ∷ es)) ≡ (if s then f d ∷ f e ∷ map f es else (if t then f e ∷ put_by units_of (f d) (map f es) else f e ∷ map f es))
      go true t h = refl
      go false true h = ap (λ (zs : List Node). f e ∷ zs) h
      go false false h = refl

  pub nodes_none : (ds : List Dyeing) → length ds ≡ 0 → nodes_at n substrate wave ds ≡ []
  unfolding in_order
  nodes_none [] h = refl
  nodes_none (d ∷ ds) h = absurd (omega (arith, h))

  pub nodes_more : (d : Dyeing) (ds : List Dyeing) → 1 ≤ d.0 → nodes_at n substrate wave (d ∷ ds) ≡ put_by units_of (node_at n substrate wave d) (nodes_at n substrate wave ds)
  unfolding in_order
  nodes_more d ds some =
      let kept : nat_eq d.0 0 ≡ false = grind (arith, nat_tests, some) in
      rw kept (put_node d (in_order ds))

-- ---- dyeings from the last to the first

pub next_back : (ds : List Dyeing) (k : ℕ) (d : Dyeing) → k < length ds → d ≡ get_or ds (length ds - 1 - k) d → drop (length ds - (k + 1)) ds ≡ d ∷ drop (length ds - k) ds
next_back ds k d lt is =
    let i : ℕ = length ds - 1 - k in
    let here : length ds - (k + 1) ≡ i = omega arith in
    let next : length ds - k ≡ suc i = omega (arith, lt) in
    rw (here, next) (drop-cons ds i d (omega (arith, lt)) ∙ ap (λ (x : Dyeing). x ∷ drop (suc i) ds) (sym is))

-- ---- what is stored

pub kept_nodes : (n : ℕ) (substrate : List ℕ) (dyeings : List Dyeing) (kept slice : List (List Node)) (wave : ℕ) (r : List Node) → KeepsNodes n substrate dyeings kept → slice ≡ kept → wave < length substrate
    → r ≡ get_or slice wave r → 0 < length dyeings → All (IsDyeing (length substrate)) dyeings → AreNodes r
kept_nodes n substrate dyeings kept slice wave r keeps same lt is some each =
    let there : wave < length kept = omega (arith, lt, keeps.count) in
    let equal : r ≡ nodes_at n substrate wave dyeings = is ∙ ap (λ (xs : List (List Node)). get_or xs wave r) same ∙ get_or_default kept wave r [] there ∙ keeps.is wave lt in
    subst AreNodes (sym equal) (are_nodes n substrate wave (length substrate) dyeings some each)
