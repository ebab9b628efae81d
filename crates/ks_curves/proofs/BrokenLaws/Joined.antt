-- The laws of the broken line that joins dyeings.
use Rattle.std.proofs.Common.{◌≡◌, ◌-◌, ◌/◌, ◌≤◌, ◌<◌, ◌≤ℤ◌, ◌+ℤ◌, ◌*ℤ◌, ◌∙◌, ℕ, ℤ, pos, negsuc, nat_le, List, [], ◌∷◌, All, map, subst, one-mul, arith}
use Rattle.std.proofs.lemmas.Int.{ints}
use Rattle.std.proofs.lemmas.List.Elements.{All-cons, All-nil, All-head, All-tail}
use Rattle.interval_specs.specs.Ends.{Ends, IsOrdered, nothing}
use Rattle.interval_specs.specs.Encloses.{Encloses}
use Rattle.interval_specs.specs.Operations.{fraction_of, hull_of}
use Rattle.interval_specs.specs.Rounding.{floor_over}
use Rattle.interval_specs.proofs.Laws.{included, none_of}
use Rattle.interval_specs.proofs.Order.{le_pos, refl_ℤ, either_min}
use Rattle.interval_specs.proofs.Ranges.{cut_low_not_negative}
use Rattle.ks_curves.specs.Dye.{Dyeing}
use Rattle.ks_curves.specs.Calibration.{node_at, nodes_at, in_order}
use Rattle.ks_curves.specs.BrokenLine.{Node, origin, between_at, value_from, widened, broken_over}
use Rattle.ks_curves.specs.StoredNode.{IsAdded}
use Rattle.ks_curves.proofs.Chains.{Chain, chain_head, before_next, at_first}
use Rattle.ks_curves.proofs.Means.{weigh_mono}
use Rattle.ks_curves.proofs.Orders.{Rises, order_rises}
use Rattle.ks_curves.proofs.BrokenLaws.Enclosing.{node_encloses, value_encloses, broken_encloses}
use Rattle.ks_curves.proofs.BrokenLaws.Hulls.{choose, widened_all, hull_within, hull_left, hull_right, widened_first, widened_nodes, widened_within}
use Rattle.ks_curves.proofs.BrokenLaws.Narrowing.{Within, NodesWithin, within}

-- ---- nodes

pub node_added : (n : ℕ) (substrate : List ℕ) (wave : ℕ) (d : Dyeing) → IsAdded (node_at n substrate wave d).value
unfolding node_at
node_added n substrate wave d = record {
  not_negative = cut_low_not_negative n 0 _;
  ordered = subst (λ k. IsOrdered (node_at k substrate wave d).value) (one-mul n) (node_encloses n 1 substrate wave d).ordered;
}

-- dyeings in rising order make a chain
pub chain_of : (P : Ends → Type 0) (n : ℕ) (substrate : List ℕ) (wave : ℕ) (a : Node) (ds : List Dyeing) → P a.value → All (λ d. P (node_at n substrate wave d).value) ds → Rises a.units ds → Chain P a (map (node_at n substrate wave) ds)
unfolding node_at
chain_of P n substrate wave a [] here each rises = here
chain_of P n substrate wave a (d ∷ ds) here each rises =
    let Q : Dyeing → Type 0 = λ d. P (node_at n substrate wave d).value in
    (here, (rises.0, chain_of P n substrate wave (node_at n substrate wave d) ds (All-head Q d ds each) (All-tail Q d ds each) rises.1))

-- ---- values that are not below 0

floor_from_0 : (z : ℤ) (q : ℕ) → pos 0 ≤ℤ z → pos 0 ≤ℤ floor_over z q
unfolding floor_over
floor_from_0 (pos a) q h = le_pos (a / q)
floor_from_0 (negsuc a) q h = absurd (omega (arith, ints))

weigh_from_0 : (a b : ℤ) (p q : ℕ) → pos 0 ≤ℤ a → pos 0 ≤ℤ b → pos 0 ≤ℤ (a *ℤ pos p +ℤ b *ℤ pos q)
weigh_from_0 a b p q h k = let m = weigh_mono (pos 0) (pos 0) a b p q h k in omega (arith, ints, m)

times_from_0 : (a : ℤ) (p : ℕ) → pos 0 ≤ℤ a → pos 0 ≤ℤ (a *ℤ pos p)
times_from_0 a p h = let m = weigh_from_0 a (pos 0) p 0 h (omega (arith, ints)) in omega (arith, ints, m)

value_not_negative : (a : Node) (nodes : List Node) (x : ℕ) → Chain IsAdded a nodes → pos 0 ≤ℤ (value_from a nodes x).lo
unfolding value_from fraction_of
value_not_negative a [] x h = floor_from_0 _ a.units (times_from_0 a.value.lo x h.not_negative)
value_not_negative a (b ∷ nodes) x h =
    choose (λ e. pos 0 ≤ℤ e.lo) (nat_le b.units x) (value_from b nodes x) (between_at a b x) (value_not_negative b nodes x h.1.1)
    (floor_from_0 _ (b.units - a.units) (weigh_from_0 a.value.lo b.value.lo (b.units - x) (x - a.units) h.0.not_negative (chain_head IsAdded b nodes h.1.1).not_negative))

values_not_negative : (a : Node) (nodes : List Node) → Chain IsAdded a nodes → All (λ b. pos 0 ≤ℤ b.value.lo) nodes
values_not_negative a [] h = All-nil (λ b. pos 0 ≤ℤ b.value.lo)
values_not_negative a (b ∷ nodes) h = All-cons (λ b. pos 0 ≤ℤ b.value.lo) b nodes (chain_head IsAdded b nodes h.1.1).not_negative (values_not_negative b nodes h.1.1)

hull_not_negative : (a b : Ends) → pos 0 ≤ℤ a.lo → pos 0 ≤ℤ b.lo → pos 0 ≤ℤ (hull_of a b).lo
unfolding hull_of
hull_not_negative a b p q = either_min (λ z. pos 0 ≤ℤ z) a.lo b.lo p q

module _ (n : ℕ) (substrate : List ℕ) (wave : ℕ) (ds : List Dyeing) where
  abbrev nodes : List Node
  nodes = nodes_at n substrate wave ds

  pub nodes_chain : Chain IsAdded origin nodes
  nodes_chain =
      chain_of IsAdded n substrate wave origin (in_order ds) (record { not_negative = omega (arith, ints); ordered = omega (arith, ints) })
      (λ k d lt. node_added n substrate wave _) (order_rises ds)

  -- ---- ends in order

  pub value_ordered : (x : ℕ) → IsOrdered (value_from origin nodes x)
  value_ordered x = subst (λ k. IsOrdered (value_from origin (nodes_at k substrate wave ds) x)) (one-mul n) (value_encloses n 1 substrate wave (in_order ds) x).ordered

  pub broken_ordered : (x0 x1 : ℕ) → IsOrdered (broken_over nodes x0 x1)
  broken_ordered x0 x1 = subst (λ k. IsOrdered (broken_over (nodes_at k substrate wave ds) x0 x1)) (one-mul n) (broken_encloses n 1 substrate wave (in_order ds) x0 x1).ordered

  -- ---- in the range of units

  -- the values over units hold the value at each of them
  pub broken_holds : (x0 x1 y : ℕ) → x0 ≤ y → y ≤ x1 → Within (broken_over nodes x0 x1).lo (broken_over nodes x0 x1).hi (value_from origin nodes y)
  unfolding broken_over
  broken_holds x0 x1 y low high =
      let k = (broken_over nodes x0 x1).lo in
      let l = (broken_over nodes x0 x1).hi in
      let whole : Within k l (widened x0 x1 (hull_of (value_from origin nodes x0) (value_from origin nodes x1)) nodes) = record { low = refl_ℤ k; high = refl_ℤ l } in
      let both = widened_first k l x0 x1 _ nodes whole in
      within k l x0 x1 y x0 origin nodes nodes_chain (omega arith) (omega arith) low high (hull_left k l _ _ both) (hull_right k l _ _ both) (widened_nodes k l x0 x1 _ nodes whole)

  pub broken_narrows : (x0 x1 y0 y1 : ℕ) → x0 ≤ y0 → y0 ≤ y1 → y1 ≤ x1 → Encloses 1 (broken_over nodes x0 x1) (broken_over nodes y0 y1)
  unfolding broken_over
  broken_narrows x0 x1 y0 y1 low middle high =
      let k = (broken_over nodes x0 x1).lo in
      let l = (broken_over nodes x0 x1).hi in
      let whole : Within k l (widened x0 x1 (hull_of (value_from origin nodes x0) (value_from origin nodes x1)) nodes) = record { low = refl_ℤ k; high = refl_ℤ l } in
      let W : Node → Type 0 = λ b. x0 < b.units → b.units < x1 → Within k l b.value in
      let inner : NodesWithin k l y0 y1 nodes = λ i d lt more less. widened_nodes k l x0 x1 _ nodes whole i d lt (omega (arith, low, more)) (omega (arith, high, less)) in
      let both = hull_within k l _ _ (broken_holds x0 x1 y0 low (omega (arith, middle, high))) (broken_holds x0 x1 y1 (omega (arith, low, middle)) high) in
      let all : Within k l (broken_over nodes y0 y1) = widened_within k l y0 y1 _ nodes both inner in
      included (broken_over nodes x0 x1) (broken_over nodes y0 y1) all.low all.high (broken_ordered y0 y1)

  -- ---- not below 0

  pub broken_not_negative : (x0 x1 : ℕ) → pos 0 ≤ℤ (broken_over nodes x0 x1).lo
  unfolding broken_over
  broken_not_negative x0 x1 =
      widened_all (λ e. pos 0 ≤ℤ e.lo) hull_not_negative x0 x1 _ nodes
      (hull_not_negative _ _ (value_not_negative origin nodes x0 nodes_chain) (value_not_negative origin nodes x1 nodes_chain))
      (values_not_negative origin nodes nodes_chain)

  -- ---- no units

  none_from : (es : List Dyeing) → Rises 0 es → value_from origin (map (node_at n substrate wave) es) 0 ≡ nothing
  unfolding value_from node_at
  none_from [] h = none_of 0 nothing
  none_from (e ∷ es) h = before_next origin (node_at n substrate wave e) (map (node_at n substrate wave) es) 0 h.0 ∙ at_first origin (node_at n substrate wave e) h.0

  pub value_of_none : value_from origin nodes 0 ≡ nothing
  value_of_none = none_from (in_order ds) (order_rises ds)
