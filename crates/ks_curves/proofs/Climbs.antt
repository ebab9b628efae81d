-- A broken line on which neither end falls: over units its values lie between those at both ends.
use Rattle.std.proofs.Common.{◌≡◌, ◌-◌, ◌<◌, ◌≤◌, ◌≤ℤ◌, ℕ, ℤ, List, [], ◌∷◌, ⊎_elim, sym, ap, subst, ◌∙◌, arith}
use Rattle.std.proofs.lemmas.Bool.{cases_lt}
use Rattle.std.proofs.lemmas.List.Elements.{All-cons, All-nil}
use Rattle.interval_specs.specs.Ends.{Ends}
use Rattle.interval_specs.specs.Operations.{hull_of}
use Rattle.interval_specs.proofs.Order.{antisym_ℤ, refl_ℤ, trans_ℤ, min_first, max_first}
use Rattle.interval_specs.proofs.Rounds.{floor_mono, ceil_mono}
use Rattle.ks_curves.specs.BrokenLine.{Node, origin, between_at, value_from, widened, broken_over}
use Rattle.ks_curves.specs.StoredNode.{Climb, IsAdded}
use Rattle.ks_curves.proofs.BrokenLaws.{Within, NodesWithin, hull_within, hull_left, hull_right, widened_first, widened_single, widened_within}
use Rattle.ks_curves.proofs.Chains.{Chain, from_next, before_next, at_last, at_node}
use Rattle.ks_curves.proofs.Means.{weigh_rises}
use Rattle.ks_curves.proofs.Walks.{past_rises}

-- one interval is not above another, end by end
abbrev pub IsBelow : Ends → Ends → Type 0
IsBelow d e = (d.lo ≤ℤ e.lo) × (d.hi ≤ℤ e.hi)

below_through : (d e f : Ends) → IsBelow d e → IsBelow e f → IsBelow d f
below_through d e f p q = (trans_ℤ d.lo e.lo f.lo p.0 q.0, trans_ℤ d.hi e.hi f.hi p.1 q.1)

between_climbs : (a b : Node) (x y : ℕ) → a.units < b.units → a.units ≤ x → x ≤ y → y ≤ b.units → IsBelow a.value b.value → IsBelow (between_at a b x) (between_at a b y)
between_climbs a b x y lt from le to climb =
    let some : 0 < b.units - a.units = omega (arith, lt) in (
      floor_mono _ _ (b.units - a.units) some (weigh_rises a.value.lo b.value.lo a.units b.units x y from le to climb.0),
      ceil_mono _ _ (b.units - a.units) some (weigh_rises a.value.hi b.value.hi a.units b.units x y from le to climb.1),
    )

pub value_climbs : (a : Node) (nodes : List Node) (x y : ℕ) → Chain IsAdded a nodes → Climb a nodes → a.units ≤ x → x ≤ y → IsBelow (value_from a nodes x) (value_from a nodes y)
unfolding value_from
value_climbs a [] x y chain climb from le = past_rises a.value a.units x y chain le
value_climbs a (b ∷ nodes) x y chain climb from le =
    let lt : a.units < b.units = chain.1.0 in
    let up : IsBelow a.value b.value = climb.0 in
    ⊎_elim
    (λ (before : y < b.units).
    subst (λ e. IsBelow e (value_from a (b ∷ nodes) y)) (sym (before_next a b nodes x (omega (arith, le, before))))
    (subst (λ e. IsBelow (between_at a b x) e) (sym (before_next a b nodes y before)) (between_climbs a b x y lt from le (omega (arith, before)) up)))
    (λ (after : b.units ≤ y).
    let last : value_from a (b ∷ nodes) y ≡ value_from b nodes y = from_next a b nodes y after in
    ⊎_elim
    (λ (first : x < b.units).
    let node : between_at a b b.units ≡ value_from b nodes b.units = at_last a b lt ∙ sym (at_node IsAdded b nodes chain.1.1 (omega (arith, lt))) in
    let left : IsBelow (value_from a (b ∷ nodes) x) (value_from b nodes b.units) =
    subst (λ e. IsBelow e (value_from b nodes b.units)) (sym (before_next a b nodes x first))
    (subst (λ e. IsBelow (between_at a b x) e) node (between_climbs a b x b.units lt from (omega (arith, first)) (omega arith) up)) in
    subst (λ e. IsBelow (value_from a (b ∷ nodes) x) e) (sym last)
    (below_through _ _ _ left (value_climbs b nodes b.units y chain.1.1 climb.1 (omega arith) after)))
    (λ (second : b.units ≤ x).
    subst (λ e. IsBelow e (value_from a (b ∷ nodes) y)) (sym (from_next a b nodes x second))
    (subst (λ e. IsBelow (value_from b nodes x) e) (sym last) (value_climbs b nodes x y chain.1.1 climb.1 second le)))
    (cases_lt x b.units))
    (cases_lt y b.units)

-- bounds of the values bound the nodes
nodes_within : (k l : ℤ) (a : Node) (nodes : List Node) (x0 x1 : ℕ) → Chain IsAdded a nodes → ((y : ℕ) → a.units ≤ y → x0 ≤ y → y ≤ x1 → Within k l (value_from a nodes y)) → NodesWithin k l x0 x1 nodes
nodes_within k l a [] x0 x1 chain each = All-nil (λ b. x0 < b.units → b.units < x1 → Within k l b.value)
nodes_within k l a (b ∷ nodes) x0 x1 chain each =
    let Q : Node → Type 0 = λ b. x0 < b.units → b.units < x1 → Within k l b.value in
    let lt : a.units < b.units = chain.1.0 in
    let here : value_from a (b ∷ nodes) b.units ≡ b.value = from_next a b nodes b.units (omega arith) ∙ at_node IsAdded b nodes chain.1.1 (omega (arith, lt)) in
    All-cons Q b nodes (λ p q. subst (Within k l) here (each b.units (omega (arith, lt)) (omega (arith, p)) (omega (arith, q))))
    (nodes_within k l b nodes x0 x1 chain.1.1 (λ y from p q. subst (Within k l) (from_next a b nodes y from) (each y (omega (arith, lt, from)) p q)))

-- the lower end is that at x0, the upper end that at x1
pub climb_over : (nodes : List Node) (x0 x1 : ℕ) → Chain IsAdded origin nodes → Climb origin nodes → x0 ≤ x1
    → ((value_from origin nodes x0).lo ≡ (broken_over nodes x0 x1).lo) × ((value_from origin nodes x1).hi ≡ (broken_over nodes x0 x1).hi)
unfolding broken_over
climb_over nodes x0 x1 chain climb le =
    let first : Ends = value_from origin nodes x0 in
    let last : Ends = value_from origin nodes x1 in
    let whole : Ends = widened x0 x1 (hull_of first last) nodes in
    let up : (x y : ℕ) → x ≤ y → IsBelow (value_from origin nodes x) (value_from origin nodes y) = λ (x y : ℕ) (h : x ≤ y). value_climbs origin nodes x y chain climb (omega arith) h in
    let each : (y : ℕ) → 0 ≤ y → x0 ≤ y → y ≤ x1 → Within first.lo last.hi (value_from origin nodes y) =
    λ (y : ℕ) (o : 0 ≤ y) (p : x0 ≤ y) (q : y ≤ x1). record { low = (up x0 y p).0; high = (up y x1 q).1 } in
    let inside : Within first.lo last.hi whole =
    widened_within first.lo last.hi x0 x1 _ nodes (hull_within first.lo last.hi first last (each x0 (omega arith) (omega arith) le) (each x1 (omega arith) le (omega arith)))
    (nodes_within first.lo last.hi origin nodes x0 x1 chain each) in
    let both : Within whole.lo whole.hi (hull_of first last) = widened_first whole.lo whole.hi x0 x1 _ nodes (record { low = refl_ℤ whole.lo; high = refl_ℤ whole.hi }) in
    (antisym_ℤ _ _ inside.low (hull_left _ _ _ _ both).low, antisym_ℤ _ _ (hull_right _ _ _ _ both).high inside.high)

-- of a single number of units, whether the line climbs or not
pub single_over : (nodes : List Node) (x0 x1 : ℕ) → x0 ≡ x1 → ((value_from origin nodes x0).lo ≡ (broken_over nodes x0 x1).lo) × ((value_from origin nodes x1).hi ≡ (broken_over nodes x0 x1).hi)
unfolding broken_over hull_of
single_over nodes x0 x1 same =
    let whole : (x : ℕ) → broken_over nodes x x ≡ hull_of (value_from origin nodes x) (value_from origin nodes x) = λ (x : ℕ). widened_single x _ nodes in
    let low : (x : ℕ) → (value_from origin nodes x).lo ≡ (broken_over nodes x x).lo = λ (x : ℕ). sym (ap (λ (e : Ends). e.lo) (whole x) ∙ min_first _ _ (refl_ℤ (value_from origin nodes x).lo)) in
    let high : (x : ℕ) → (value_from origin nodes x).hi ≡ (broken_over nodes x x).hi = λ (x : ℕ). sym (ap (λ (e : Ends). e.hi) (whole x) ∙ max_first _ _ (refl_ℤ (value_from origin nodes x).hi)) in
    (low x0 ∙ ap (λ x. (broken_over nodes x0 x).lo) same, high x1 ∙ ap (λ x. (broken_over nodes x x1).hi) (sym same))
