-- The values of a broken line over units lie between the bounds of the values at both ends and at
-- the nodes strictly between.
use Rattle.std.proofs.Common.{◌≡◌, ◌-◌, ◌<◌, ◌≤◌, ◌≤ℤ◌, ◌*ℤ◌, ℕ, ℤ, pos, List, [], ◌∷◌, All, ⊎_elim, ap, sym, subst, ◌∙◌, arith}
use Rattle.std.proofs.lemmas.Int.{ints, by_lt_z}
use Rattle.std.proofs.lemmas.Bool.{cases_lt}
use Rattle.std.proofs.lemmas.List.Elements.{All-head, All-tail}
use Rattle.interval_specs.specs.Ends.{Ends}
use Rattle.interval_specs.specs.Operations.{fraction_of}
use Rattle.interval_specs.specs.Rounding.{floor_over, ceil_over}
use Rattle.interval_specs.proofs.Order.{trans_ℤ}
use Rattle.interval_specs.proofs.Rounds.{floor_mono, ceil_mono, floor_finer, ceil_finer}
use Rattle.ks_curves.specs.BrokenLine.{Node, between_at, value_from}
use Rattle.ks_curves.specs.StoredNode.{IsAdded}
use Rattle.ks_curves.proofs.Chains.{Chain, from_next, before_next, at_last, at_node}
use Rattle.ks_curves.proofs.Means.{weigh, weigh_rises, weigh_falls}
use Rattle.ks_curves.proofs.Units.{more_units, once, at_once}

-- an interval between k and l
pub record Within (k l : ℤ) (e : Ends) : Type 0 where
  pub low : k ≤ℤ e.lo
  pub high : e.hi ≤ℤ l

-- between two nodes: what bounds the values at p and r bounds those between
low_between : (k a b : ℤ) (u v p y r : ℕ) → u < v → u ≤ p → p ≤ y → y ≤ r → r ≤ v
    → k ≤ℤ floor_over (weigh a b u v p) (v - u) → k ≤ℤ floor_over (weigh a b u v r) (v - u) → k ≤ℤ floor_over (weigh a b u v y) (v - u)
low_between k a b u v p y r lt up py yr rv left right =
    let some : 0 < v - u = omega arith in
    by_lt_z a b
    (λ less. trans_ℤ k _ _ left (floor_mono (weigh a b u v p) (weigh a b u v y) (v - u) some (weigh_rises a b u v p y up py (omega arith) (omega (arith, ints, less)))))
    (λ more. trans_ℤ k _ _ right (floor_mono (weigh a b u v r) (weigh a b u v y) (v - u) some (weigh_falls a b u v y r (omega arith) yr rv more)))

high_between : (l a b : ℤ) (u v p y r : ℕ) → u < v → u ≤ p → p ≤ y → y ≤ r → r ≤ v
    → ceil_over (weigh a b u v p) (v - u) ≤ℤ l → ceil_over (weigh a b u v r) (v - u) ≤ℤ l → ceil_over (weigh a b u v y) (v - u) ≤ℤ l
high_between l a b u v p y r lt up py yr rv left right =
    let some : 0 < v - u = omega arith in
    by_lt_z a b
    (λ less. trans_ℤ _ _ l (ceil_mono (weigh a b u v y) (weigh a b u v r) (v - u) some (weigh_rises a b u v y r (omega arith) yr rv (omega (arith, ints, less)))) right)
    (λ more. trans_ℤ _ _ l (ceil_mono (weigh a b u v y) (weigh a b u v p) (v - u) some (weigh_falls a b u v p y up py (omega arith) more)) left)

within_between : (k l : ℤ) (a b : Node) (p y r : ℕ) → a.units < b.units → a.units ≤ p → p ≤ y → y ≤ r → r ≤ b.units
    → Within k l (between_at a b p) → Within k l (between_at a b r) → Within k l (between_at a b y)
within_between k l a b p y r lt up py yr rv left right = record {
  low = low_between k a.value.lo b.value.lo a.units b.units p y r lt up py yr rv left.low right.low;
  high = high_between l a.value.hi b.value.hi a.units b.units p y r lt up py yr rv left.high right.high;
}

-- past the last node: the value does not fall
within_past : (k l : ℤ) (e : Ends) (u p y r : ℕ) → IsAdded e → p ≤ y → y ≤ r → Within k l (fraction_of p u e) → Within k l (fraction_of r u e) → Within k l (fraction_of y u e)
unfolding fraction_of
within_past k l e u p y r some py yr left right = record {
  low = trans_ℤ k _ _ left.low (unit_low (floor_finer 1 u (e.lo *ℤ pos p) (e.lo *ℤ pos y) (once _ _ (more_units e.lo e.lo p y some.not_negative (omega (arith, ints)) py))));
  high = trans_ℤ _ _ l (unit_high (ceil_finer 1 u (e.hi *ℤ pos r) (e.hi *ℤ pos y) (at_once _ _ (more_units e.hi e.hi y r (trans_ℤ _ _ _ some.not_negative some.ordered) (omega (arith, ints)) yr)))) right.high;
}
  where
    unit_low : {x y : ℤ} → (pos 1 *ℤ x) ≤ℤ y → x ≤ℤ y
    unit_low h = omega (arith, ints)

    unit_high : {x y : ℤ} → x ≤ℤ (pos 1 *ℤ y) → x ≤ℤ y
    unit_high h = omega (arith, ints)

-- the values of the nodes strictly between x0 and x1 lie between k and l
abbrev pub NodesWithin : ℤ → ℤ → ℕ → ℕ → List Node → Type 0
NodesWithin k l x0 x1 nodes = All (λ b. x0 < b.units → b.units < x1 → Within k l b.value) nodes

-- p is x0, or a node beyond it
pub within : (k l : ℤ) (x0 x1 y p : ℕ) (a : Node) (nodes : List Node) → Chain IsAdded a nodes → a.units ≤ p → x0 ≤ p → p ≤ y → y ≤ x1
    → Within k l (value_from a nodes p) → Within k l (value_from a nodes x1) → NodesWithin k l x0 x1 nodes → Within k l (value_from a nodes y)
unfolding value_from
within k l x0 x1 y p a [] chain up low py yx at_p at_x1 inner = within_past k l a.value a.units p y x1 chain py yx at_p at_x1
within k l x0 x1 y p a (b ∷ nodes) chain up low py yx at_p at_x1 inner =
    let Q : Node → Type 0 = λ b. x0 < b.units → b.units < x1 → Within k l b.value in
    let W : Ends → Type 0 = Within k l in
    let lt : a.units < b.units = chain.1.0 in
    let some : 0 < b.units = omega (arith, lt) in
    let rest : NodesWithin k l x0 x1 nodes = All-tail Q b nodes inner in
    let head : x0 < b.units → b.units < x1 → Within k l b.value = All-head Q b nodes inner in
    let node_is : value_from b nodes b.units ≡ b.value = at_node IsAdded b nodes chain.1.1 some in
    ⊎_elim
    (λ (p_before : p < b.units).
    -- the value of b, where b is not beyond x1
    let node : b.units ≤ x1 → Within k l b.value =
    λ (le : b.units ≤ x1). ⊎_elim
    (λ (less : b.units < x1). head (omega (arith, low, p_before)) less)
    (λ (ge : x1 ≤ b.units). let same : x1 ≡ b.units = omega (arith, le, ge) in subst W (ap (value_from a (b ∷ nodes)) same ∙ from_next a b nodes b.units (omega arith) ∙ node_is) at_x1)
    (cases_lt b.units x1) in
    ⊎_elim
    (λ (y_before : y < b.units).
    let left : W (between_at a b p) = subst W (before_next a b nodes p p_before) at_p in
    let inside : W (between_at a b y) =
    ⊎_elim
    (λ (x1_before : x1 < b.units). within_between k l a b p y x1 lt up py yx (omega (arith, x1_before)) left (subst W (before_next a b nodes x1 x1_before) at_x1))
    (λ (le : b.units ≤ x1). within_between k l a b p y b.units lt up py (omega (arith, y_before)) (omega arith) left (subst W (sym (at_last a b lt)) (node le)))
    (cases_lt x1 b.units) in
    subst W (sym (before_next a b nodes y y_before)) inside)
    (λ (ge : b.units ≤ y).
    let le : b.units ≤ x1 = omega (arith, ge, yx) in
    let later : W (value_from b nodes y) =
    within k l x0 x1 y b.units b nodes chain.1.1 (omega arith) (omega (arith, low, p_before)) ge yx (subst W (sym node_is) (node le)) (subst W (from_next a b nodes x1 le) at_x1) rest in
    subst W (sym (from_next a b nodes y ge)) later)
    (cases_lt y b.units))
    (λ (ge : b.units ≤ p).
    let later : W (value_from b nodes y) =
    within k l x0 x1 y p b nodes chain.1.1 ge low py yx (subst W (from_next a b nodes p ge) at_p) (subst W (from_next a b nodes x1 (omega (arith, ge, py, yx))) at_x1) rest in
    subst W (sym (from_next a b nodes y (omega (arith, ge, py)))) later)
    (cases_lt p b.units)
