-- The range of the values of a broken line.
use Rattle.std.proofs.Common.{◌≡◌, ◌+◌, ◌-◌, ◌*◌, ◌^◌, ◌<◌, ◌≤◌, ◌≤ℤ◌, ◌+ℤ◌, ◌*ℤ◌, ℕ, ℤ, pos, List, [], ◌∷◌, All, length, get_or, ⊎_elim, refl, sym, ap, subst, arith, mul-le-mul_left}
use Rattle.std.specs.Prelude.{slice_index}
use Rattle.std.proofs.lemmas.Int.{ints}
use Rattle.std.proofs.lemmas.Bool.{cases_lt}
use Rattle.std.proofs.lemmas.List.Elements.{All-cons, All-nil}
use Rattle.interval_specs.specs.Ends.{Ends, nothing}
use Rattle.interval_specs.specs.Ranges.{UpTo}
use Rattle.interval_specs.proofs.Order.{le_pos}
use Rattle.interval_specs.proofs.Ranges.{cut_low_up_to, floor_not_negative, fraction_up_to, hull_up_to, up_to_wider}
use Rattle.interval_specs.proofs.Rounds.{ceil_least, floor_le_ceil}
use Rattle.spectral_tables.specs.Curve.{IsCurve, IsReflectance}
use Rattle.ks_curves.specs.Dye.{Dyeing, IsDyeing}
use Rattle.ks_curves.specs.BrokenLine.{Node, origin, between_at, value_from, broken_over}
use Rattle.ks_curves.specs.Calibration.{added_at, node_at, nodes_at, in_order}
use Rattle.ks_curves.proofs.BrokenLaws.{chain_of, widened_all}
use Rattle.ks_curves.proofs.Chains.{Chain, chain_head, from_next, before_next}
use Rattle.ks_curves.proofs.Means.{weigh_mono}
use Rattle.ks_curves.proofs.NodeFacts.{are_nodes}
use Rattle.ks_curves.proofs.Orders.{order_all, order_rises}
use Rattle.ks_curves.proofs.Ranges.{addition_magnitude, ks_up_to}

-- a mean of numbers from 0 to k
weigh_low : (a b : ℤ) (p q : ℕ) → pos 0 ≤ℤ a → pos 0 ≤ℤ b → pos 0 ≤ℤ (a *ℤ pos p +ℤ b *ℤ pos q)
weigh_low a b p q h i = let m = weigh_mono (pos 0) (pos 0) a b p q h i in omega (arith, ints, m)

weigh_high : (a b : ℤ) (k d p q : ℕ) → d ≡ p + q → a ≤ℤ pos k → b ≤ℤ pos k → (a *ℤ pos p +ℤ b *ℤ pos q) ≤ℤ (pos k *ℤ pos d)
weigh_high a b k d p q is h i = rw is (let m = weigh_mono a b (pos k) (pos k) p q h i in omega (arith, ints, m))

between_up_to : (k : ℕ) (a b : Node) (x : ℕ) → a.units ≤ x → x ≤ b.units → a.units < b.units → UpTo k a.value → UpTo k b.value → UpTo k (between_at a b x)
between_up_to k a b x from to lt u v =
    let p : ℕ = b.units - x in
    let q : ℕ = x - a.units in
    let d : ℕ = b.units - a.units in
    let some : 0 < d = omega (arith, lt) in
    record {
      not_negative = floor_not_negative (a.value.lo *ℤ pos p +ℤ b.value.lo *ℤ pos q) d some (weigh_low a.value.lo b.value.lo p q u.not_negative v.not_negative);
      ordered = floor_le_ceil (a.value.lo *ℤ pos p +ℤ b.value.lo *ℤ pos q) (a.value.hi *ℤ pos p +ℤ b.value.hi *ℤ pos q) d (weigh_mono a.value.lo b.value.lo a.value.hi b.value.hi p q u.ordered v.ordered);
      below = ceil_least (a.value.hi *ℤ pos p +ℤ b.value.hi *ℤ pos q) (pos k) d some (weigh_high a.value.hi b.value.hi k d p q (omega (arith, from, to)) u.below v.below);
    }

-- the value at up to 40,000 units on a line whose last node is not the origin
value_up_to : (k : ℕ) (a : Node) (nodes : List Node) (x : ℕ) → Chain (UpTo k) a nodes → (nodes ≡ [] → 0 < a.units) → a.units ≤ x → x ≤ 40000 → UpTo (40000 * k) (value_from a nodes x)
unfolding value_from
value_up_to k a [] x chain some from few =
    let least : 0 < a.units = some refl in
    let m = mul-le-mul_left k few in
    let n = mul-le-mul_left (40000 * k) least in
    fraction_up_to k (40000 * k) x a.units a.value least (omega (arith, m, n)) chain
value_up_to k a (b ∷ nodes) x chain some from few =
    let U : Ends → Type 0 = UpTo (40000 * k) in
    ⊎_elim
    (λ (before : x < b.units).
    subst U (sym (before_next a b nodes x before)) (up_to_wider k (40000 * k) (between_at a b x) (omega arith) (between_up_to k a b x from (omega (arith, before)) chain.1.0 chain.0 (chain_head (UpTo k) b nodes chain.1.1))))
    (λ (after : b.units ≤ x).
    subst U (sym (from_next a b nodes x after)) (value_up_to k b nodes x chain.1.1 (λ e. omega (arith, chain.1.0)) after few))
    (cases_lt x b.units)

chain_values : (P : Ends → Type 0) (a : Node) (nodes : List Node) → Chain P a nodes → All (λ b. P b.value) nodes
chain_values P a [] h = All-nil (λ b. P b.value)
chain_values P a (b ∷ nodes) h = All-cons (λ b. P b.value) b nodes (chain_head P b nodes h.1.1) (chain_values P b nodes h.1.1)

-- ---- the nodes of a dye

module _ (n : ℕ) (substrate : List ℕ) (wave : ℕ) (lt : wave < length substrate) (undyed : IsCurve substrate) where
  node_up_to : (d : Dyeing) → length d.1 ≡ length substrate → IsCurve d.1 → UpTo (10 ^ 4 * n) (node_at n substrate wave d).value
  unfolding node_at
  node_up_to d count dyed =
      let here : IsReflectance (slice_index d.1 wave) = dyed.range wave 0 (omega (arith, lt, count)) in
      let there : IsReflectance (slice_index substrate wave) = undyed.range wave 0 lt in
      cut_low_up_to n (10 ^ 4 * n) 0 (added_at n substrate wave d) (omega arith) (addition_magnitude n _ _ (ks_up_to n (slice_index d.1 wave) here) (ks_up_to n (slice_index substrate wave) there))

  pub broken_up_to : (ds : List Dyeing) (x0 x1 : ℕ) → 1 ≤ length ds → All (IsDyeing (length substrate)) ds → All (λ d. IsCurve d.1) ds → x0 ≤ x1 → x1 ≤ 40000 → UpTo (4 * 10 ^ 8 * n) (broken_over (nodes_at n substrate wave ds) x0 x1)
  unfolding broken_over
  broken_up_to ds x0 x1 some each curves le few =
      let k : ℕ = 10 ^ 4 * n in
      let all : All (λ d. UpTo k (node_at n substrate wave d).value) ds = λ i d lt. node_up_to (get_or ds i d) (each i d lt).waves (curves i d lt) in
      let nodes : List Node = nodes_at n substrate wave ds in
      let none : UpTo k nothing = record { not_negative = omega (arith, ints); ordered = omega (arith, ints); below = le_pos k } in
      let chain : Chain (UpTo k) origin nodes = chain_of (UpTo k) n substrate wave origin (in_order ds) none (order_all (λ d. UpTo k (node_at n substrate wave d).value) ds all) (order_rises ds) in
      let filled : 0 < length nodes = (are_nodes n substrate wave (length substrate) ds some each).some in
      let last : nodes ≡ [] → 0 < 0 = λ e. absurd (omega (arith, ap (λ (xs : List Node). length xs) e, filled)) in
      let first : UpTo (40000 * k) (value_from origin nodes x0) = value_up_to k origin nodes x0 chain last (omega arith) (omega (arith, le, few)) in
      let second : UpTo (40000 * k) (value_from origin nodes x1) = value_up_to k origin nodes x1 chain last (omega arith) few in
      let values : All (λ b. UpTo (40000 * k) b.value) nodes = λ i d lt. up_to_wider k (40000 * k) (get_or nodes i d).value (omega arith) (chain_values (UpTo k) origin nodes chain i d lt) in
      up_to_wider (40000 * k) (4 * 10 ^ 8 * n) _ (omega arith) (widened_all (UpTo (40000 * k)) (hull_up_to (40000 * k)) x0 x1 _ nodes (hull_up_to (40000 * k) _ _ first second) values)
