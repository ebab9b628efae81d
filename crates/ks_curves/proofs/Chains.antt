-- Nodes in rising order, and the value of a broken line before and after a node.
use Rattle.std.proofs.Common.{◌≡◌, ◌-◌, ◌<◌, ◌≤◌, ℕ, List, [], ◌∷◌, ⊎_elim, refl, sym, ap, ◌∙◌, arith, if◌then◌else◌}
use Rattle.std.proofs.lemmas.Bool.{cases_lt}
use Rattle.interval_specs.specs.Ends.{Ends}
use Rattle.interval_specs.specs.Operations.{fraction_of}
use Rattle.interval_specs.proofs.Held.{same_ends}
use Rattle.ks_curves.specs.BrokenLine.{Node, between_at, value_from}
use Rattle.ks_curves.proofs.Cases.{most_test, not_most_test}
use Rattle.ks_curves.proofs.Means.{floor_exact, ceil_exact, weigh_first, weigh_last}

-- a node and nodes after it, in rising order, with a property of their values
abbrev pub Chain : (Ends → Type 0) → Node → List Node → Type 0
Chain P a [] = P a.value
Chain P a (b ∷ nodes) = P a.value × ((a.units < b.units) × Chain P b nodes)

pub chain_head : (P : Ends → Type 0) (a : Node) (nodes : List Node) → Chain P a nodes → P a.value
chain_head P a [] h = h
chain_head P a (b ∷ nodes) h = h.0

-- the line at x units, from the next node on, and before it
pub from_next : (a b : Node) (nodes : List Node) (x : ℕ) → b.units ≤ x → value_from a (b ∷ nodes) x ≡ value_from b nodes x
unfolding value_from
from_next a b nodes x h = ap (λ t. if t then value_from b nodes x else (between_at a b x)) (most_test b.units x h)

pub before_next : (a b : Node) (nodes : List Node) (x : ℕ) → x < b.units → value_from a (b ∷ nodes) x ≡ between_at a b x
unfolding value_from
before_next a b nodes x h = ap (λ t. if t then value_from b nodes x else (between_at a b x)) (not_most_test b.units x h)

-- between two nodes the value at a node is that of the node
pub at_first : (a b : Node) → a.units < b.units → between_at a b a.units ≡ a.value
at_first a b lt =
    let some : 0 < b.units - a.units = omega arith in
    same_ends _ _ a.value
    (floor_exact a.value.lo _ (b.units - a.units) some (weigh_first a.value.lo b.value.lo a.units b.units))
    (ceil_exact a.value.hi _ (b.units - a.units) some (weigh_first a.value.hi b.value.hi a.units b.units))

pub at_last : (a b : Node) → a.units < b.units → between_at a b b.units ≡ b.value
at_last a b lt =
    let some : 0 < b.units - a.units = omega arith in
    same_ends _ _ b.value
    (floor_exact b.value.lo _ (b.units - a.units) some (weigh_last a.value.lo b.value.lo a.units b.units))
    (ceil_exact b.value.hi _ (b.units - a.units) some (weigh_last a.value.hi b.value.hi a.units b.units))

pub whole_fraction : (u : ℕ) (e : Ends) → 0 < u → fraction_of u u e ≡ e
unfolding fraction_of
whole_fraction u e some = same_ends _ _ e (floor_exact e.lo _ u some refl) (ceil_exact e.hi _ u some refl)

-- the value of a line at its first node, where that is not the origin
pub at_node : (P : Ends → Type 0) (a : Node) (nodes : List Node) → Chain P a nodes → 0 < a.units → value_from a nodes a.units ≡ a.value
unfolding value_from
at_node P a [] h some = whole_fraction a.units a.value some
at_node P a (b ∷ nodes) h some = rw (before_next a b nodes a.units h.1.0) (at_first a b h.1.0)

-- the value on a piece
pub piece_is : (P : Ends → Type 0) (a b : Node) (nodes : List Node) (x : ℕ) → Chain P a (b ∷ nodes) → x ≤ b.units → value_from a (b ∷ nodes) x ≡ between_at a b x
piece_is P a b nodes x chain le =
    ⊎_elim
    (λ (less : x < b.units). before_next a b nodes x less)
    (λ (ge : b.units ≤ x).
    let same : x ≡ b.units = omega (arith, le, ge) in
    let some : 0 < b.units = omega (arith, chain.1.0) in
    ap (value_from a (b ∷ nodes)) same ∙ from_next a b nodes b.units (omega arith) ∙ at_node P b nodes chain.1.1 some ∙ sym (at_last a b chain.1.0) ∙ ap (between_at a b) (sym same))
    (cases_lt x b.units)
