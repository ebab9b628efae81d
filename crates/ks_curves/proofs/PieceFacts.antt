-- The piece of a broken line on which a number of units lies, by the index of the node that ends it.
use Rattle.std.proofs.Common.{◌≡◌, ◌-◌, ◌<◌, ◌≤◌, ℕ, zero, suc, pos, true, false, nat_lt, List, [], ◌∷◌, length, get_or, map, refl, sym, ap, ◌∙◌, arith}
use Rattle.std.proofs.lemmas.Bool.Decides.{nat_tests}
use Rattle.std.proofs.lemmas.Int.{ints}
use Rattle.std.proofs.lemmas.List.{get_or-map, length-map}
use Rattle.interval_specs.specs.Ends.{Ends}
use Rattle.interval_specs.specs.Operations.{fraction_of}
use Rattle.ks_curves.specs.declared.node.StoredNode.{StoredNode}
use Rattle.ks_curves.specs.BrokenLine.{Node, origin, between_at, value_from}
use Rattle.ks_curves.specs.Piece.{LiesBetween, LiesPast}
use Rattle.ks_curves.specs.StoredNode.{AreNodes, IsAdded, node_of}
use Rattle.ks_curves.proofs.Chains.{Chain, from_next, piece_is}
use Rattle.ks_curves.proofs.NodeFacts.{chain_from, none_at_origin}

-- no node lies before the first
pub beyond_first : (a d : Node) (nodes : List Node) (i : ℕ) → Chain IsAdded a nodes → i < length (a ∷ nodes) → a.units ≤ (get_or (a ∷ nodes) i d).units
beyond_first a d nodes zero chain lt = omega arith
beyond_first a d [] (suc i) chain lt = absurd (omega (arith, lt))
beyond_first a d (b ∷ nodes) (suc i) chain lt = let far = beyond_first b d nodes i chain.1.1 (omega (arith, lt)) in omega (arith, far, chain.1.0)

-- each node lies beyond the one before
pub next_rises : (a d : Node) (nodes : List Node) (i : ℕ) → Chain IsAdded a nodes → i < length nodes → (get_or (a ∷ nodes) i d).units < (get_or nodes i d).units
next_rises a d [] i chain lt = absurd (omega (arith, lt))
next_rises a d (b ∷ nodes) zero chain lt = chain.1.0
next_rises a d (b ∷ nodes) (suc i) chain lt = next_rises b d nodes i chain.1.1 (omega (arith, lt))

pub on_piece : (a d : Node) (nodes : List Node) (i x : ℕ) → Chain IsAdded a nodes → i < length nodes → (get_or (a ∷ nodes) i d).units ≤ x → x ≤ (get_or nodes i d).units
    → value_from a nodes x ≡ between_at (get_or (a ∷ nodes) i d) (get_or nodes i d) x
on_piece a d [] i x chain lt from to = absurd (omega (arith, lt))
on_piece a d (b ∷ nodes) zero x chain lt from to = piece_is IsAdded a b nodes x chain to
on_piece a d (b ∷ nodes) (suc i) x chain lt from to =
    let far = beyond_first b d nodes i chain.1.1 (omega (arith, lt)) in
    from_next a b nodes x (omega (arith, far, from)) ∙ on_piece b d nodes i x chain.1.1 (omega (arith, lt)) from to

pub past_all : (a d : Node) (nodes : List Node) (x : ℕ) → Chain IsAdded a nodes → (get_or (a ∷ nodes) (length nodes) d).units ≤ x
    → value_from a nodes x ≡ fraction_of x (get_or (a ∷ nodes) (length nodes) d).units (get_or (a ∷ nodes) (length nodes) d).value
unfolding value_from
past_all a d [] x chain from = refl
past_all a d (b ∷ nodes) x chain from =
    let far = beyond_first b d nodes (length nodes) chain.1.1 (omega arith) in
    from_next a b nodes x (omega (arith, far, from)) ∙ past_all b d nodes x chain.1.1 from

last_some : (d : Node) (nodes : List Node) → 0 < length nodes → Chain IsAdded origin nodes → 0 < (get_or (origin ∷ nodes) (length nodes) d).units
last_some d [] some chain = absurd (omega (arith, some))
last_some d (b ∷ nodes) some chain = let far = beyond_first b d nodes (length nodes) chain.1.1 (omega arith) in omega (arith, far, chain.1.0)

-- ---- stored nodes

-- the node before the first is the origin
pub node_zero : (a : StoredNode) → (a.units ≡ 0) × ((a.low ≡ 0) × (a.high ≡ 0)) → node_of a ≡ origin
node_zero a h = λ i. record { units = h.0 i; value = record { lo = pos (h.1.0 i); hi = pos (h.1.1 i) } }

-- `before` is the node before the one of index `end`
pub record IsStart (nodes : List StoredNode) (end : ℕ) (before : StoredNode) : Type 0 where
  pub within : end ≤ length nodes
  pub is : get_or (origin ∷ map node_of nodes) end origin ≡ node_of before

pub start_first : (nodes : List StoredNode) (end : ℕ) (before a : StoredNode) → end ≡ 0 → before ≡ a → (a.units ≡ 0) × ((a.low ≡ 0) × (a.high ≡ 0)) → IsStart nodes end before
start_first nodes end before a none is zeros = record {
  within = omega (arith, none);
  is = ap (λ k. get_or (origin ∷ map node_of nodes) k origin) none ∙ sym (node_zero a zeros) ∙ ap node_of (sym is);
}

pub start_later : (nodes : List StoredNode) (end : ℕ) (before a d : StoredNode) → 0 < end → before ≡ a → true ≡ nat_lt (end - 1) (length nodes) → a ≡ get_or nodes (end - 1) d → IsStart nodes end before
start_later nodes zero before a d some is lt at = absurd (omega (arith, some))
start_later nodes (suc k) before a d some is lt at =
    let there : k < length nodes = grind (arith, nat_tests, lt) in
    let same : suc k - 1 ≡ k = omega arith in
    record {
      within = omega (arith, there);
      is = get_or-map node_of nodes k d origin there ∙ ap node_of (ap (λ j. get_or nodes j d) (sym same) ∙ sym (is ∙ at));
    }

module _ (nodes : List StoredNode) (end x : ℕ) (before : StoredNode) (are : AreNodes (map node_of nodes)) (start : IsStart nodes end before) (from : before.units ≤ x) where
  abbrev pub ns : List Node
  ns = map node_of nodes

  chain : Chain IsAdded origin ns
  chain = chain_from origin ns (record { not_negative = omega (arith, ints); ordered = omega (arith, ints) }) are.rise are.added

  units_are : (get_or (origin ∷ ns) end origin).units ≡ before.units
  units_are = ap (λ (a : Node). a.units) start.is

  pub lies_between : (node d : StoredNode) → true ≡ nat_lt end (length nodes) → node ≡ get_or nodes end d → x ≤ node.units → LiesBetween ns x (node_of before) (node_of node)
  lies_between node d lt at to =
      let there : end < length nodes = grind (arith, nat_tests, lt) in
      let inside : end < length ns = rw length-map there in
      let next : get_or ns end origin ≡ node_of node = get_or-map node_of nodes end d origin there ∙ ap node_of (sym at) in
      let next_units : (get_or ns end origin).units ≡ node.units = ap (λ (a : Node). a.units) next in
      let up = next_rises origin origin ns end chain inside in
      record {
        rising = omega (arith, up, units_are, next_units);
        from = from;
        to = to;
        is = on_piece origin origin ns end x chain inside (omega (arith, from, units_are)) (omega (arith, to, next_units)) ∙ (λ i. between_at (start.is i) (next i) x);
      }

  pub lies_past : false ≡ nat_lt end (length nodes) → LiesPast ns x (node_of before)
  lies_past none =
      let all : end ≡ length nodes = grind (arith, nat_tests, none, start.within) in
      let count : length ns ≡ end = length-map nodes node_of ∙ sym all in
      let last : get_or (origin ∷ ns) (length ns) origin ≡ node_of before = ap (λ k. get_or (origin ∷ ns) k origin) count ∙ start.is in
      let last_units : (get_or (origin ∷ ns) (length ns) origin).units ≡ before.units = ap (λ (a : Node). a.units) last in
      record {
        some = omega (arith, last_some origin ns are.some chain, last_units);
        is = past_all origin origin ns x chain (omega (arith, from, last_units)) ∙ ap (λ (a : Node). fraction_of x a.units a.value) last;
      }

-- at no units the value is 0 at both ends
pub low_at_none : (nodes : List StoredNode) (x : ℕ) → AreNodes (map node_of nodes) → x ≡ 0 → pos 0 ≡ (value_from origin (map node_of nodes) x).lo
low_at_none nodes x are none = sym (ap (λ k. (value_from origin (map node_of nodes) k).lo) none ∙ ap (λ (e : Ends). e.lo) (none_at_origin (map node_of nodes) are.rise))

pub high_at_none : (nodes : List StoredNode) (x : ℕ) → AreNodes (map node_of nodes) → x ≡ 0 → pos 0 ≡ (value_from origin (map node_of nodes) x).hi
high_at_none nodes x are none = sym (ap (λ k. (value_from origin (map node_of nodes) k).hi) none ∙ ap (λ (e : Ends). e.hi) (none_at_origin (map node_of nodes) are.rise))
