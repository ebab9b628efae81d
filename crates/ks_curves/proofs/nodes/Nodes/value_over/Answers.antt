use Rattle.std.proofs.Common.{◌≡◌, ◌∙◌, List, None, pos, map, ap, subst, arith}
use Rattle.std.specs.Prelude.{IfSome}
use Rattle.std.proofs.lemmas.Int.{ints}
use Rattle.interval_specs.proofs.Held.{same_ends}
use Rattle.ks_curves.specs.BrokenLine.{Node, origin, broken_over, value_from}
use Rattle.ks_curves.specs.StoredNode.{Climb, node_of}
use Rattle.ks_curves.specs.Walk.{over_from}
use Rattle.ks_curves.proofs.Climbs.{climb_over, single_over}
use Rattle.ks_curves.proofs.NodeFacts.{chain_from}
use Rattle.ks_curves.proofs.Walks.{walk_is}
use Rattle.ks_curves.proofs.nodes.Nodes.value_over.Goals as goal
use Rattle.ks_curves.proofs.nodes.Nodes.value_over.Goals.{then-self-via-then-self, then-self-via-else-self+then-x0-x1}

pub returns-in-Some-Some : goal.returns-in-Some-Some
returns-in-Some-Some c =
    let nodes = c.args.self.now in
    let chain = chain_from origin nodes (record { not_negative = omega (arith, ints); ordered = omega (arith, ints) }) c.requires.nodes.rise c.requires.nodes.added in
    let same = ap (map node_of) c.as_slice-nodes.ensures.value ∙ c.self.view_is in
    let low = subst (λ r. IfSome r (λ low. pos low ≡ (value_from origin (map node_of c.as_slice-nodes.result.now) c.args.x0).lo)) c.in-Some-Some.is-0 c.low_at-low.ensures in
    let high = subst (λ r. IfSome r (λ high. pos high ≡ (value_from origin (map node_of c.as_slice-nodes.result.now) c.args.x1).hi)) c.in-Some-Some.is-1 c.high_at-high.ensures in
    let bounds : ((value_from origin nodes c.args.x0).lo ≡ (broken_over nodes c.args.x0 c.args.x1).lo) × ((value_from origin nodes c.args.x1).hi ≡ (broken_over nodes c.args.x0 c.args.x1).hi) =
    elim c.then-self.branch [
      | then-self-via-then-self w ↦ climb_over nodes c.args.x0 c.args.x1 chain (subst (Climb origin) c.self.view_is (c.self.invariant w.if-self.true)) c.requires.ordered
      | then-self-via-else-self+then-x0-x1 w ↦ single_over nodes c.args.x0 c.args.x1 w.if-x0-x1.true
    ] in
    same_ends _ _ (broken_over nodes c.args.x0 c.args.x1)
    (low ∙ ap (λ (xs : List Node). (value_from origin xs c.args.x0).lo) same ∙ bounds.0)
    (high ∙ ap (λ (xs : List Node). (value_from origin xs c.args.x1).hi) same ∙ bounds.1)

pub returns : goal.returns
returns c =
    let chain = chain_from origin c.args.self.now (record { not_negative = omega (arith, ints); ordered = omega (arith, ints) }) c.requires.nodes.rise c.requires.nodes.added in
    let same = ap (map node_of) c.as_slice-nodes.ensures.value ∙ c.self.view_is in
    c.value_over.ensures ∙ ap (λ (xs : List Node). over_from None origin xs c.args.x0 c.args.x1) same ∙ walk_is c.args.self.now c.args.x0 c.args.x1 chain c.requires.ordered
