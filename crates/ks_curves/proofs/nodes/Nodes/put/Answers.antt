use Rattle.std.proofs.Common.{◌∙◌, List, map, refl, ap, sym}
use Rattle.std.proofs.lemmas.Bool.{false≢true}
use Rattle.std.specs.List.{insert}
use Rattle.ks_curves.specs.declared.node.StoredNode.{StoredNode}
use Rattle.ks_curves.specs.BrokenLine.{Node}
use Rattle.ks_curves.specs.Order.{put_by}
use Rattle.ks_curves.specs.StoredNode.{node_of}
use Rattle.ks_curves.proofs.NodeFacts.{put_same, put_new}
use Rattle.ks_curves.proofs.Stored.{units_of}
use Rattle.ks_curves.proofs.nodes.Nodes.put.Goals as goal

pub returns-then-not-is_at-clause-is : goal.returns-then-not-is_at-clause-is
returns-then-not-is_at-clause-is c =
    let slice = c.as_slice-nodes.result.now in
    let p = c.place-place.result in
    let same = ap (map node_of) c.as_slice-nodes.ensures.value ∙ c.self.view_is in
    ap (map node_of) (c.insert.ensures.items ∙ ap (λ (xs : List StoredNode). insert xs p c.args.node) (sym c.as_slice-nodes.ensures.value))
    ∙ put_new c.args.node (record { units = 0; low = 0; high = 0 }) slice p c.place-place.ensures.is (λ lt equal. false≢true (c.if-not-is_at.ensures.1 (lt, equal)))
    ∙ ap (λ (xs : List Node). put_by units_of (node_of c.args.node) xs) same

pub returns-else-not-is_at-clause-is : goal.returns-else-not-is_at-clause-is
returns-else-not-is_at-clause-is c =
    let slice = c.as_slice-nodes.result.now in
    let p = c.place-place.result in
    let same = ap (map node_of) c.as_slice-nodes.ensures.value ∙ c.self.view_is in
    let found = c.if-not-is_at.ensures.0 refl in
    sym same ∙ sym (put_same (node_of c.args.node) (record { units = 0; low = 0; high = 0 }) slice p c.place-place.ensures.is found.0 found.1)
    ∙ ap (λ (xs : List Node). put_by units_of (node_of c.args.node) xs) same
