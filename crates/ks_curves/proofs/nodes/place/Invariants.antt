use Rattle.std.proofs.Common.{◌≡◌, ◌+◌, drop, map}
use Rattle.ks_curves.specs.Order.{place_by}
use Rattle.ks_curves.specs.StoredNode.{node_of}
use Rattle.ks_curves.proofs.nodes.place.Given as goal

abbrev pub invariant-loop-node : goal.invariant-loop-node
invariant-loop-node l = record {
  count : l.place ≡ l.node-index;
  rest : l.place + place_by (λ a. a.units) l.units (drop l.node-index (map node_of l.nodes)) ≡ place_by (λ a. a.units) l.units (map node_of l.nodes);
}
