use Rattle.std.proofs.Common.{drop, map}
use Rattle.ks_curves.specs.BrokenLine.{origin}
use Rattle.ks_curves.specs.StoredNode.{Climb, node_of}
use Rattle.ks_curves.proofs.nodes.climb.Given as goal

abbrev pub invariant-loop-node : goal.invariant-loop-node
invariant-loop-node l = Climb (node_of l.before) (drop l.node-index (map node_of l.nodes)) → Climb origin (map node_of l.nodes)
