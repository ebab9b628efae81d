use Rattle.std.proofs.Common.{get_or, arith}
use Rattle.ks_curves.specs.declared.node.StoredNode.{StoredNode}
use Rattle.ks_curves.specs.BrokenLine.{Node}
use Rattle.ks_curves.specs.StoredNode.{node_of}
use Rattle.ks_curves.proofs.Stored.{next_node, no_node, place_here, place_next, place_end}
use Rattle.ks_curves.proofs.nodes.place.Goals as goal

pub returns-then-units-node-clause-is : goal.returns-then-units-node-clause-is
returns-then-units-node-clause-is c =
    let next = next_node c.args.nodes.now c.loop-node.node-index _ c.loop-node-test.true in
    place_here c.args.units c.loop-node.place _ _ _ _ next c.if-units-node.true c.loop-node.invariant.rest

pub loop-node-preserved : goal.loop-node-preserved
loop-node-preserved c =
    let d : StoredNode = record { units = 0; low = 0; high = 0 } in
    let a : Node = node_of (get_or c.args.nodes.now c.loop-node.node-index d) in
    let next = next_node c.args.nodes.now c.loop-node.node-index d c.loop-node-test.true in
    record {
      count = omega (arith, c.loop-node.invariant.count);
      rest = place_next c.args.units c.loop-node.place _ a _ _ next (omega (arith, c.if-units-node.false)) c.loop-node.invariant.rest;
    }

pub returns-clause-is : goal.returns-clause-is
returns-clause-is c = place_end c.args.units c.loop-node.place _ _ (no_node c.args.nodes.now c.loop-node.node-index (omega (arith, c.loop-node-test.false))) c.loop-node.invariant.rest
