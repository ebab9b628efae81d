use Rattle.std.proofs.Common.{map, sym, subst, arith}
use Rattle.std.proofs.lemmas.Int.{ints}
use Rattle.ks_curves.specs.StoredNode.{Climb, node_of}
use Rattle.ks_curves.proofs.PieceFacts.{node_zero}
use Rattle.ks_curves.proofs.Stored.{next_node, no_node}
use Rattle.ks_curves.proofs.nodes.climb.Goals as goal

pub loop-node-init : goal.loop-node-init
loop-node-init c = λ h. subst (λ a. Climb a (map node_of c.args.nodes.now)) (node_zero c.default-before.result c.default-before.ensures) h

pub loop-node-preserved : goal.loop-node-preserved
loop-node-preserved c = λ rest.
    let next = next_node c.args.nodes.now c.loop-node.node-index (record { units = 0; low = 0; high = 0 }) c.loop-node-test.true in
    let low = c.if-node-before.false in
    let high = c.if-node-before-2.false in
    c.loop-node.invariant (subst (Climb (node_of c.loop-node.before)) (sym next) ((omega (arith, ints, low), omega (arith, ints, high)), rest))

pub returns : goal.returns
returns c = λ _. c.loop-node.invariant (subst (Climb (node_of c.loop-node.before)) (sym (no_node c.args.nodes.now c.loop-node.node-index (omega (arith, c.loop-node-test.false)))) tt)
