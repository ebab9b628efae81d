use Rattle.std.proofs.Common.{◌^◌, length, subst, sym}
use Rattle.ks_curves.specs.StoredNode.{AreNodes}
use Rattle.ks_curves.proofs.NodeFacts.{are_nodes, kept_nodes}
use Rattle.ks_curves.proofs.broken.BrokenLine.ends_over.Goals as goal

pub value_over-requires-clause-nodes : goal.value_over-requires-clause-nodes
value_over-requires-clause-nodes g c =
    kept_nodes (10 ^ 12) c.args.substrate.now c.args.dyeings.now c.args.self.now.base.items c.as_slice.result.now c.args.wave c.index-as_slice-wave.result
    c.requires.keeps.at_base c.as_slice.ensures.value c.requires.wave c.index-as_slice-wave.is c.requires.dyeings.some c.requires.dyeings.each

pub value_over-requires-then-UNIT-eq-UNIT-2-clause-nodes :
    goal.value_over-requires-then-UNIT-eq-UNIT-2-clause-nodes
value_over-requires-then-UNIT-eq-UNIT-2-clause-nodes g c =
    kept_nodes (10 ^ 8) c.args.substrate.now c.args.dyeings.now c.args.self.now.quick.items c.as_slice-then-UNIT-eq-UNIT-2.result.now c.args.wave c.index-as_slice-wave-then-UNIT-eq-UNIT-2.result
    c.requires.keeps.at_quick c.as_slice-then-UNIT-eq-UNIT-2.ensures.value c.requires.wave c.index-as_slice-wave-then-UNIT-eq-UNIT-2.is c.requires.dyeings.some c.requires.dyeings.each

pub value_over-requires-else-UNIT-eq-UNIT-2-clause-nodes :
    goal.value_over-requires-else-UNIT-eq-UNIT-2-clause-nodes
value_over-requires-else-UNIT-eq-UNIT-2-clause-nodes g c =
    subst AreNodes (sym c.nodes.ensures) (are_nodes g.S.Scale.unit c.args.substrate.now c.args.wave (length c.args.substrate.now) c.args.dyeings.now c.requires.dyeings.some c.requires.dyeings.each)
