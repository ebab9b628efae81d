-- The laws of a broken line.
mod Enclosing
mod Hulls
mod Joined
mod Narrowing
pub use Rattle.ks_curves.proofs.BrokenLaws.Enclosing.{ks_encloses, added_encloses, node_encloses, between_encloses, value_encloses, broken_encloses}
pub use Rattle.ks_curves.proofs.BrokenLaws.Hulls.{choose, widened_all, hull_within, hull_left, hull_right, widened_first, widened_nodes, widened_within, widened_single}
pub use Rattle.ks_curves.proofs.BrokenLaws.Narrowing.{Within, NodesWithin, within}
pub use Rattle.ks_curves.proofs.BrokenLaws.Joined.{node_added, chain_of, nodes_chain, value_ordered, broken_ordered, broken_holds, broken_narrows, broken_not_negative, value_of_none}
