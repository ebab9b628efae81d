use Rattle.std.proofs.Common.{◌≡◌, ◌<◌, ◌≤◌, drop, map, None}
use Rattle.std.specs.Prelude.{option_map}
use Rattle.spectral_tables.specs.Spectrum.{ends_of}
use Rattle.ks_curves.specs.BrokenLine.{origin}
use Rattle.ks_curves.specs.StoredNode.{node_of, RiseFrom}
use Rattle.ks_curves.specs.Walk.{over_from}
use Rattle.ks_curves.proofs.nodes.value_over.Given as goal

abbrev pub invariant-loop-i : goal.invariant-loop-i
invariant-loop-i l = record {
  walk : over_from (option_map ends_of l.ends) (node_of l.before) (drop l.i (map node_of l.nodes)) l.x0 l.x1 ≡ over_from None origin (map node_of l.nodes) l.x0 l.x1;
  rise : RiseFrom l.before.units (drop l.i (map node_of l.nodes));
  reach : l.before.units ≤ l.x1;
  some : 0 < l.i → 0 < l.before.units;
}
