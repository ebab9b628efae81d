use Rattle.std.proofs.Common.{◌≡◌, ◌-◌, ◌≤◌, length, drop}
use Rattle.ks_curves.specs.Calibration.{nodes_at}
use Rattle.ks_curves.proofs.broken.nodes.Given as goal

abbrev pub invariant-loop-taken : goal.invariant-loop-taken
invariant-loop-taken g l = record {
  count : length l.nodes ≤ l.taken;
  so_far : l.nodes ≡ nodes_at g.S.Scale.unit l.substrate l.wave (drop (length l.dyeings - l.taken) l.dyeings);
}
