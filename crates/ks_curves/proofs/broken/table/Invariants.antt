use Rattle.std.proofs.Common.{◌≡◌, ◌<◌, ℕ, [], length, get_or}
use Rattle.ks_curves.specs.Calibration.{nodes_at}
use Rattle.ks_curves.proofs.broken.table.Given as goal

abbrev pub invariant-loop-wave : goal.invariant-loop-wave
invariant-loop-wave g l = record {
  count : length l.kept.items ≡ l.wave;
  is : (k : ℕ) → k < l.wave → get_or l.kept.items k [] ≡ nodes_at g.S.Scale.unit l.substrate k l.dyeings;
}
