use Rattle.std.proofs.Common.{◌-◌, ◌*◌, ◌≤◌, ◌<◌}
use Rattle.root_bounds.proofs.cube.cbrt_halving.Given as goal

abbrev pub invariant-loop-high : goal.invariant-loop-high
invariant-loop-high l = record {
  ordered : l.low < l.high;
  high_most : l.high ≤ 6981463658332;
  low_fits : l.low * l.low * l.low ≤ l.x;
  high_exceeds : l.x < l.high * l.high * l.high;
}

abbrev pub decreases-loop-high : goal.decreases-loop-high
decreases-loop-high l = l.high - l.low
