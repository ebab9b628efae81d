use Rattle.std.proofs.Common.{◌≡◌, ◌<◌, drop, length}
use Rattle.box_specs.specs.Splits.{widest}
use Rattle.box_core.proofs.cutting.widest.Given as goal

abbrev pub invariant-loop-i : goal.invariant-loop-i
invariant-loop-i l = record {
  so_far : widest l.best.dye l.best.width l.i (drop l.i l.low) (drop l.i l.high) ≡ widest 0 0 0 l.low l.high;
  inside : l.best.dye < length l.low;
}
