use Rattle.std.proofs.Common.{◌≡◌, drop, length}
use Rattle.box_specs.specs.Validity.{is_within}
use Rattle.cert_check.proofs.grid.is_between.Given as goal

abbrev pub invariant-loop-i : goal.invariant-loop-i
invariant-loop-i l = record {
  rest : is_within (drop l.i l.steps) (drop l.i l.low) (drop l.i l.high) ≡ is_within l.steps l.low l.high;
  long : length l.steps ≡ length l.low;
}
