use Rattle.std.proofs.Common.{◌≡◌, drop}
use Rattle.box_specs.specs.Splits.{first_optional}
use Rattle.box_core.proofs.cutting.first_optional.Given as goal

abbrev pub invariant-loop-i : goal.invariant-loop-i
invariant-loop-i l = first_optional l.i (drop l.i l.low) (drop l.i l.high) ≡ first_optional 0 l.low l.high
