use Rattle.std.proofs.Common.{◌≡◌, ◌+◌, drop}
use Rattle.cert_check.specs.Marks.{first_unmarked}
use Rattle.cert_check.proofs.marks.first_unmarked.Given as goal

abbrev pub invariant-loop-i : goal.invariant-loop-i
invariant-loop-i l = first_unmarked (l.first_line + l.i) (drop l.i l.marks) ≡ first_unmarked l.first_line l.marks
