use Rattle.std.proofs.Common.{◌≡◌, drop}
use Rattle.job_file.specs.Batch.{are_within}
use Rattle.job_file.proofs.batch.are_within.Given as goal

abbrev pub invariant-loop-i : goal.invariant-loop-i
invariant-loop-i l = are_within (drop l.i l.dyes) (drop l.i l.steps) ≡ are_within l.dyes l.steps
