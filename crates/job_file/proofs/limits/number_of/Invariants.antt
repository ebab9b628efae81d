use Rattle.std.proofs.Common.{◌≡◌, ◌+◌, drop}
use Rattle.job_file.specs.Resolve.{number_of}
use Rattle.job_file.proofs.limits.number_of.Given as goal

abbrev pub invariant-loop-i : goal.invariant-loop-i
invariant-loop-i l = l.i + number_of (drop l.i l.dyes) l.name ≡ number_of l.dyes l.name
