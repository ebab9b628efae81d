use Rattle.std.proofs.Common.{◌≡◌, length}
use Rattle.spectral_tables.specs.Trim.{trim_start}
use Rattle.spectral_tables.proofs.trim.without_start.Given as goal

abbrev pub invariant-loop-rest : goal.invariant-loop-rest
invariant-loop-rest l = trim_start l.rest ≡ trim_start l.field

abbrev pub decreases-loop-rest : goal.decreases-loop-rest
decreases-loop-rest l = length l.rest
