use Rattle.std.proofs.Common.{◌≡◌, map, take}
use Rattle.job_file.specs.Resolve.{numbers_of}
use Rattle.job_file.proofs.limits.pairs_of.Given as goal

abbrev pub invariant-loop-pair : goal.invariant-loop-pair
invariant-loop-pair l = l.numbers.items ≡ map (numbers_of l.dyes) (take l.pair-index l.pairs)
