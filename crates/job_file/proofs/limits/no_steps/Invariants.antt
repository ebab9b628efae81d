use Rattle.std.proofs.Common.{◌≡◌, map, take}
use Rattle.job_file.proofs.limits.no_steps.Given as goal

abbrev pub invariant-loop : goal.invariant-loop
invariant-loop l = l.steps.items ≡ map (λ d. 0) (take l.index l.dyes)
