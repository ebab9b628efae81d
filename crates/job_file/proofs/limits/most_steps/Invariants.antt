use Rattle.std.proofs.Common.{◌≡◌, take}
use Rattle.job_file.specs.Resolve.{most_steps}
use Rattle.job_file.proofs.limits.most_steps.Given as goal

abbrev pub invariant-loop-dye : goal.invariant-loop-dye
invariant-loop-dye l = l.steps.items ≡ most_steps (take l.dye-index l.dyes)
