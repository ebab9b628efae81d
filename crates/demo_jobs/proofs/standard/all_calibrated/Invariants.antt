use Rattle.std.proofs.Common.{◌≡◌, map, take}
use Rattle.demo_jobs.specs.Standard.{dye_data}
use Rattle.demo_jobs.proofs.standard.all_calibrated.Given as goal

abbrev pub invariant-loop-dye : goal.invariant-loop-dye
invariant-loop-dye l = l.all.items ≡ map dye_data (take l.dye-index l.dyes)
