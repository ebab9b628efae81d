use Rattle.std.proofs.Common.{◌≡◌, [], drop, length}
use Rattle.job_keys.specs.Arrays.{each}
use Rattle.job_file.specs.Resolve.{next_calibrated}
use Rattle.job_file.proofs.calibrated.calibrated.Given as goal

abbrev pub invariant-loop-dye : goal.invariant-loop-dye
invariant-loop-dye l = record {
  so_far : each (next_calibrated l.book l.substrate) l.calibrated.items (drop l.dye-index l.dyes) ≡ each (next_calibrated l.book l.substrate) [] l.dyes;
  count : length l.calibrated.items ≡ l.dye-index;
}
