use Rattle.std.proofs.Common.{◌≡◌, [], drop, length}
use Rattle.job_keys.specs.Arrays.{naturals_after}
use Rattle.job_file.proofs.batch.steps_of.Given as goal

abbrev pub invariant-loop-number : goal.invariant-loop-number
invariant-loop-number l = record {
  so_far : naturals_after 0 4000 l.steps.items (drop l.number-index l.numbers) ≡ naturals_after 0 4000 [] l.numbers;
  count : length l.steps.items ≡ l.number-index;
}
