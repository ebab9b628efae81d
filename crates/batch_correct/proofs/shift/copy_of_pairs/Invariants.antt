use Rattle.std.proofs.Common.{◌≡◌, take}
use Rattle.batch_correct.proofs.shift.copy_of_pairs.Given as goal

abbrev pub invariant-loop-pair : goal.invariant-loop-pair
invariant-loop-pair l = l.copy.items ≡ take l.pair-index l.pair-items
