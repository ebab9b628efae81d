use Rattle.std.proofs.Common.{◌≡◌, take}
use Rattle.metamerism.proofs.tables.are_same.Given as goal

abbrev pub invariant-loop-wave : goal.invariant-loop-wave
invariant-loop-wave l = take l.wave l.one.weights ≡ take l.wave l.other.weights
