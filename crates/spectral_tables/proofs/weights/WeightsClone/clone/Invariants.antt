use Rattle.std.proofs.Common.{◌≡◌, take}
use Rattle.spectral_tables.proofs.weights.WeightsClone.clone.Given as goal

abbrev pub invariant-loop-triple : goal.invariant-loop-triple
invariant-loop-triple l = l.weights.items ≡ take l.triple-index l.self.weights
