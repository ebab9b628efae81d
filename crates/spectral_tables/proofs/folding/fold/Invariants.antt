use Rattle.std.proofs.Common.{◌≡◌, ◌+◌, take, ◌∷◌}
use Rattle.spectral_tables.specs.WeightTable.{total_of}
use Rattle.spectral_tables.proofs.folding.fold.Given as goal

abbrev pub invariant-loop-triple : goal.invariant-loop-triple
invariant-loop-triple l = l.folded.items ≡ total_of (take (l.below + 1) l.triples) ∷ take l.triple-index l.middle
