use Rattle.std.proofs.Common.{◌≡◌, length}
use Rattle.mix_model.proofs.dose.places_of.Given as goal

abbrev pub invariant-loop-i : goal.invariant-loop-i
invariant-loop-i l = length l.places.items ≡ l.i
