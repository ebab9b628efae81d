use Rattle.std.proofs.Common.{◌≡◌, take}
use Rattle.mix_model.specs.Mixture.{doses_of}
use Rattle.mix_model.proofs.dose.doses_of.Given as goal

abbrev pub invariant-loop-i : goal.invariant-loop-i
invariant-loop-i l = l.doses.items ≡ take l.i (doses_of l.dyes l.bath l.lo l.hi)
