use Rattle.std.proofs.Common.{◌≡◌, map, take}
use Rattle.mix_model.proofs.dose.no_steps.Given as goal

abbrev pub invariant-loop-dye : goal.invariant-loop-dye
invariant-loop-dye l = l.steps.items ≡ map (λ d. 0) (take l._dye-index l.dyes)
