use Rattle.std.proofs.Common.{◌≡◌, take}
use Rattle.metamerism.specs.Lights.{deltas_under}
use Rattle.metamerism.proofs.comparing.deltas.Given as goal

abbrev pub invariant-loop-i : goal.invariant-loop-i
invariant-loop-i g l = l.each.items ≡ take l.i (deltas_under l.lights l.sample)
