use Rattle.std.proofs.Common.{◌≡◌, take}
use Rattle.mix_model.specs.Mixture.{dosed, mixture_ks_at}
use Rattle.mix_model.proofs.sums.Sums.of_doses.Given as goal

abbrev pub invariant-loop-wave : goal.invariant-loop-wave
invariant-loop-wave g l = l.ends.items ≡ take l.wave (mixture_ks_at g.S.Scale.unit l.base (dosed l.dyes l.doses))
