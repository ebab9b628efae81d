use Rattle.std.proofs.Common.{◌≡◌, ◌^◌, drop}
use Rattle.std.specs.List.{list_any}
use Rattle.mix_model.specs.Mixture.{dosed, mixture_ks_at}
use Rattle.mix_model.specs.Strength.{is_strong}
use Rattle.mix_model.proofs.strength.is_too_strong.Given as goal

abbrev pub invariant-loop-wave : goal.invariant-loop-wave
invariant-loop-wave l =
    list_any (is_strong (10 ^ 12)) (drop l.wave (mixture_ks_at (10 ^ 12) l.base (dosed l.dyes l.doses)))
    ≡ list_any (is_strong (10 ^ 12)) (mixture_ks_at (10 ^ 12) l.base (dosed l.dyes l.doses))
