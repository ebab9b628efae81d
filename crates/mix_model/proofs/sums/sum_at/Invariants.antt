use Rattle.std.proofs.Common.{◌≡◌, drop}
use Rattle.interval_specs.specs.Operations.{sum_of}
use Rattle.mix_model.specs.Mixture.{contributions_at, dosed}
use Rattle.mix_model.proofs.Portions.{IsSoFar}
use Rattle.mix_model.proofs.sums.sum_at.Given as goal

abbrev pub invariant-loop-i : goal.invariant-loop-i
invariant-loop-i g l = record {
  so_far : sum_of l.sum (contributions_at g.S.Scale.unit l.wave (drop l.i (dosed l.dyes l.doses))) ≡ sum_of l.initial.sum (contributions_at g.S.Scale.unit l.wave (dosed l.dyes l.doses));
  range : IsSoFar g.S.Scale.unit l.i l.sum;
}
