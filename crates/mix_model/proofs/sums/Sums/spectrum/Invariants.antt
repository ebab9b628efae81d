use Rattle.std.proofs.Common.{◌≡◌, All, length, take}
use Rattle.interval_specs.specs.Ranges.{UpTo}
use Rattle.mix_model.specs.Mixture.{reflectances_of}
use Rattle.mix_model.proofs.sums.Sums.spectrum.Given as goal

abbrev pub invariant-loop-sum : goal.invariant-loop-sum
invariant-loop-sum g l = record {
  count : length l.reflectances.items ≡ l.sum-index;
  so_far : l.reflectances.items ≡ take l.sum-index (reflectances_of g.S.Scale.unit l.sum-items);
  range : All (UpTo g.S.Scale.unit) l.reflectances.items;
}
