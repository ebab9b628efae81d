use Rattle.std.proofs.Common.{◌≡◌, ◌^◌, pos, map, take, All}
use Rattle.interval_specs.specs.Operations.{ratio_at}
use Rattle.interval_specs.specs.Ranges.{UpTo}
use Rattle.spectral_tables.specs.Spectrum.{ends_of}
use Rattle.spectral_tables.proofs.curve.Curve.spectrum.Given as goal

abbrev pub invariant-loop-millionths : goal.invariant-loop-millionths
invariant-loop-millionths g l = record {
  so_far : map ends_of l.stored.items ≡ map (λ m. ratio_at g.S.Scale.unit (pos m) (10 ^ 6)) (take l.millionths-index l.millionths-items);
  range : All (UpTo g.S.Scale.unit) (map ends_of l.stored.items);
}
