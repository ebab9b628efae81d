use Rattle.std.proofs.Common.{◌≡◌, ◌*◌, map, take, All}
use Rattle.interval_specs.specs.Ranges.{UpTo}
use Rattle.spectral_tables.specs.Spectrum.{ends_of}
use Rattle.ks_curves.specs.KubelkaMunk.{ks_at}
use Rattle.mix_model.proofs.base.BaseCurve.of.Given as goal

abbrev pub invariant-loop-millionths : goal.invariant-loop-millionths
invariant-loop-millionths g l = record {
  so_far : map ends_of l.values.items ≡ map (ks_at g.S.Scale.unit) (take l.millionths-index l.millionths-items);
  range : All (UpTo (5000 * g.S.Scale.unit)) (map ends_of l.values.items);
}
