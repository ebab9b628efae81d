use Rattle.std.proofs.Common.{◌≡◌, All, length, map}
use Rattle.std.specs.List.{range_with_len}
use Rattle.spectral_tables.specs.Curve.{IsReflectance}
use Rattle.demo_jobs.specs.Cloths.{substrate_at}
use Rattle.demo_jobs.proofs.cloths.substrate.Given as goal

abbrev pub invariant-loop-index : goal.invariant-loop-index
invariant-loop-index l = record {
  so_far : l.millionths.items ≡ map substrate_at (range_with_len 0 l.index);
  range : All IsReflectance l.millionths.items;
  count : length l.millionths.items ≡ l.index;
}
