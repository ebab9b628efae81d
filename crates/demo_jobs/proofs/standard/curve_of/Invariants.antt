use Rattle.std.proofs.Common.{◌≡◌, All, length, map, take}
use Rattle.spectral_tables.specs.Curve.{IsReflectance}
use Rattle.demo_jobs.specs.Standard.{standard_at}
use Rattle.demo_jobs.proofs.standard.curve_of.Given as goal

abbrev pub invariant-loop-index : goal.invariant-loop-index
invariant-loop-index l = record {
  so_far : l.millionths.items ≡ map standard_at (take l.index l.spectrum);
  range : All IsReflectance l.millionths.items;
  count : length l.millionths.items ≡ l.index;
}
