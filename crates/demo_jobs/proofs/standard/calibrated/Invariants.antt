use Rattle.std.proofs.Common.{◌≡◌, All, length, map, take}
use Rattle.ks_curves.specs.Dye.{IsDyeing}
use Rattle.demo_jobs.specs.Standard.{measured}
use Rattle.demo_jobs.proofs.standard.calibrated.Given as goal

abbrev pub invariant-loop-units : goal.invariant-loop-units
invariant-loop-units l = record {
  so_far : l.dyeings.items ≡ map (λ d. measured l.dye d.1) (take l.units-index l.units-items);
  range : All (IsDyeing 31) l.dyeings.items;
  count : length l.dyeings.items ≡ l.units-index;
}
