-- The weights so far are read.
use Rattle.std.proofs.Common.{◌≡◌, [], All, drop, length, map}
use Rattle.spectral_tables.specs.declared.grid.WaveGrid.TheVariants.{Ten}
use Rattle.spectral_tables.specs.Grid.{count_of}
use Rattle.dye_run.specs.Jobs.{weights_after}
use Rattle.run_core.specs.Views.{bytes_view}
use Rattle.dye_run.proofs.jobs.weights_of.Given as goal

abbrev pub invariant-loop-i : goal.invariant-loop-i
invariant-loop-i l = record {
  so_far : weights_after l.weights.items (map (λ x. x.weights) (drop l.i l.lights)) (map bytes_view (drop l.i l.bytes_read)) ≡ weights_after [] (map (λ x. x.weights) l.lights) (map bytes_view l.bytes_read);
  count : length l.weights.items ≡ l.i;
  waves : All (λ w. length w.weights ≡ count_of Ten) l.weights.items;
}
