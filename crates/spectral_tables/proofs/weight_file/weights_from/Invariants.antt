use Rattle.std.proofs.Common.{◌≡◌, map, drop}
use Rattle.csv.specs.Records.{fields_of}
use Rattle.spectral_tables.specs.Run.{no_rows}
use Rattle.spectral_tables.specs.WeightFile.{weights_from}
use Rattle.spectral_tables.proofs.weight_file.weights_from.Given as goal

abbrev pub invariant-loop-i : goal.invariant-loop-i
invariant-loop-i l = record {
  so_far : weights_from l.run (map fields_of (drop l.i l.lines)) ≡ weights_from (no_rows l.fn.grid) (map fields_of l.lines);
  grid : l.run.grid ≡ l.fn.grid;
}
