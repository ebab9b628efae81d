use Rattle.std.proofs.Common.{◌≡◌, All, [], drop, length}
use Rattle.ks_curves.specs.Dye.{IsDyeing as IsMeasured}
use Rattle.spectral_tables.specs.CurveBook.{wave_count}
use Rattle.job_keys.specs.Arrays.{each}
use Rattle.job_file.specs.Resolve.{next_measured}
use Rattle.job_file.proofs.calibrated.measured.Given as goal

abbrev pub invariant-loop-dyeing : goal.invariant-loop-dyeing
invariant-loop-dyeing l = record {
  so_far : each (next_measured l.book l.dye) l.measured.items (drop l.dyeing-index l.dyeings) ≡ each (next_measured l.book l.dye) [] l.dyeings;
  count : length l.measured.items ≡ l.dyeing-index;
  range : All (IsMeasured (wave_count l.book)) l.measured.items;
}
