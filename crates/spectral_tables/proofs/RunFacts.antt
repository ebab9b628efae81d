-- The rows of a weights file on each grid.
use Rattle.std.proofs.Common.{◌+◌, ◌*◌, ◌≤◌, ℕ, length, arith}
use Rattle.spectral_tables.specs.declared.grid.WaveGrid.{WaveGrid}
use Rattle.spectral_tables.specs.declared.grid.WaveGrid.TheVariants.{Ten, Twenty, Wide}
use Rattle.spectral_tables.specs.Grid.{step_of}
use Rattle.spectral_tables.specs.Run.{Rows, IsRun}

short : (grid : WaveGrid) (first count : ℕ) → 300 ≤ first → first + step_of grid * count ≤ 830 + step_of grid → count ≤ 54
short Ten first count from last = omega arith
short Twenty first count from last = omega arith
short Wide first count from last = omega arith

-- rows of weights are few
pub run_short : (rows : Rows) → IsRun rows → length rows.triples ≤ 54
run_short rows run = short rows.grid rows.first (length rows.triples) run.from run.last

-- one more row ends one step later
pub next_last : (grid : WaveGrid) (first count : ℕ) → first + step_of grid * count ≤ 830 → first + step_of grid * (count + 1) ≤ 830 + step_of grid
next_last Ten first count le = omega arith
next_last Twenty first count le = omega arith
next_last Wide first count le = omega arith
