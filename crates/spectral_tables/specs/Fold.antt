-- Weights outside a grid are added to the weight at its nearer end.
use Rattle.std.specs.Prelude.{◌≡◌, ◌+◌, ◌-◌, ◌*◌, ◌/◌, ◌%◌, ◌≤◌, ℕ, List, [], ◌∷◌, ◌++◌, take, drop}
use Rattle.spectral_tables.specs.declared.grid.WaveGrid.{WaveGrid}
use Rattle.spectral_tables.specs.Grid.{first_of, step_of, count_of, end_of}
use Rattle.spectral_tables.specs.WeightTable.{Triple, total_of}

-- `count` rows from the wavelength `first` on, in the steps of the grid, lie within 300 to 830 nm
-- and cover the grid
pub record Covers (grid : WaveGrid) (first count : ℕ) : Type 0 where
  pub whole : first % step_of grid ≡ 0
  pub from : 300 ≤ first
  pub start : first ≤ first_of grid
  pub end : end_of grid ≤ first + step_of grid * count
  pub last : first + step_of grid * count ≤ 830 + step_of grid

-- how many rows come before that of the grid's first wavelength
abbrev pub rows_below : WaveGrid → ℕ → ℕ
rows_below grid first = (first_of grid - first) / step_of grid

-- The rows up to the grid's first wavelength are added up, those between its ends stay, and those
-- from its last wavelength on are added up.
unfoldable pub fold_of : WaveGrid → ℕ → List Triple → List Triple
fold_of grid first triples =
    total_of (take (rows_below grid first + 1) triples)
    ∷ (take (count_of grid - 2) (drop (rows_below grid first + 1) triples) ++ total_of (drop (rows_below grid first + 1 + (count_of grid - 2)) triples) ∷ [])
