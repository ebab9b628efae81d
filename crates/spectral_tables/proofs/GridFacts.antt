-- What holds of each of the three grids.
use Rattle.std.proofs.Common.{◌≡◌, ◌+◌, ◌-◌, ◌*◌, ◌/◌, ◌%◌, ◌≤◌, ◌<◌, ◌==◌, ℕ, zero, suc, Bool, true, false, List, [], ◌∷◌, ◌++◌, length, All, ◌⊎◌, inl, inr, if◌then◌else◌, refl, sym, ap, arith}
use Rattle.spectral_tables.specs.declared.grid.WaveGrid.{WaveGrid}
use Rattle.spectral_tables.specs.declared.grid.WaveGrid.TheVariants.{Ten, Twenty, Wide}
use Rattle.spectral_tables.specs.Grid.{IsWaveCount, waves_of, first_of, step_of, count_of, end_of, wavelength_at}
use Rattle.spectral_tables.specs.Fold.{Covers, rows_below}

pub few_waves : (n : ℕ) → IsWaveCount n → n ≤ 40
few_waves n (inl h) = omega arith
few_waves n (inr (inl h)) = omega arith
few_waves n (inr (inr h)) = omega arith

pub some_waves : (n : ℕ) → IsWaveCount n → 0 < n
some_waves n (inl h) = omega arith
some_waves n (inr (inl h)) = omega arith
some_waves n (inr (inr h)) = omega arith

pub two_waves : (grid : WaveGrid) → 2 ≤ count_of grid
two_waves Ten = omega arith
two_waves Twenty = omega arith
two_waves Wide = omega arith

pub is_count : (grid : WaveGrid) → IsWaveCount (count_of grid)
is_count Ten = inl refl
is_count Twenty = inr (inl refl)
is_count Wide = inr (inr refl)

pub is_count_of : (grid : WaveGrid) (n : ℕ) → n ≡ count_of grid → IsWaveCount n
is_count_of grid n e = rw e (is_count grid)

pub wavelength_small : (grid : WaveGrid) (wave : ℕ) → wave < count_of grid → step_of grid * wave ≤ 1000
wavelength_small Ten wave lt = omega arith
wavelength_small Twenty wave lt = omega arith
wavelength_small Wide wave lt = omega arith

-- how rows that cover the grid are split into those up to the first wavelength, those between, and
-- those from the last one on
pub record Splits (grid : WaveGrid) (first count : ℕ) : Type 0 where
  pub low : rows_below grid first + 1 ≤ count
  pub rest : count_of grid - 2 ≤ count - (rows_below grid first + 1)
  pub few : count ≤ 60

pub splits : (grid : WaveGrid) (first count : ℕ) → Covers grid first count → Splits grid first count
splits Ten first count h = record { low = omega (arith, h.whole, h.from, h.start, h.end, h.last); rest = omega (arith, h.whole, h.from, h.start, h.end, h.last); few = omega (arith, h.from, h.last) }
splits Twenty first count h = record { low = omega (arith, h.whole, h.from, h.start, h.end, h.last); rest = omega (arith, h.whole, h.from, h.start, h.end, h.last); few = omega (arith, h.from, h.last) }
splits Wide first count h = record { low = omega (arith, h.whole, h.from, h.start, h.end, h.last); rest = omega (arith, h.whole, h.from, h.start, h.end, h.last); few = omega (arith, h.from, h.last) }
