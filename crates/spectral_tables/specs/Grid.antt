-- The three grids of wavelengths, in nanometres.
use Rattle.std.specs.Prelude.{◌≡◌, ◌+◌, ◌*◌, ◌≤◌, ◌⊎◌, ℕ}
use Rattle.spectral_tables.specs.declared.grid.TheConstants.{MOST_WAVES}
use Rattle.spectral_tables.specs.declared.grid.WaveGrid.{WaveGrid}
use Rattle.spectral_tables.specs.declared.grid.WaveGrid.TheVariants.{Ten, Twenty, Wide}
use Rattle.spectral_tables.specs.declared.waves.Waves.{Waves}

-- the first wavelength, the step and the number of wavelengths
abbrev pub waves_of : WaveGrid → Waves
waves_of Ten = record { first = 400; step = 10; count = 31 }
waves_of Twenty = record { first = 400; step = 20; count = 16 }
waves_of Wide = record { first = 360; step = 10; count = 40 }

abbrev pub first_of : WaveGrid → ℕ
first_of grid = (waves_of grid).first

abbrev pub step_of : WaveGrid → ℕ
step_of grid = (waves_of grid).step

abbrev pub count_of : WaveGrid → ℕ
count_of grid = (waves_of grid).count

-- the wavelength of an index
abbrev pub wavelength_at : WaveGrid → ℕ → ℕ
wavelength_at grid wave = first_of grid + step_of grid * wave

-- the wavelength that would follow the last one
abbrev pub end_of : WaveGrid → ℕ
end_of grid = wavelength_at grid (count_of grid)

-- wavelengths that lie within 300 to 830 nm, from 2 to 40 of them
pub record IsWaves (waves : Waves) : Type 0 where
  pub from : 300 ≤ waves.first
  pub last : waves.first + waves.step * waves.count ≤ 830 + waves.step
  pub step : 1 ≤ waves.step
  pub two : 2 ≤ waves.count
  pub few : waves.count ≤ MOST_WAVES

-- as many as the wavelengths of some grid
abbrev pub IsWaveCount : ℕ → Type 0
IsWaveCount n = (n ≡ count_of Ten) ⊎ (n ≡ count_of Twenty) ⊎ (n ≡ count_of Wide)
