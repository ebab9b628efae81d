-- A spectrum: the reflectance at each wavelength, as an interval at a scale n.
use Rattle.std.specs.Prelude.{ℕ, pos, ◌^◌, List, All, length, map}
use Rattle.interval_specs.specs.Ends.{Ends}
use Rattle.interval_specs.specs.Operations.{ratio_at}
use Rattle.interval_specs.specs.Ranges.{UpTo}
use Rattle.spectral_tables.specs.Grid.{IsWaveCount}

-- the invariant of a spectrum: no reflectance is below 0 or above 1
pub record IsSpectrum (n : ℕ) (intervals : List Ends) : Type 0 where
  pub count : IsWaveCount (length intervals)
  pub range : All (UpTo n) intervals

-- the spectrum of a measured curve: each reflectance is its number of millionths over 10^6
unfoldable pub spectrum_at : ℕ → List ℕ → List Ends
spectrum_at n curve = map (λ millionths. ratio_at n (pos millionths) (10 ^ 6)) curve

-- the interval that has these stored ends
abbrev pub ends_of : ℕ × ℕ → Ends
ends_of ends = record { lo = pos ends.0; hi = pos ends.1 }
