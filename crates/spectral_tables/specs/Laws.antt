-- The laws of spectra: at a scale n they enclose those at each multiple m * n, and they lie in
-- their range.
use Rattle.std.specs.Prelude.{◌*◌, ℕ, List, [], ◌∷◌}
use Rattle.interval_specs.specs.Ends.{Ends}
use Rattle.interval_specs.specs.Encloses.{Encloses}
use Rattle.spectral_tables.specs.Curve.{IsCurve}
use Rattle.spectral_tables.specs.Spectrum.{IsSpectrum, spectrum_at}

-- a spectrum encloses a finer one at each wavelength
abbrev pub EnclosesWaves : ℕ → List Ends → List Ends → Type 0
EnclosesWaves m [] [] = Unit {0}
EnclosesWaves m [] (b ∷ bs) = ⊥
EnclosesWaves m (a ∷ as') [] = ⊥
EnclosesWaves m (a ∷ as') (b ∷ bs) = Encloses m a b × EnclosesWaves m as' bs

-- the spectrum of a measured curve at a scale n encloses that at each multiple m * n
abbrev pub SpectrumEncloses : Type 0
SpectrumEncloses = (n m : ℕ) (curve : List ℕ) → EnclosesWaves m (spectrum_at n curve) (spectrum_at (m * n) curve)

-- each reflectance in the spectrum of a measured curve lies from 0 to 1
abbrev pub SpectrumInRange : Type 0
SpectrumInRange = (n : ℕ) (curve : List ℕ) → IsCurve curve → IsSpectrum n (spectrum_at n curve)
