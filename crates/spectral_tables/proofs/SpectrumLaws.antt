-- The laws of the spectrum of a measured curve.
use Rattle.std.proofs.Common.{◌<◌, ◌^◌, ℕ, pos, [], ◌∷◌, length, subst, sym}
use Rattle.std.proofs.lemmas.List.{get_or-map, length-map}
use Rattle.interval_specs.specs.Operations.{ratio_at}
use Rattle.interval_specs.specs.Ranges.{UpTo}
use Rattle.interval_specs.proofs.Laws.{ratio_encloses}
use Rattle.spectral_tables.specs.Grid.{IsWaveCount}
use Rattle.spectral_tables.specs.Laws.{SpectrumEncloses, SpectrumInRange}
use Rattle.spectral_tables.specs.Spectrum.{spectrum_at}
use Rattle.spectral_tables.proofs.SpectrumFacts.{ratio-part}

pub spectrum_encloses : SpectrumEncloses
unfolding spectrum_at
spectrum_encloses n m [] = tt
spectrum_encloses n m (r ∷ curve) = (ratio_encloses n m (pos r) (10 ^ 6), spectrum_encloses n m curve)

pub spectrum_in_range : SpectrumInRange
unfolding spectrum_at
spectrum_in_range n curve kept =
    let at = λ (r : ℕ). ratio_at n (pos r) (10 ^ 6) in
    record {
      count = subst IsWaveCount (sym (length-map curve at)) kept.count;
      range = λ k d lt.
          let within : k < length curve = rw (← length-map curve at) lt in
          subst (UpTo n) (sym (get_or-map at curve k 0 d within)) (ratio-part n _ (kept.range k 0 within).1);
    }
