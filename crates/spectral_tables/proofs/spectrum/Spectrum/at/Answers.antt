use Rattle.std.proofs.Common.{◌≡◌, ◌<◌, List, ℕ, get_or, map, length, Some, ap, sym, subst, ◌∙◌}
use Rattle.std.specs.Prelude.{slice_get}
use Rattle.interval_specs.specs.Ends.{Ends}
use Rattle.interval_specs.specs.Ranges.{UpTo}
use Rattle.interval_specs.proofs.Ranges.{carry_up_to}
use Rattle.spectral_tables.specs.Spectrum.{IsSpectrum, ends_of}
use Rattle.spectral_tables.proofs.SpectrumFacts.{range-at, slice_get-stored}
use Rattle.spectral_tables.proofs.spectrum.Spectrum.at.Goals as goal

-- the reflectance, where the slice is that of the stored ends
range : (n : ℕ) (stored slice : List (ℕ × ℕ)) (view : List Ends) (wave : ℕ) → map ends_of stored ≡ view → slice ≡ stored → IsSpectrum n (map ends_of stored) → wave < length view
    → UpTo n (ends_of (get_or slice wave (0, 0)))
range n stored slice view wave is same kept lt = rw same (range-at n stored wave kept (subst (λ p. wave < length p) (sym is) lt))

reflectance : (stored slice : List (ℕ × ℕ)) (view : List Ends) (wave : ℕ) → map ends_of stored ≡ view → slice ≡ stored → wave < length view
    → slice_get view wave ≡ Some (ends_of (get_or slice wave (0, 0)))
reflectance stored slice view wave is same lt = rw (same, ← is) (slice_get-stored stored wave (subst (λ p. wave < length p) (sym is) lt))

pub interval_of_ends-requires : goal.interval_of_ends-requires
interval_of_ends-requires g c = range g.S.Scale.unit c.self.inside.ends.items c.as_slice.result.now c.args.self.now c.args.wave c.self.view_is c.as_slice.ensures.value c.self.invariant c.requires

pub returns-clause-is : goal.returns-clause-is
returns-clause-is g c =
    reflectance c.self.inside.ends.items c.as_slice.result.now c.args.self.now c.args.wave c.self.view_is c.as_slice.ensures.value c.requires ∙ ap Some (sym c.interval_of_ends.ensures)

pub returns-clause-range : goal.returns-clause-range
returns-clause-range g c =
    carry_up_to g.S.Scale.unit c.interval_of_ends.result (ends_of (get_or c.as_slice.result.now c.args.wave (0, 0))) c.interval_of_ends.ensures
    (range g.S.Scale.unit c.self.inside.ends.items c.as_slice.result.now c.args.self.now c.args.wave c.self.view_is c.as_slice.ensures.value c.self.invariant c.requires)
