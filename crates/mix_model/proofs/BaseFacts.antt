-- The values of a base, as they are stored.
use Rattle.std.proofs.Common.{◌≡◌, ◌*◌, ◌<◌, ℕ, List, length, get_or, map, Some, ap, sym, subst, ◌∙◌}
use Rattle.std.specs.Prelude.{slice_get, option_map}
use Rattle.std.proofs.lemmas.List.{get_or-map, length-map}
use Rattle.std.proofs.lemmas.Option.{slice_get-get_or, slice_get-map}
use Rattle.interval_specs.specs.Ends.{Ends}
use Rattle.interval_specs.specs.Ranges.{UpTo}
use Rattle.spectral_tables.specs.Spectrum.{ends_of}
use Rattle.mix_model.specs.Base.{IsBase}

-- what is stored at a wavelength is in range, once the slice is that of the stored values
pub range_at : (n : ℕ) (stored slice : List (ℕ × ℕ)) (view : List Ends) (wave : ℕ) → map ends_of stored ≡ view → slice ≡ stored → IsBase n (map ends_of stored) → wave < length view
    → UpTo (5000 * n) (ends_of (get_or slice wave (0, 0)))
range_at n stored slice view wave is same kept lt =
    let here : wave < length (map ends_of stored) = subst (λ v. wave < length v) (sym is) lt in
    let within : wave < length stored = rw (← length-map stored ends_of) here in
    rw same (subst (UpTo (5000 * n)) (get_or-map ends_of stored wave (0, 0) (ends_of (0, 0)) within) (kept.range wave (ends_of (0, 0)) here))

-- and it is that of the base
pub value_at : (stored slice : List (ℕ × ℕ)) (view : List Ends) (wave : ℕ) → map ends_of stored ≡ view → slice ≡ stored → wave < length view
    → slice_get view wave ≡ Some (ends_of (get_or slice wave (0, 0)))
value_at stored slice view wave is same lt =
    let here : wave < length (map ends_of stored) = subst (λ v. wave < length v) (sym is) lt in
    let within : wave < length stored = rw (← length-map stored ends_of) here in
    rw (same, ← is) (slice_get-map ends_of stored wave ∙ ap (option_map ends_of) (slice_get-get_or stored wave (0, 0) within))
