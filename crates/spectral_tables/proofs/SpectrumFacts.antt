-- The reflectances of a spectrum, as they are stored.
use Rattle.std.proofs.Common.{◌≡◌, ◌≤◌, ◌<◌, ◌^◌, ℕ, pos, List, length, get_or, map, Some, ap, subst, ◌∙◌, arith}
use Rattle.std.specs.Prelude.{slice_get, option_map}
use Rattle.std.proofs.lemmas.Int.{ints}
use Rattle.std.proofs.lemmas.List.{get_or-map, length-map}
use Rattle.std.proofs.lemmas.Option.{slice_get-get_or, slice_get-map}
use Rattle.std.proofs.Math.Nat.{mul-le-mul_left}
use Rattle.interval_specs.specs.Operations.{ratio_at}
use Rattle.interval_specs.specs.Ranges.{UpTo}
use Rattle.interval_specs.proofs.Ranges.{ratio_up_to}
use Rattle.spectral_tables.specs.Spectrum.{IsSpectrum, ends_of}

-- a reflectance lies within 0 and 1
pub range-at : (n : ℕ) (stored : List (ℕ × ℕ)) (wave : ℕ) → IsSpectrum n (map ends_of stored) → wave < length (map ends_of stored) → UpTo n (ends_of (get_or stored wave (0, 0)))
range-at n stored wave kept lt =
    let within : wave < length stored = rw (← length-map stored ends_of) lt in
    subst (UpTo n) (get_or-map ends_of stored wave (0, 0) (ends_of (0, 0)) within) (kept.range wave (ends_of (0, 0)) lt)

-- the reflectance that is read is that of the spectrum
pub slice_get-stored : (stored : List (ℕ × ℕ)) (wave : ℕ) → wave < length (map ends_of stored) → slice_get (map ends_of stored) wave ≡ Some (ends_of (get_or stored wave (0, 0)))
slice_get-stored stored wave lt =
    let within : wave < length stored = rw (← length-map stored ends_of) lt in
    slice_get-map ends_of stored wave ∙ ap (option_map ends_of) (slice_get-get_or stored wave (0, 0) within)

-- a reflectance of at most a million millionths lies within 0 and 1
pub ratio-part : (n millionths : ℕ) → millionths ≤ 10 ^ 6 → UpTo n (ratio_at n (pos millionths) (10 ^ 6))
ratio-part n millionths le = ratio_up_to n n (pos millionths) (10 ^ 6) (omega arith) (omega (arith, ints)) (omega (arith, mul-le-mul_left n le))
