-- A sample for all lights has a reflectance for each wavelength of each light.
use Rattle.std.proofs.Common.{◌≡◌, ◌<◌, ℕ, List, [], ◌∷◌, length, Some, ap, sym, ◌∙◌}
use Rattle.std.specs.Prelude.{slice_get}
use Rattle.interval_specs.specs.Ends.{Ends}
use Rattle.fix_bounds.specs.declared.scale.Scale.{Ghosts}
use Rattle.cielab_bounds.specs.declared.difference.Difference as difference
use Rattle.cielab_bounds.specs.declared.difference.Formula as formula
use Rattle.spectral_tables.specs.WeightTable.{HasItemEachWave}
use Rattle.metamerism.specs.declared.one_light.Light.{Light}
use Rattle.metamerism.specs.Kept.{first_weights_or}
use Rattle.metamerism.specs.Places.{HaveEqualPlaces, first_places, light_places}
use Rattle.metamerism.specs.Shared.{AreCorrectedByFirst, first_weights}
use Rattle.metamerism.proofs.Lists.{holds_at}

pub fits_at : {S D K : Type 0} {g : Ghosts S} {h : difference.Ghosts D S K} {f : formula.Ghosts D} (lights : List (Light S D K g h f)) (i : ℕ) (light : Light S D K g h f) (sample : List Ends)
    → i < length lights → slice_get lights i ≡ Some light → HaveEqualPlaces lights → length sample ≡ first_places lights → HasItemEachWave light.weights sample
fits_at lights i light sample lt at equal fits = λ _. fits ∙ sym (holds_at (λ l. light_places l ≡ first_places lights) lights i light lt at equal)

-- the light at index 0 has the weights of the first light
pub first_is : {S D K : Type 0} {g : Ghosts S} {h : difference.Ghosts D S K} {f : formula.Ghosts D} (lights : List (Light S D K g h f)) (light : Light S D K g h f) → slice_get lights 0 ≡ Some light → first_weights lights ≡ light.weights
first_is [] light at = absurd (cc at)
first_is {S = S} {D = D} {K = K} {g = g} {h = h} {f = f} (first ∷ rest) light at = let same : first ≡ light = cc at in ap (λ (l : Light S D K g h f). l.weights) same

-- where all lights are corrected by the first one, the light at an index is
pub shares_first : {S D K : Type 0} {g : Ghosts S} {h : difference.Ghosts D S K} {f : formula.Ghosts D} (lights : List (Light S D K g h f)) (i : ℕ) (light : Light S D K g h f)
    → i < length lights → slice_get lights i ≡ Some light → AreCorrectedByFirst lights → first_weights_or (first_weights lights) light.correction ≡ first_weights lights
shares_first lights i light lt at all = holds_at (λ l. first_weights_or (first_weights lights) l.correction ≡ first_weights lights) lights i light lt at all
