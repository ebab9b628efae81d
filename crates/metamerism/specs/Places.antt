-- How many wavelengths the weights of lights have.
use Rattle.std.specs.Prelude.{◌≡◌, ℕ, List, [], ◌∷◌, All, length}
use Rattle.fix_bounds.specs.declared.scale.Scale.{Ghosts}
use Rattle.cielab_bounds.specs.declared.difference.Difference as difference
use Rattle.cielab_bounds.specs.declared.difference.Formula as formula
use Rattle.metamerism.specs.declared.one_light.Light.{Light}

-- how many wavelengths the weights of a light have
abbrev pub light_places : {S D K : Type 0} {g : Ghosts S} {h : difference.Ghosts D S K} {f : formula.Ghosts D} → Light S D K g h f → ℕ
light_places light = length light.weights.weights

-- how many those of the first light have
abbrev pub first_places : {S D K : Type 0} {g : Ghosts S} {h : difference.Ghosts D S K} {f : formula.Ghosts D} → List (Light S D K g h f) → ℕ
first_places [] = 0
first_places (first ∷ rest) = light_places first

-- all lights have as many as the first one
abbrev pub HaveEqualPlaces : {S D K : Type 0} {g : Ghosts S} {h : difference.Ghosts D S K} {f : formula.Ghosts D} → List (Light S D K g h f) → Type 0
HaveEqualPlaces lights = All (λ light. light_places light ≡ first_places lights) lights
