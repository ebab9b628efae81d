-- Lights: the difference of a sample under one, and those under all of them.
use Rattle.std.specs.Prelude.{◌≡◌, ℕ, Option, Some, None, List, length, map}
use Rattle.interval_specs.specs.Ends.{Ends}
use Rattle.fix_bounds.specs.declared.scale.Scale.{Ghosts}
use Rattle.cielab_bounds.specs.declared.difference.Difference as difference
use Rattle.cielab_bounds.specs.declared.difference.Formula as formula
use Rattle.cielab_bounds.specs.Cielab.{LabEnds}
use Rattle.cielab_bounds.specs.Lab.{lab_ends}
use Rattle.fix_bounds.specs.Ratios.{ratio_ends}
use Rattle.spectral_tables.specs.WeightTable.{WeightTable}
use Rattle.metamerism.specs.Correction.{corrected_colour}
use Rattle.metamerism.specs.Difference.{colour_under}
use Rattle.metamerism.specs.Few.{items_of}
use Rattle.metamerism.specs.Places.{first_places}
use Rattle.metamerism.specs.declared.correction.Correction.{Correction}
use Rattle.metamerism.specs.declared.lights.Lights.{Lights}
use Rattle.metamerism.specs.declared.one_light.Light.{Light}

-- the coordinates of a sample under weights: as they are, or corrected
abbrev pub seen_by : {S : Type 0} {g : Ghosts S} → Option (Correction S g) → WeightTable → List Ends → LabEnds
seen_by {g = g} None weights sample = colour_under weights g.unit sample
seen_by {g = g} (Some correction) weights sample = corrected_colour weights correction.first (ratio_ends correction.standard) g.unit sample

-- the difference of a sample from the standard of a light, by its rule at its scale
abbrev pub delta_under : {S D K : Type 0} {g : Ghosts S} {h : difference.Ghosts D S K} {f : formula.Ghosts D} → Light S D K g h f → List Ends → Ends
delta_under {g = g} {f = f} light sample = f.value light.rule g.unit (lab_ends light.standard) (seen_by light.correction light.weights sample)

-- the lights in order
abbrev pub lights_of : {S D K : Type 0} {g : Ghosts S} {h : difference.Ghosts D S K} {f : formula.Ghosts D} → Lights S D K g h f → List (Light S D K g h f)
lights_of lights = items_of lights.each

-- their tolerances in order, in thousandths
abbrev pub tolerances_of : {S D K : Type 0} {g : Ghosts S} {h : difference.Ghosts D S K} {f : formula.Ghosts D} → Lights S D K g h f → List ℕ
tolerances_of lights = map (λ light. light.tolerance) (lights_of lights)

-- the differences of a sample under them, in order
abbrev pub deltas_under : {S D K : Type 0} {g : Ghosts S} {h : difference.Ghosts D S K} {f : formula.Ghosts D} → Lights S D K g h f → List Ends → List Ends
deltas_under lights sample = map (λ light. delta_under light sample) (lights_of lights)

-- how many wavelengths the weights of each light have
abbrev pub places_of : {S D K : Type 0} {g : Ghosts S} {h : difference.Ghosts D S K} {f : formula.Ghosts D} → Lights S D K g h f → ℕ
places_of lights = first_places (lights_of lights)

-- a sample has a reflectance for each wavelength of the lights
abbrev pub FitsLights : {S D K : Type 0} {g : Ghosts S} {h : difference.Ghosts D S K} {f : formula.Ghosts D} → Lights S D K g h f → List Ends → Type 0
FitsLights lights sample = length sample ≡ places_of lights
