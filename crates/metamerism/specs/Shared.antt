-- What lights share of a sample: its ratios under the first of them, by which samples are corrected.
use Rattle.std.specs.Prelude.{◌≡◌, List, [], ◌∷◌, All}
use Rattle.fix_bounds.specs.declared.scale.Scale.{Ghosts}
use Rattle.cielab_bounds.specs.declared.difference.Difference as difference
use Rattle.cielab_bounds.specs.declared.difference.Formula as formula
use Rattle.spectral_tables.specs.WeightTable.{WeightTable}
use Rattle.metamerism.specs.Kept.{first_weights_or}
use Rattle.metamerism.specs.declared.one_light.Light.{Light}

-- the weights of the first light
abbrev pub first_weights : {S D K : Type 0} {g : Ghosts S} {h : difference.Ghosts D S K} {f : formula.Ghosts D} → List (Light S D K g h f) → WeightTable
first_weights [] = record { weights = []; white = [] }
first_weights (first ∷ rest) = first.weights

-- each light that corrects samples does so by the weights of the first light
abbrev pub AreCorrectedByFirst : {S D K : Type 0} {g : Ghosts S} {h : difference.Ghosts D S K} {f : formula.Ghosts D} → List (Light S D K g h f) → Type 0
AreCorrectedByFirst lights = All (λ light. first_weights_or (first_weights lights) light.correction ≡ first_weights lights) lights
