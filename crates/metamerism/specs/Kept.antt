-- What a light keeps to correct samples by the first light.
use Rattle.std.specs.Prelude.{Option, Some, None}
use Rattle.fix_bounds.specs.Ratios.{RatioEnds, ratio_ends}
use Rattle.fix_bounds.specs.declared.scale.Scale.{Ghosts}
use Rattle.spectral_tables.specs.WeightTable.{WeightTable}
use Rattle.metamerism.specs.Correction.{corrected_ratios}
use Rattle.metamerism.specs.declared.correction.Correction.{Correction}

-- the weights by which samples are corrected, and `own` if they are not
abbrev pub first_weights_or : {S : Type 0} {g : Ghosts S} → (own : WeightTable) → Option (Correction S g) → WeightTable
first_weights_or own None = own
first_weights_or own (Some correction) = correction.first

-- the ratios of a sample by which it is compared, from its own ones and those under the first light
abbrev pub compared_ratios : {S : Type 0} {g : Ghosts S} → Option (Correction S g) → (own first : RatioEnds) → RatioEnds
compared_ratios None own first = own
compared_ratios {g = g} (Some correction) own first = corrected_ratios g.unit own (ratio_ends correction.standard) first
