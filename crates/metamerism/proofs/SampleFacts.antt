-- The colour of a sample by its ratios.
use Rattle.std.proofs.Common.{◌≡◌, ap, Option, Some, None, List}
use Rattle.interval_specs.specs.Ends.{Ends}
use Rattle.fix_bounds.specs.Ratios.{RatioEnds, ratio_ends}
use Rattle.fix_bounds.specs.declared.scale.Scale.{Ghosts}
use Rattle.cielab_bounds.specs.Cielab.{lab_at}
use Rattle.spectral_tables.specs.WeightTable.{WeightTable}
use Rattle.tristimulus.specs.Ratios.{ratios_at}
use Rattle.metamerism.specs.Correction.{corrected_colour, corrected_ratios}
use Rattle.metamerism.specs.Difference.{colour_under}
use Rattle.metamerism.specs.Kept.{compared_ratios, first_weights_or}
use Rattle.metamerism.specs.Lights.{seen_by}
use Rattle.metamerism.specs.declared.correction.Correction.{Correction}

-- by its own ratios, and those under the first light if it is corrected, the colour of a sample is
-- the one that it is compared by
pub seen_is : {S : Type 0} {g : Ghosts S} (correction : Option (Correction S g)) (weights other : WeightTable) (sample : List Ends) (own first : RatioEnds)
    → own ≡ ratios_at g.unit sample weights → first ≡ ratios_at g.unit sample (first_weights_or other correction) → lab_at g.unit (compared_ratios correction own first) ≡ seen_by correction weights sample
unfolding colour_under corrected_colour
seen_is {g = g} None weights other sample own first p q = ap (lab_at g.unit) p
seen_is {g = g} (Some correction) weights other sample own first p q = λ i. lab_at g.unit (corrected_ratios g.unit (p i) (ratio_ends correction.standard) (q i))
