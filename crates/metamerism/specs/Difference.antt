-- The colour difference of a sample from a standard, both under the weights of one light.
use Rattle.std.specs.Prelude.{ℕ, List, Option, Some, None}
use Rattle.interval_specs.specs.Ends.{Ends}
use Rattle.cielab_bounds.specs.Cielab.{LabEnds, lab_at}
use Rattle.spectral_tables.specs.WeightTable.{WeightTable}
use Rattle.tristimulus.specs.Ratios.{ratios_at}
use Rattle.metamerism.specs.Correction.{corrected_colour}

-- CIELAB coordinates (CIE 15) by the tristimulus ratios (ASTM E308) of a spectrum under the weights
-- of a light, at scale n
unfoldable pub colour_under : WeightTable → ℕ → List Ends → LabEnds
colour_under weights n spectrum = lab_at n (ratios_at n spectrum weights)

-- the coordinates of a sample that is compared with a standard: as they are, or corrected by the
-- first light, if its weights are given
abbrev pub sample_colour : (first : Option WeightTable) → WeightTable → ℕ → (standard sample : List Ends) → LabEnds
sample_colour None weights n standard sample = colour_under weights n sample
sample_colour (Some first) weights n standard sample = corrected_colour weights first (ratios_at n standard first) n sample

-- the value of a formula for the colours of a standard and of a sample, in this order, at scale n;
-- the sample's is corrected by the first light, if its weights are given
abbrev pub light_difference : (ℕ → LabEnds → LabEnds → Ends) → (first : Option WeightTable) → WeightTable → ℕ → (standard sample : List Ends) → Ends
light_difference value first weights n standard sample = value n (colour_under weights n standard) (sample_colour first weights n standard sample)

-- the same without a correction
abbrev pub difference_under : (ℕ → LabEnds → LabEnds → Ends) → WeightTable → ℕ → (standard sample : List Ends) → Ends
difference_under value weights n standard sample = light_difference value None weights n standard sample
