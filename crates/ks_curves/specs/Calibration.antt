-- The two calibrations of a dye. Each dyeing adds to the K/S of the substrate.
--
-- The straight line through the origin fits the dyeings by least squares, and is cut at 0: its slope
-- is the sum of the units of each dyeing times what it adds, over the sum of the squares of the
-- units. The broken line joins the origin and the dyeings, each cut at 0.
use Rattle.std.specs.Prelude.{ℕ, ◌+◌, ◌*◌, pos, List, [], ◌∷◌, nat_eq, if◌then◌else◌, map, slice_index, sum_by}
use Rattle.interval_specs.specs.Ends.{Ends, nothing}
use Rattle.interval_specs.specs.Operations.{sum_of, difference_of, multiple_of, fraction_of, cut_low_at}
use Rattle.ks_curves.specs.declared.kind.Calibration.{Calibration}
use Rattle.ks_curves.specs.declared.kind.Calibration.TheVariants.{Line, Broken}
use Rattle.ks_curves.specs.KubelkaMunk.{ks_at}
use Rattle.ks_curves.specs.Dye.{Dyeing, DyeData}
use Rattle.ks_curves.specs.BrokenLine.{Node, origin, value_from, broken_over}
use Rattle.ks_curves.specs.Order.{put_by}

-- what a dyeing adds to the K/S of the substrate at a wavelength
abbrev pub added_at : ℕ → List ℕ → ℕ → Dyeing → Ends
added_at n substrate wave dyeing = difference_of (ks_at n (slice_index dyeing.1 wave)) (ks_at n (slice_index substrate wave))

-- ---- the straight line

-- what a dyeing adds, times its units
unfoldable pub weighted_addition : ℕ → List ℕ → ℕ → Dyeing → Ends
weighted_addition n substrate wave dyeing = multiple_of (pos dyeing.0) (added_at n substrate wave dyeing)

-- the sum of these over the dyeings
unfoldable pub weighted_sum : ℕ → List ℕ → ℕ → List Dyeing → Ends
weighted_sum n substrate wave [] = nothing
weighted_sum n substrate wave (dyeing ∷ dyeings) =
    sum_of (weighted_addition n substrate wave dyeing) (weighted_sum n substrate wave dyeings)

-- the numerator of the slope at a wavelength, where a sum below 0 is taken as 0
unfoldable pub numerator_at : ℕ → List ℕ → ℕ → List Dyeing → Ends
numerator_at n substrate wave dyeings = cut_low_at n (pos 0) (weighted_sum n substrate wave dyeings)

-- the denominator of the slope, the same at every wavelength
unfoldable pub square_sum : List Dyeing → ℕ
square_sum dyeings = sum_by (λ dyeing. dyeing.0 * dyeing.0) dyeings

-- the value of the straight line at the given units
unfoldable pub line_at : ℕ → DyeData → ℕ → ℕ → Ends
line_at n dye wave units = fraction_of units (square_sum dye.dyeings) (numerator_at n dye.substrate wave dye.dyeings)

-- ---- the broken line

-- the node of a dyeing: what it adds, where less than 0 is taken as 0
unfoldable pub node_at : ℕ → List ℕ → ℕ → Dyeing → Node
node_at n substrate wave dyeing = record { units = dyeing.0; value = cut_low_at n (pos 0) (added_at n substrate wave dyeing) }

-- The dyeings in rising order of their units, as a broken line joins them: each has some units, and
-- no two of a dye have equal units.
unfoldable pub in_order : List Dyeing → List Dyeing
in_order [] = []
in_order (dyeing ∷ dyeings) = if nat_eq dyeing.0 0 then in_order dyeings else (put_by (λ d. d.0) dyeing (in_order dyeings))

-- the nodes of the dyeings, in rising order of their units
abbrev pub nodes_at : ℕ → List ℕ → ℕ → List Dyeing → List Node
nodes_at n substrate wave dyeings = map (node_at n substrate wave) (in_order dyeings)

-- ---- either

-- the value of the calibration at the given units
unfoldable pub value_by : Calibration → ℕ → DyeData → ℕ → ℕ → Ends
value_by Line n dye wave units = line_at n dye wave units
value_by Broken n dye wave units = value_from origin (nodes_at n dye.substrate wave dye.dyeings) units

abbrev pub value_at : ℕ → DyeData → ℕ → ℕ → Ends
value_at n dye wave units = value_by dye.kind n dye wave units

-- The value of the calibration over units from x0 to x1, from the least lower end to the greatest
-- upper end. A straight line does not fall where the units grow, so the lower end is that at x0 and
-- the upper end that at x1; a broken line may turn at each node between.
unfoldable pub value_over_by : Calibration → ℕ → DyeData → ℕ → ℕ → ℕ → Ends
value_over_by Line n dye wave x0 x1 = record { lo = (line_at n dye wave x0).lo; hi = (line_at n dye wave x1).hi }
value_over_by Broken n dye wave x0 x1 = broken_over (nodes_at n dye.substrate wave dye.dyeings) x0 x1

-- all definitions below use only this value
abbrev pub value_over : ℕ → DyeData → ℕ → ℕ → ℕ → Ends
value_over n dye wave x0 x1 = value_over_by dye.kind n dye wave x0 x1

-- the contribution of n0 to n1 steps to K/S at a wavelength
abbrev pub contribution_range_at : ℕ → DyeData → ℕ → ℕ → ℕ → Ends
contribution_range_at n dye wave n0 n1 = value_over n dye wave (n0 * dye.step) (n1 * dye.step)

-- the contribution of the given number of steps
abbrev pub contribution_at : ℕ → DyeData → ℕ → ℕ → Ends
contribution_at n dye wave steps = contribution_range_at n dye wave steps steps

-- ---- an addition to a bath

-- What an addition of x0 to x1 units contributes, where `bath` units of the dye are on the cloth.
-- Along a straight line it does not depend on the bath. Along a broken line it is the value with the
-- addition less the value without it, and nothing where nothing is added.
unfoldable pub addition_by : Calibration → ℕ → DyeData → ℕ → ℕ → ℕ → ℕ → Ends
addition_by Line n dye wave bath x0 x1 = value_over_by Line n dye wave x0 x1
addition_by Broken n dye wave bath x0 x1 =
    if nat_eq x1 0 then nothing
    else (difference_of (value_over_by Broken n dye wave (bath + x0) (bath + x1)) (value_by Broken n dye wave bath))

abbrev pub addition_over : ℕ → DyeData → ℕ → ℕ → ℕ → ℕ → Ends
addition_over n dye wave bath x0 x1 = addition_by dye.kind n dye wave bath x0 x1

-- the same of an addition of n0 to n1 steps, where `bath` steps are on the cloth
abbrev pub addition_range_at : ℕ → DyeData → ℕ → ℕ → ℕ → ℕ → Ends
addition_range_at n dye wave bath n0 n1 = addition_over n dye wave (bath * dye.step) (n0 * dye.step) (n1 * dye.step)
