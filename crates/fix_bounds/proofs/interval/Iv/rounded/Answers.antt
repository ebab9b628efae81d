use Rattle.std.proofs.Common.{◌∙◌, unsigned_abs}
use Rattle.std.proofs.lemmas.Int.{to_z-of_z}
use Rattle.std.specs.Int.{w128}
use Rattle.interval_specs.specs.Rounding.{floor_over, ceil_over}
use Rattle.interval_specs.proofs.Held.{held_by}
use Rattle.fix_bounds.proofs.Passed.{read}
use Rattle.fix_bounds.proofs.Rounded.{held_rounded}
use Rattle.fix_bounds.proofs.interval.Iv.rounded.Goals as goal

pub of_ends-requires : goal.of_ends-requires
of_ends-requires g c =
    held_by _ _ (record { lo = floor_over c.args.low (unsigned_abs c.args.by); hi = ceil_over c.args.high (unsigned_abs c.args.by) })
    (read _ _ c.floor-least.type_inv (c.floor-least.ensures ∙ (λ i. floor_over (to_z-of_z w128 c.args.low c.ranges.low i) (unsigned_abs (to_z-of_z w128 c.args.by c.ranges.by i)))))
    (read _ _ c.ceil.type_inv (c.ceil.ensures ∙ (λ i. ceil_over (to_z-of_z w128 c.args.high c.ranges.high i) (unsigned_abs (to_z-of_z w128 c.args.by c.ranges.by i)))))
    (held_rounded c.args.low c.args.high c.args.by c.requires)

pub of_ends-requires-else-low-high : goal.of_ends-requires-else-low-high
of_ends-requires-else-low-high g c =
    held_by _ _ (record { lo = floor_over c.args.low (unsigned_abs c.args.by); hi = ceil_over c.args.high (unsigned_abs c.args.by) })
    (read _ _ c.floor-least.type_inv (c.floor-least.ensures ∙ (λ i. floor_over (to_z-of_z w128 c.args.low c.ranges.low i) (unsigned_abs (to_z-of_z w128 c.args.by c.ranges.by i)))))
    (read _ _ c.ceil_after.type_inv (c.ceil_after.ensures ∙ (λ i. ceil_over (to_z-of_z w128 c.args.high c.ranges.high i) (unsigned_abs (to_z-of_z w128 c.args.by c.ranges.by i)))))
    (held_rounded c.args.low c.args.high c.args.by c.requires)
