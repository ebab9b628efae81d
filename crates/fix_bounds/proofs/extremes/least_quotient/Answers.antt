use Rattle.std.proofs.Common.{◌∙◌, unsigned_abs}
use Rattle.std.proofs.lemmas.Int.{to_z-of_z}
use Rattle.std.specs.Int.{w128}
use Rattle.interval_specs.specs.Rounding.{floor_over}
use Rattle.fix_bounds.proofs.Passed.{read}
use Rattle.fix_bounds.proofs.Choices.{least_far, least_near}
use Rattle.fix_bounds.proofs.extremes.least_quotient.Goals as goal

pub returns-then-x-ge0 : goal.returns-then-x-ge0
returns-then-x-ge0 c =
    read _ _ c.floor.type_inv
    (c.floor.ensures ∙ (λ i. floor_over (to_z-of_z w128 c.args.x c.ranges.x i) (unsigned_abs (to_z-of_z w128 c.args.d c.ranges.d i)))
    ∙ least_far c.args.x c.args.c c.args.d c.ranges.x c.requires.positive c.requires.ordered c.if-x-ge0.true)

pub returns-else-x-ge0 : goal.returns-else-x-ge0
returns-else-x-ge0 c =
    read _ _ c.floor-else-x-ge0.type_inv
    (c.floor-else-x-ge0.ensures ∙ (λ i. floor_over (to_z-of_z w128 c.args.x c.ranges.x i) (unsigned_abs (to_z-of_z w128 c.args.c c.ranges.c i)))
    ∙ least_near c.args.x c.args.c c.args.d c.ranges.x c.requires.positive c.requires.ordered c.if-x-ge0.false)
