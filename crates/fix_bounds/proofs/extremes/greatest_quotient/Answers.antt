use Rattle.std.proofs.Common.{◌∙◌, unsigned_abs}
use Rattle.std.proofs.lemmas.Int.{to_z-of_z}
use Rattle.std.specs.Int.{w128}
use Rattle.interval_specs.specs.Rounding.{ceil_over}
use Rattle.fix_bounds.proofs.Passed.{read}
use Rattle.fix_bounds.proofs.Choices.{greatest_near, greatest_far}
use Rattle.fix_bounds.proofs.extremes.greatest_quotient.Goals as goal

pub returns-then-x-ge0 : goal.returns-then-x-ge0
returns-then-x-ge0 c =
    read _ _ c.ceil.type_inv
    (c.ceil.ensures ∙ (λ i. ceil_over (to_z-of_z w128 c.args.x c.ranges.x i) (unsigned_abs (to_z-of_z w128 c.args.c c.ranges.c i)))
    ∙ greatest_near c.args.x c.args.c c.args.d c.ranges.x c.requires.positive c.requires.ordered c.if-x-ge0.true)

pub returns-else-x-ge0 : goal.returns-else-x-ge0
returns-else-x-ge0 c =
    read _ _ c.ceil-else-x-ge0.type_inv
    (c.ceil-else-x-ge0.ensures ∙ (λ i. ceil_over (to_z-of_z w128 c.args.x c.ranges.x i) (unsigned_abs (to_z-of_z w128 c.args.d c.ranges.d i)))
    ∙ greatest_far c.args.x c.args.c c.args.d c.ranges.x c.requires.positive c.requires.ordered c.if-x-ge0.false)
