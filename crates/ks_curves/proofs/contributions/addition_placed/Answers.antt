use Rattle.std.proofs.Common.{◌*◌, ◌^◌, ◌∙◌, sym}
use Rattle.interval_specs.specs.Operations.{difference_of}
use Rattle.interval_specs.proofs.Ranges.{carry_magnitude, difference_within}
use Rattle.ks_curves.proofs.ContributionLaws.{line_addition, no_addition, broken_addition}
use Rattle.ks_curves.proofs.contributions.addition_placed.Goals as goal

pub returns-in-Line-clause-is : goal.returns-in-Line-clause-is
returns-in-Line-clause-is g c =
    c.value_over.ensures.is ∙ line_addition c.args.dye.now.kind g.S.Scale.unit c.args.dye.now c.args.wave c.args.bath c.args.x0 c.args.x1 (sym c.kind.ensures.is ∙ c.in-Line.is)

pub returns-then-x1-eq0-clause-is : goal.returns-then-x1-eq0-clause-is
returns-then-x1-eq0-clause-is g c =
    c.default.ensures ∙ no_addition c.args.dye.now.kind g.S.Scale.unit c.args.dye.now c.args.wave c.args.bath c.args.x0 c.args.x1 (sym c.kind.ensures.is ∙ c.in-Broken.is) c.if-x1-eq0.true

pub returns-else-x1-eq0-clause-is : goal.returns-else-x1-eq0-clause-is
returns-else-x1-eq0-clause-is g c =
    c.sub.ensures.is ∙ (λ i. difference_of (c.value_over-else-x1-eq0.ensures.is i) (c.value_over-before.ensures.is i))
    ∙ broken_addition c.args.dye.now.kind g.S.Scale.unit c.args.dye.now c.args.wave c.args.bath c.args.x0 c.args.x1 (sym c.kind.ensures.is ∙ c.in-Broken.is) c.if-x1-eq0.false

pub returns-else-x1-eq0-clause-range : goal.returns-else-x1-eq0-clause-range
returns-else-x1-eq0-clause-range g c =
    let k = 4 * 10 ^ 8 * g.S.Scale.unit in
    carry_magnitude k c.sub.result (difference_of c.value_over-else-x1-eq0.result c.value_over-before.result) c.sub.ensures.is
    (difference_within k c.value_over-else-x1-eq0.result c.value_over-before.result c.value_over-else-x1-eq0.ensures.range c.value_over-before.ensures.range)
