use Rattle.std.proofs.Common.{◌+◌, ◌*◌, ◌/◌, ◌∙◌, pos, ap}
use Rattle.interval_specs.proofs.Rounds.{floor_of_natural}
use Rattle.ks_curves.proofs.Quotients.{mean_rises}
use Rattle.ks_curves.proofs.node.mean_down.Goals as goal

pub returns-then-a-b : goal.returns-then-a-b
returns-then-a-b c =
    let share = c.quotient.ensures ∙ (λ i. c.from-then-a-b.ensures i * c.from-then-a-b-2.ensures i / (c.from.ensures i + c.from-2.ensures i)) in
    ap pos ((λ i. c.from-then-a-b-3.ensures i + share i) ∙ mean_rises c.args.a c.args.b c.args.from_a c.args.to_b c.if-a-b.true c.requires)
    ∙ floor_of_natural (c.args.a * c.args.to_b + c.args.b * c.args.from_a) (c.args.from_a + c.args.to_b)

pub returns : goal.returns
returns c =
    ap pos (c.quotient-2.ensures ∙ (λ i. c.weigh-sum.ensures i / (c.from.ensures i + c.from-2.ensures i)))
    ∙ floor_of_natural (c.args.a * c.args.to_b + c.args.b * c.args.from_a) (c.args.from_a + c.args.to_b)
