use Rattle.std.proofs.Common.{◌+◌, ◌*◌, ◌∙◌}
use Rattle.std.specs.Int.{div_ceil}
use Rattle.interval_specs.proofs.Rounds.{ceil_of_natural}
use Rattle.ks_curves.proofs.Quotients.{mean_rises_up}
use Rattle.ks_curves.proofs.node.mean_up.Goals as goal

pub returns-then-a-b : goal.returns-then-a-b
returns-then-a-b c =
    let share = c.quotient_up.ensures ∙ (λ i. div_ceil (c.from-then-a-b.ensures i * c.from-then-a-b-2.ensures i) (c.from.ensures i + c.from-2.ensures i)) in
    ceil_of_natural (c.args.a * c.args.to_b + c.args.b * c.args.from_a) (c.args.from_a + c.args.to_b) (c.from-then-a-b-3.result + c.quotient_up.result) c.requires
    ((λ i. c.from-then-a-b-3.ensures i + share i) ∙ mean_rises_up c.args.a c.args.b c.args.from_a c.args.to_b c.if-a-b.true c.requires)

pub returns : goal.returns
returns c =
    ceil_of_natural (c.args.a * c.args.to_b + c.args.b * c.args.from_a) (c.args.from_a + c.args.to_b) c.quotient_up-2.result c.requires
    (c.quotient_up-2.ensures ∙ (λ i. div_ceil (c.weigh-sum.ensures i) (c.from.ensures i + c.from-2.ensures i)))
