use Rattle.std.proofs.Common.{◌*◌, ◌/◌, ◌∙◌, pos, ap}
use Rattle.interval_specs.proofs.Rounds.{floor_of_natural}
use Rattle.interval_specs.specs.Operations.{fraction_of}
use Rattle.ks_curves.proofs.node.StoredNode.low_past.Goals as goal

pub returns : goal.returns
unfolding fraction_of
returns c = ap pos (c.quotient.ensures ∙ (λ i. (c.from.ensures i * c.from-2.ensures i) / c.from-3.ensures i)) ∙ floor_of_natural (c.args.self.now.low * c.args.x) c.args.self.now.units
