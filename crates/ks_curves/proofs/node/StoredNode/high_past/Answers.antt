use Rattle.std.proofs.Common.{◌*◌, ◌∙◌}
use Rattle.std.specs.Int.{div_ceil}
use Rattle.interval_specs.proofs.Rounds.{ceil_of_natural}
use Rattle.interval_specs.specs.Operations.{fraction_of}
use Rattle.ks_curves.proofs.node.StoredNode.high_past.Goals as goal

pub returns : goal.returns
unfolding fraction_of
returns c =
    ceil_of_natural (c.args.self.now.high * c.args.x) c.args.self.now.units c.quotient_up.result c.requires
    (c.quotient_up.ensures ∙ (λ i. div_ceil (c.from.ensures i * c.from-2.ensures i) (c.from-3.ensures i)))
