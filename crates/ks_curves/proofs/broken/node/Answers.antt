use Rattle.std.proofs.Common.{◌*◌, ◌^◌, ◌∙◌, pos, ap, arith}
use Rattle.interval_specs.specs.Operations.{cut_low_at}
use Rattle.interval_specs.proofs.Ranges.{carry_up_to, cut_low_up_to}
use Rattle.ks_curves.specs.Calibration.{node_at}
use Rattle.ks_curves.proofs.broken.node.Goals as goal

pub stored_ends-low-requires : goal.stored_ends-low-requires
stored_ends-low-requires g c =
    carry_up_to (10 ^ 4 * g.S.Scale.unit) c.cut_low.result (cut_low_at g.S.Scale.unit (pos 0) c.added.result) c.cut_low.ensures.is
    (cut_low_up_to g.S.Scale.unit (10 ^ 4 * g.S.Scale.unit) 0 c.added.result (omega arith) c.added.ensures.range)

pub returns : goal.returns
unfolding node_at
returns g c =
    let value = c.stored_ends-low.ensures ∙ c.cut_low.ensures.is ∙ ap (cut_low_at g.S.Scale.unit (pos 0)) c.added.ensures.is in
    λ i. record { units = c.args.units; value = value i }
