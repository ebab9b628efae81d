use Rattle.std.proofs.Common.{◌*◌, ◌∙◌, sym}
use Rattle.interval_specs.proofs.Ranges.{carry_magnitude}
use Rattle.delta_specs.proofs.Ranges.{half_of, lightness_term_magnitude, whole_of}
use Rattle.other_deltas.proofs.difference.lightness_term.Goals as goal

pub returns-then-is_halved-clause-is : goal.returns-then-is_halved-clause-is
returns-then-is_halved-clause-is g c = half_of _ c.args.delta c.ratio_up.result (sym c.is_halved.ensures ∙ c.if-is_halved.true) c.ratio_up.ensures.is

pub returns-then-is_halved-clause-range : goal.returns-then-is_halved-clause-range
returns-then-is_halved-clause-range g c =
    carry_magnitude (2000 * g.S.Scale.unit) c.ratio_up.result _ (returns-then-is_halved-clause-is g c) (lightness_term_magnitude g.S.Scale.unit _ c.args.delta c.requires)

pub returns-else-is_halved-clause-is : goal.returns-else-is_halved-clause-is
returns-else-is_halved-clause-is g c = whole_of _ c.args.delta (sym c.is_halved.ensures ∙ c.if-is_halved.false)
