use Rattle.std.proofs.Common.{pos, ◌∙◌, refl}
use Rattle.interval_specs.proofs.Held.{is_ends}
use Rattle.interval_specs.proofs.Ranges.{carry_up_to}
use Rattle.fix_bounds.proofs.Passed.{read}
use Rattle.cmc_specs.proofs.Ranges.{cosine_magnitude_up_to}
use Rattle.cmc_bounds.proofs.HueCalls.{any_cosine, bits_zero, cosine_room, known_cosine, zero_bits}
use Rattle.cmc_bounds.proofs.hue.cosine_magnitude.Goals as goal

pub div-requires-clause-magnitude : goal.div-requires-clause-magnitude
div-requires-clause-magnitude g c =
    cosine_room g.S.Scale.unit c.args.product c.args.c1 c.abs.result g.S.Scale.most c.requires.product c.requires.chroma (λ e. c.if-lo-eq0.false (zero_bits c.lo.result c.args.c1.lo c.lo.ensures.is e)) c.abs.ensures.is

pub returns-then-lo-eq0-clause-is : goal.returns-then-lo-eq0-clause-is
returns-then-lo-eq0-clause-is g c =
    any_cosine g.S.Scale.unit c.args.product c.args.c1 c.of_ends.result (bits_zero c.lo.result c.args.c1.lo c.lo.type_inv c.lo.ensures.is c.if-lo-eq0.true)
    (is_ends _ _ _ (record { lo = pos 0; hi = pos g.S.Scale.unit }) c.of_ends.ensures.is refl (read _ _ c.UNIT.type_inv (c.UNIT.ensures ∙ g.S.Scale.unit_is)))

pub returns-else-lo-eq0-clause-is : goal.returns-else-lo-eq0-clause-is
returns-else-lo-eq0-clause-is g c =
    known_cosine g.S.Scale.unit c.args.product c.args.c1 c.abs.result c.div.result c.cut_high.result c.requires.chroma (λ e. c.if-lo-eq0.false (zero_bits c.lo.result c.args.c1.lo c.lo.ensures.is e)) c.abs.ensures.is c.div.ensures.is c.cut_high.ensures.is

pub returns-else-lo-eq0-clause-range : goal.returns-else-lo-eq0-clause-range
returns-else-lo-eq0-clause-range g c =
    carry_up_to g.S.Scale.unit c.cut_high.result _ (returns-else-lo-eq0-clause-is g c)
    (cosine_magnitude_up_to g.S.Scale.unit c.args.product c.args.c1 c.requires.chroma.range.not_negative c.requires.chroma.range.ordered)
