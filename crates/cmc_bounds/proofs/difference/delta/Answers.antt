use Rattle.std.proofs.Common.{◌*◌, arith}
use Rattle.interval_specs.proofs.Ranges.{magnitude_wider}
use Rattle.cmc_bounds.proofs.TermCalls.{kept_is}
use Rattle.cmc_bounds.proofs.difference.delta.Goals as goal

pub returns-clause-is : goal.returns-clause-is
returns-clause-is g c =
    let s = c.args.standard.now in
    let q = c.args.sample.now in
    kept_is g.S.Scale.unit c.args.rule.now.l10 c.args.rule.now.c10 (record { l1 = s.l1; a1 = s.a1; b1 = s.b1; c1 = s.c1; sl = s.sl; sc = s.sc; sh = s.sh }) (record { l = q.l; a = q.a; b = q.b })
    c.lightness_difference-dl.result c.chroma_difference-dc.result c.hue_difference_square-hue_square.result c.lightness_term-lightness.result c.chroma_term-chroma.result c.hue_term.result c.length.result
    c.lightness_difference-dl.ensures.is c.chroma_difference-dc.ensures.is c.hue_difference_square-hue_square.ensures.is c.lightness_term-lightness.ensures.is c.chroma_term-chroma.ensures.is c.hue_term.ensures.is c.length.ensures.is

pub length-requires-clause-chroma : goal.length-requires-clause-chroma
length-requires-clause-chroma g c = magnitude_wider (23000 * g.S.Scale.unit) (40000 * g.S.Scale.unit) c.chroma_term-chroma.result (omega arith) c.chroma_term-chroma.ensures.range
