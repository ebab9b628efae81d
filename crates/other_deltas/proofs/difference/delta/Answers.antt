use Rattle.other_deltas.proofs.Calls.{kept_is}
use Rattle.other_deltas.specs.Kinds.{application_of}
use Rattle.other_deltas.proofs.difference.delta.Goals as goal

pub returns-clause-is : goal.returns-clause-is
returns-clause-is g c =
    let s = c.args.standard.now in
    let q = c.args.sample.now in
    kept_is (application_of c.args.rule.now.kind) g.S.Scale.unit (record { l1 = s.l1; a1 = s.a1; b1 = s.b1; c1 = s.c1; sc = s.sc; sh = s.sh; sh_square = s.sh_square }) (record { l = q.l; a = q.a; b = q.b })
    c.lightness_difference-dl.result c.chroma_difference-dc.result c.hue_difference_square-hue_square.result c.lightness_term-lightness.result c.chroma_term-chroma.result c.hue_term.result c.length.result
    c.lightness_difference-dl.ensures.is c.chroma_difference-dc.ensures.is c.hue_difference_square-hue_square.ensures.is c.lightness_term-lightness.ensures.is c.chroma_term-chroma.ensures.is c.hue_term.ensures.is c.length.ensures.is
