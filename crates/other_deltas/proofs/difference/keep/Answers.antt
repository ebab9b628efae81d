use Rattle.other_deltas.proofs.Calls.{standard_is}
use Rattle.other_deltas.specs.Kinds.{application_of}
use Rattle.other_deltas.proofs.difference.keep.Goals as goal

pub returns : goal.returns
returns g c =
    let s = c.args.standard.now in
    standard_is (application_of c.args.rule.now.kind) g.S.Scale.unit c.k1.result c.k2.result (record { l = s.l; a = s.a; b = s.b }) c.chroma-c1.result c.weight-sc.result c.weight-sh.result c.weight_square.result
    c.k1.ensures.is c.k2.ensures.is c.chroma-c1.ensures.is c.weight-sc.ensures.is c.weight-sh.ensures.is c.weight_square.ensures.is
