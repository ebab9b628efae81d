use Rattle.std.proofs.Common.{◌*◌, subst, sym}
use Rattle.interval_specs.specs.Encloses.{Encloses}
use Rattle.cielab_bounds.proofs.Colours.{colour}
use Rattle.cielab_bounds.proofs.laws.difference.Goals as goal

pub returns-clause-is : goal.returns-clause-is
returns-clause-is g c = c.delta.ensures.is _ c.keep-kept.ensures

pub returns-clause-finer : goal.returns-clause-finer
returns-clause-finer g c m p q some cp cq hp hq =
    let n = g.S.Scale.unit in
    let s = c.args.standard.now in
    let x = c.args.sample.now in
    let law = g.D.Formula.keeps_enclosing c.args.rule.now n m (record { l = s.l; a = s.a; b = s.b }) (record { l = x.l; a = x.a; b = x.b }) p q
    g.S.Scale.least some (colour n s.l s.a s.b s.l_range s.a_range s.b_range) (colour n x.l x.a x.b x.l_range x.a_range x.b_range) cp cq hp hq in
    subst (λ r. Encloses m r (g.D.Formula.value c.args.rule.now (m * n) p q)) (sym (returns-clause-is g c)) law
