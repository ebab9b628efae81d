use Rattle.std.proofs.Common.{◌*◌, Some, rules, sym, subst}
use Rattle.interval_specs.specs.Encloses.{Encloses}
use Rattle.metamerism.specs.Difference.{light_difference}
use Rattle.metamerism.proofs.DifferenceLaws.{encloses_finer, encloses_narrower, waves_enclose_themselves}
use Rattle.metamerism.proofs.comparing.corrected_light.Goals as goal

pub returns-clause-delta : goal.returns-clause-delta
returns-clause-delta g c = search rules

pub returns-clause-finer : goal.returns-clause-finer
returns-clause-finer g c m sample standard' sample' some ra rb' ra' hb ha =
    let n = g.S.Scale.unit in
    let value = g.D.Formula.value c.args.rule in
    let standard = c.args.standard.now in
    let weights = c.args.weights.now in
    let first = Some c.args.first.now in
    subst (λ d. Encloses m d (light_difference value first weights (m * n) standard' sample')) (sym (returns-clause-delta g c sample))
    (encloses_finer value (g.D.Formula.keeps_enclosing c.args.rule) first n m weights standard sample standard' sample' g.S.Scale.least some c.waves.ensures.held c.waves-3.ensures.held.range ra rb' ra' hb ha)

pub returns-clause-narrower : goal.returns-clause-narrower
returns-clause-narrower g c sample sample' ra ra' ha =
    let n = g.S.Scale.unit in
    let value = g.D.Formula.value c.args.rule in
    let standard = c.args.standard.now in
    let range = c.waves-3.ensures.held.range in
    rw (returns-clause-delta g c sample, returns-clause-delta g c sample')
    (encloses_narrower value (g.D.Formula.keeps_enclosing c.args.rule) (Some c.args.first.now) n c.args.weights.now standard sample standard sample' g.S.Scale.least c.waves.ensures.held range ra range ra'
    (waves_enclose_themselves n standard range) ha)
