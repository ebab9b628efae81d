use Rattle.std.proofs.Common.{◌≡◌, ◌∙◌, ap}
use Rattle.fix_bounds.specs.Ratios.{ratio_ends}
use Rattle.cielab_bounds.specs.Lab.{lab_ends}
use Rattle.tristimulus.specs.Ratios.{ratios_at}
use Rattle.metamerism.specs.Kept.{first_weights_or}
use Rattle.metamerism.proofs.SampleFacts.{seen_is}
use Rattle.metamerism.proofs.comparing.delta_alone.Goals as goal

pub returns-in-Some-clause-is : goal.returns-in-Some-clause-is
returns-in-Some-clause-is g c =
    let light = c.args.light.now in
    let n = g.S.Scale.unit in
    let first : ratio_ends c.ratios.result ≡ ratios_at n c.args.sample.now (first_weights_or light.weights light.correction) = rw c.in-Some.is c.ratios.ensures in
    c.delta_by.ensures.is ∙ ap (g.D.Formula.value light.rule n (lab_ends light.standard)) (seen_is light.correction light.weights light.weights c.args.sample.now _ _ c.requires.own first)

pub returns-in-None-clause-is : goal.returns-in-None-clause-is
returns-in-None-clause-is g c =
    let light = c.args.light.now in
    let n = g.S.Scale.unit in
    let first : ratio_ends c.args.own.now ≡ ratios_at n c.args.sample.now (first_weights_or light.weights light.correction) = rw c.in-None.is c.requires.own in
    c.delta_by-in-None.ensures.is ∙ ap (g.D.Formula.value light.rule n (lab_ends light.standard)) (seen_is light.correction light.weights light.weights c.args.sample.now _ _ c.requires.own first)
