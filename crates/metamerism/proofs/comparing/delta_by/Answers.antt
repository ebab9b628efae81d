use Rattle.std.proofs.Common.{◌∙◌, ap}
use Rattle.cielab_bounds.specs.Lab.{lab_ends}
use Rattle.metamerism.proofs.Standing.{same_ends, some_standard}
use Rattle.metamerism.proofs.comparing.delta_by.Goals as goal

pub delta-requires : goal.delta-requires
delta-requires g c =
    let light = c.args.light.now in
    some_standard (g.D.Difference.stands_for light.rule light.kept) (lab_ends light.standard) light.stands

pub returns-clause-is : goal.returns-clause-is
returns-clause-is g c =
    let light = c.args.light.now in
    same_ends (g.D.Difference.stands_for light.rule light.kept (lab_ends light.standard)) _ _ light.stands
    (λ stands. c.delta.ensures.is (lab_ends light.standard) stands ∙ ap (g.D.Formula.value light.rule g.S.Scale.unit (lab_ends light.standard)) c.compared_colour-sample.ensures)
