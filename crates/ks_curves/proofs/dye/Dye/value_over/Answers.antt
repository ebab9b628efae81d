use Rattle.std.proofs.Common.{◌∙◌}
use Rattle.ks_curves.proofs.Shapes.{straight_is, broken_is}
use Rattle.ks_curves.proofs.dye.Dye.value_over.Goals as goal

pub returns-in-Straight-clause-is : goal.returns-in-Straight-clause-is
returns-in-Straight-clause-is g c =
    c.value_over.ensures.is
    ∙ straight_is g.S.Scale.unit c.self.inside.shape c.self.inside.step c.self.inside.substrate c.self.inside.dyeings.items c.as_slice-dyeings.result.now c.args.self.now c.args.wave c.args.x0 c.args.x1 c.self.view_is c.as_slice-dyeings.ensures.value
    c.in-Straight.slope c.in-Straight.is

pub returns-in-Broken-clause-is : goal.returns-in-Broken-clause-is
returns-in-Broken-clause-is g c =
    c.value_over-in-Broken.ensures.is
    ∙ broken_is g.S.Scale.unit c.self.inside.shape c.self.inside.step c.self.inside.substrate c.self.inside.dyeings.items c.as_slice-dyeings.result.now c.args.self.now c.args.wave c.args.x0 c.args.x1 c.self.view_is c.as_slice-dyeings.ensures.value
    c.in-Broken.line c.in-Broken.is
