use Rattle.cielab_bounds.proofs.LabCalls.{lab_is}
use Rattle.cielab_bounds.proofs.conversion.lab.Goals as goal

pub returns : goal.returns
returns g c =
    lab_is g.S.Scale.unit _ _ _ c.f_iv-x.result c.f_iv-y.result c.f_iv-z.result c.lightness.result c.opponent.result c.opponent-2.result
    c.f_iv-x.ensures.is c.f_iv-y.ensures.is c.f_iv-z.ensures.is c.lightness.ensures.is c.opponent.ensures.is c.opponent-2.ensures.is
