use Rattle.std.proofs.Common.{sym, ◌∙◌}
use Rattle.cielab_bounds.proofs.FEnds.{down_root, down_linear, down_fits}
use Rattle.cielab_bounds.proofs.lab_f.lower_end.Goals as goal

pub returns-then-root-clause-is : goal.returns-then-root-clause-is
returns-then-root-clause-is g c =
    down_root g.S.Scale.unit c.args.t c.cbrt_floor.result c.cbrt_radicand.result (sym c.requires.part ∙ c.if-root.true) c.cbrt_radicand.ensures c.cbrt_floor.ensures.fits c.cbrt_floor.ensures.greatest

pub returns-then-root-clause-small : goal.returns-then-root-clause-small
returns-then-root-clause-small g c = down_fits g.S.Scale.unit c.args.t c.cbrt_floor.result c.requires.magnitude (returns-then-root-clause-is g c)

pub returns-else-root-clause-is : goal.returns-else-root-clause-is
returns-else-root-clause-is g c = down_linear g.S.Scale.unit c.args.t c.dividend.result (sym c.requires.part ∙ c.if-root.false) c.dividend.ensures
