use Rattle.std.proofs.Common.{sym, ◌∙◌}
use Rattle.cielab_bounds.proofs.FEnds.{up_root, up_linear, up_fits}
use Rattle.cielab_bounds.proofs.lab_f.upper_end.Goals as goal

pub returns-then-root-clause-is : goal.returns-then-root-clause-is
returns-then-root-clause-is g c =
    up_root g.S.Scale.unit c.args.t c.cbrt_ceil.result c.cbrt_radicand.result (sym c.requires.part ∙ c.if-root.true) c.cbrt_radicand.ensures c.cbrt_ceil.ensures.fits c.cbrt_ceil.ensures.least

pub returns-then-root-clause-small : goal.returns-then-root-clause-small
returns-then-root-clause-small g c = up_fits g.S.Scale.unit c.args.t c.cbrt_ceil.result c.requires.magnitude (returns-then-root-clause-is g c)

pub returns-else-root-clause-is : goal.returns-else-root-clause-is
returns-else-root-clause-is g c = up_linear g.S.Scale.unit c.args.t c.dividend.result c.div_ceil.result (sym c.requires.part ∙ c.if-root.false) c.dividend.ensures c.div_ceil.ensures
