use Rattle.std.proofs.Common.{◌∙◌}
use Rattle.root_bounds.proofs.RootEnds.{cubic_room}
use Rattle.root_bounds.proofs.interval.cbrt_radicand.Goals as goal

pub overflow_mul-result-2 : goal.overflow_mul-result-2
overflow_mul-result-2 g c = cubic_room c.args.t _ g.S.Scale.unit c.requires (c.from-parts.ensures ∙ c.unit.ensures.is) g.S.Scale.most
