use Rattle.box_specs.proofs.Spans.{same_inside}
use Rattle.box_core.proofs.carried.top.Goals as goal

pub hold-held-requires : goal.hold-held-requires
hold-held-requires g c = same_inside _ _ c.top-part.ensures.is
