use Rattle.box_specs.proofs.Spans.{same_inside}
use Rattle.box_tests.proofs.tests.judge_top.Goals as goal

pub corner_key-key-requires : goal.corner_key-key-requires
corner_key-key-requires g c = same_inside _ _ c.top-top.ensures.is

pub fails-requires : goal.fails-requires
fails-requires g c = same_inside _ _ c.top-top.ensures.is

pub excludes-fails-requires : goal.excludes-fails-requires
excludes-fails-requires g c = same_inside _ _ c.top-top.ensures.is

pub judge-requires : goal.judge-requires
judge-requires g c = same_inside _ _ c.top-top.ensures.is
