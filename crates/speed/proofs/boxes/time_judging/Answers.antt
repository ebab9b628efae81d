use Rattle.speed.proofs.Halves.{inside_itself}
use Rattle.speed.proofs.boxes.time_judging.Goals as goal

pub walk-requires-clause-inside : goal.walk-requires-clause-inside
walk-requires-clause-inside g c = inside_itself _ _ c.top-top.ensures.is
