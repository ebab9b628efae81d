use Rattle.std.proofs.Common.{lit≤}
use Rattle.lab_parts.proofs.Ranges.{coordinates_delta}
use Rattle.lab_parts.proofs.Rooms.{sum_room}
use Rattle.lab_parts.proofs.difference.lightness_difference.Goals as goal

pub sub-requires : goal.sub-requires
sub-requires g c = let q = c.args.sample.now in sum_room g.S.Scale.unit 1000 1000 q.l c.args.l1 g.S.Scale.most (lit≤ tt) (lit≤ tt) q.l_range.small c.requires.small

pub returns-clause-range : goal.returns-clause-range
returns-clause-range g c = let q = c.args.sample.now in coordinates_delta g.S.Scale.unit q.l c.args.l1 c.sub.result q.l_range c.requires c.sub.ensures.is
