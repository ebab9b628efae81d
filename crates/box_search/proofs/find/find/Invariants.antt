use Rattle.std.proofs.Common.{◌+◌, ◌<◌, ◌≤◌, length}
use Rattle.box_search.specs.Frontier.{Going}
use Rattle.box_specs.specs.Span.{lists}
use Rattle.box_search.proofs.find.find.Given as goal

abbrev pub invariant-loop-boxes : goal.invariant-loop-boxes
invariant-loop-boxes g l = record {
  going : Going (g.L.Landscape.land l.land) (g.L.Carrying.stands l.land) l.frontier l.tally.nodes.items l.boxes (lists l.tally.matched.items) (lists l.tally.undecided.items);
  fewer : length (lists l.tally.matched.items) < l.wanted;
  spent : g.L.Landscape.judged_count l.land l.meter ≤ g.L.Landscape.judged_count l.fn.land l.fn.meter + l.boxes;
  fresh : g.L.Landscape.fresh_count l.land l.meter ≤ g.L.Landscape.fresh_count l.fn.land l.fn.meter + 1;
}
