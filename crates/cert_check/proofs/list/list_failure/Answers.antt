use Rattle.std.proofs.Common.{◌∙◌, sym, below_more, arith}
use Rattle.box_specs.specs.Span.{lists}
use Rattle.cert_check.proofs.Within.{grid_of, in_grid_is, list_more}
use Rattle.cert_check.proofs.list.list_failure.Goals as goal

pub loop-i-preserved : goal.loop-i-preserved
loop-i-preserved g c =
    let l = g.L.Landscape.land c.args.land.now in
    let holds_here = sym c.is_in_order.ensures ∙ c.if-not-is_in_order.false in
    record {
      rest = list_more l c.args.cutoff.now c.args.first_line (lists c.args.listed.now) c.loop-i.i (omega (arith, c.loop-i-test.true, c.count_of-i-end.ensures)) holds_here ∙ c.loop-i.invariant.rest;
      grid = below_more _ _ c.loop-i.invariant.grid (in_grid_is l _ c.top-top.ensures.lawful.top (grid_of l _ _ _ holds_here));
    }
