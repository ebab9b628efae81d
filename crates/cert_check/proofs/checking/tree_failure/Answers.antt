use Rattle.std.proofs.Common.{◌∙◌, ap}
use Rattle.box_specs.specs.Span.{lists}
use Rattle.cert_check.specs.Marks.{first_unmarked}
use Rattle.cert_check.proofs.Results.{tree_passed, tree_unsure}
use Rattle.cert_check.proofs.checking.tree_failure.Goals as goal

pub returns-then-is_some-2-clause-is : goal.returns-then-is_some-2-clause-is
returns-then-is_some-2-clause-is g c =
    tree_unsure (g.L.Landscape.land c.args.land.now) c.args.stance.now.cutoff (lists c.args.stance.now.matched.now) (lists c.args.stance.now.listed.now) c.args.lines.now
    c.in_ok-failure.failure c.first_unmarked-failure.result c.is_some.result c.is_some-2.result c.walk.new.marks.unsure.items
    c.in_ok-failure.ensures.is c.is_some.ensures c.if-is_some.false c.in_ok-failure.ensures.unsure
    (c.first_unmarked-failure.ensures ∙ ap (first_unmarked 4) c.as_slice.ensures.value) c.is_some-2.ensures c.if-is_some-2.true

pub returns-clause-is : goal.returns-clause-is
returns-clause-is g c =
    tree_passed (g.L.Landscape.land c.args.land.now) c.args.stance.now.cutoff (lists c.args.stance.now.matched.now) (lists c.args.stance.now.listed.now) c.args.lines.now
    c.in_ok-failure.failure c.first_unmarked-failure.result c.is_some.result c.is_some-2.result c.walk.new.marks.unsure.items
    c.first_unmarked.result c.walk.new.marks.passed.items
    c.in_ok-failure.ensures.is c.is_some.ensures c.if-is_some.false c.in_ok-failure.ensures.unsure c.in_ok-failure.ensures.passed
    (c.first_unmarked-failure.ensures ∙ ap (first_unmarked 4) c.as_slice.ensures.value) c.is_some-2.ensures c.if-is_some-2.false
    (c.first_unmarked.ensures ∙ ap (first_unmarked 2) c.as_slice-2.ensures.value)
