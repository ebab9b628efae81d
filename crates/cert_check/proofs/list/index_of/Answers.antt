use Rattle.std.proofs.Common.{sym, arith}
use Rattle.box_specs.specs.Span.{lists}
use Rattle.cert_check.proofs.Order.{is_there, listed_at, none_there, not_there}
use Rattle.cert_check.proofs.list.index_of.Goals as goal

pub returns-then-i-count_of-clause-listed : goal.returns-then-i-count_of-clause-listed
returns-then-i-count_of-clause-listed g c =
    sym (none_there (g.L.Landscape.land c.args.land.now) (lists c.args.listed.now) c.args.steps.now.items c.requires.sorted c.lower_bound-i.result
    c.lower_bound-i.ensures.in_list c.lower_bound-i.ensures.below c.lower_bound-i.ensures.above (λ lt e. absurd (omega arith)))

pub returns-then-not-is_same-clause-listed : goal.returns-then-not-is_same-clause-listed
returns-then-not-is_same-clause-listed g c =
    sym (none_there (g.L.Landscape.land c.args.land.now) (lists c.args.listed.now) c.args.steps.now.items c.requires.sorted c.lower_bound-i.result
    c.lower_bound-i.ensures.in_list c.lower_bound-i.ensures.below c.lower_bound-i.ensures.above
    (λ lt e. not_there (lists c.args.listed.now) c.recipe_at.result.now.items c.args.steps.now.items c.lower_bound-i.result c.is_same.result
    c.is_same.ensures c.if-not-is_same.true c.recipe_at.ensures e))

pub returns-clause-listed : goal.returns-clause-listed
returns-clause-listed g c =
    sym (listed_at (lists c.args.listed.now) c.args.steps.now.items c.lower_bound-i.result (omega (arith, c.lower_bound-i.ensures.in_list))
    (is_there (lists c.args.listed.now) c.recipe_at.result.now.items c.args.steps.now.items c.lower_bound-i.result c.is_same.result
    c.is_same.ensures c.if-not-is_same.false c.recipe_at.ensures))
