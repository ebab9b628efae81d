use Rattle.std.proofs.Common.{◌∙◌}
use Rattle.interval_specs.specs.Ends.{one_at}
use Rattle.interval_specs.specs.Operations.{difference_of}
use Rattle.interval_specs.proofs.Held.{is_ends}
use Rattle.interval_specs.proofs.Ranges.{carry_up_to}
use Rattle.fix_bounds.proofs.Passed.{read}
use Rattle.cmc_specs.proofs.Ranges.{rest_up_to}
use Rattle.cmc_bounds.proofs.hue.rest.Goals as goal

pub returns-clause-is : goal.returns-clause-is
unfolding one_at
returns-clause-is g c =
    c.sub.ensures.is
    ∙ (λ i. difference_of (is_ends _ _ _ (one_at g.S.Scale.unit) c.of_ends-one.ensures.is (read _ _ c.UNIT.type_inv (c.UNIT.ensures ∙ g.S.Scale.unit_is)) (read _ _ c.UNIT-2.type_inv (c.UNIT-2.ensures ∙ g.S.Scale.unit_is)) i) c.args.x)

pub returns-clause-range : goal.returns-clause-range
returns-clause-range g c = carry_up_to g.S.Scale.unit c.sub.result (difference_of (one_at g.S.Scale.unit) c.args.x) (returns-clause-is g c) (rest_up_to g.S.Scale.unit c.args.x c.requires)
