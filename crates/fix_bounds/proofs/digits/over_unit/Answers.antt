use Rattle.std.proofs.Common.{◌/◌, arith, ap, ◌∙◌}
use Rattle.fix_bounds.proofs.LongDivision.{rest_fits, digits_is}
use Rattle.fix_bounds.proofs.digits.over_unit.Goals as goal

pub overflow_add-rest-2 : goal.overflow_add-rest-2
overflow_add-rest-2 g c = record { fits = rest_fits c.unit-n.result c.args.x (omega arith) }

pub returns : goal.returns
returns g c = digits_is c.unit-n.result c.args.x (omega arith) ∙ ap (λ n. c.args.x / n) c.unit-n.ensures.is
