use Rattle.std.proofs.Common.{◌∙◌}
use Rattle.fix_bounds.proofs.Passed.{read}
use Rattle.fix_bounds.proofs.Rounding.{quotient_is}
use Rattle.fix_bounds.proofs.rounds.floor.Goals as goal

pub returns : goal.returns
returns c = read _ _ c.div_euclid.type_inv (c.div_euclid.ensures ∙ quotient_is c.args.z c.args.n c.ranges.z c.ranges.n c.requires)
