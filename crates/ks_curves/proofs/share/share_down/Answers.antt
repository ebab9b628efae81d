use Rattle.std.proofs.Common.{◌*◌, ◌/◌, ◌∙◌, pos, ap}
use Rattle.interval_specs.proofs.Rounds.{floor_of_natural}
use Rattle.ks_curves.proofs.Shares.{none_down}
use Rattle.ks_curves.proofs.share.share_down.Goals as goal

pub returns-then-units-eq0 : goal.returns-then-units-eq0
returns-then-units-eq0 c = none_down c.args.numerator c.args.units c.args.denominator c.if-units-eq0.true

pub returns : goal.returns
returns c = ap pos (c.quotient.ensures ∙ ap (λ u. c.args.numerator * u / c.args.denominator) c.from.ensures) ∙ floor_of_natural (c.args.numerator * c.args.units) c.args.denominator
