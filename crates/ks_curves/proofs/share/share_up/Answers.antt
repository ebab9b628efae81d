use Rattle.std.proofs.Common.{◌*◌, ◌∙◌, ap}
use Rattle.std.specs.Int.{div_ceil}
use Rattle.interval_specs.proofs.Rounds.{ceil_of_natural}
use Rattle.ks_curves.proofs.Shares.{none_up}
use Rattle.ks_curves.proofs.share.share_up.Goals as goal

pub returns-then-units-eq0 : goal.returns-then-units-eq0
returns-then-units-eq0 c = none_up c.args.numerator c.args.units c.args.denominator c.if-units-eq0.true c.requires.positive

pub returns : goal.returns
returns c = ceil_of_natural (c.args.numerator * c.args.units) c.args.denominator c.quotient_up.result c.requires.positive (c.quotient_up.ensures ∙ ap (λ u. div_ceil (c.args.numerator * u) c.args.denominator) c.from.ensures)
