use Rattle.std.proofs.Common.{◌≡◌, ◌*◌, subst, rules}
use Rattle.std.specs.Prelude.{unsigned_abs}
use Rattle.interval_specs.specs.Ranges.{MagnitudeUpTo}
use Rattle.interval_specs.proofs.Ranges.{carry_up_to}
use Rattle.spectral_tables.specs.WeightTable.{at_column, magnitude_sum}
use Rattle.tristimulus.specs.Ratios.{weighted_sum, ratio_at_column}
use Rattle.tristimulus.proofs.Sums.{white-range, magnitude-positive}
use Rattle.tristimulus.proofs.white_ratios.ratio.Goals as goal

pub returns-clause-range : goal.returns-clause-range
unfolding ratio_at_column
returns-clause-range g c =
    let w = c.args.weights.now in
    let column = c.white.ensures.held.columns c.args.column c.requires.column in
    let white = unsigned_abs (at_column c.args.column w.white) in
    let is : c.cut_low.result ≡ ratio_at_column g.S.Scale.unit c.args.column c.args.sample.now w = search rules in
    let sum = weighted_sum c.args.column w.weights c.args.sample.now in
    let magnitude : MagnitudeUpTo (magnitude_sum c.args.column w.weights * g.S.Scale.unit) sum = subst (MagnitudeUpTo (magnitude_sum c.args.column w.weights * g.S.Scale.unit)) c.weighted_sum-sum.ensures.is c.weighted_sum-sum.ensures.magnitude in
    carry_up_to (3 * g.S.Scale.unit) c.cut_low.result (ratio_at_column g.S.Scale.unit c.args.column c.args.sample.now w) is
    (white-range g.S.Scale.unit (magnitude_sum c.args.column w.weights) white sum (magnitude-positive (at_column c.args.column w.white) column.positive) column.balanced magnitude)
