use Rattle.std.proofs.Common.{◌*◌, ◌^◌}
use Rattle.interval_specs.proofs.Held.{held_by, is_ends}
use Rattle.interval_specs.proofs.Ranges.{carry_up_to}
use Rattle.ks_curves.specs.Slope.{line_over}
use Rattle.ks_curves.proofs.Values.{IsSlope, IsComputed, denominator_positive, numerators_small, line_computed}
use Rattle.ks_curves.proofs.slope.Slope.value_over.Given as given
use Rattle.ks_curves.proofs.slope.Slope.value_over.Goals as goal
use Rattle.ks_curves.proofs.slope.Slope.value_over.Goals.{After-numerator-low, After-share_up-above}

slope : (g : given.Over) (c : After-numerator-low g) → IsSlope g.S.Scale.unit c.args.substrate.now c.args.dyeings.now c.args.wave c.args.self.now.square_sum c.numerator-low.result
slope g c = record {
  fit = c.requires.dyeings;
  denominator_is = c.requires.keeps.denominator_is;
  numerator_is = c.numerator-low.ensures.is;
  range = c.numerator-low.ensures.range;
}

pub share_down-below-requires-clause-room : goal.share_down-below-requires-clause-room
share_down-below-requires-clause-room g c = (numerators_small _ _ _ _ _ _ (slope g ((goal.at.share_down-below-requires-clause-room g c).After-numerator-low)) g.S.Scale.most).0

pub share_down-below-requires-clause-positive : goal.share_down-below-requires-clause-positive
share_down-below-requires-clause-positive g c = denominator_positive _ _ _ _ _ _ (slope g ((goal.at.share_down-below-requires-clause-positive g c).After-numerator-low))

pub share_up-above-requires-clause-room : goal.share_up-above-requires-clause-room
share_up-above-requires-clause-room g c = (numerators_small _ _ _ _ _ _ (slope g ((goal.at.share_up-above-requires-clause-room g c).After-numerator-low)) g.S.Scale.most).1

pub share_up-above-requires-clause-positive : goal.share_up-above-requires-clause-positive
share_up-above-requires-clause-positive g c = denominator_positive _ _ _ _ _ _ (slope g ((goal.at.share_up-above-requires-clause-positive g c).After-numerator-low))

ends : (g : given.Over) (c : After-share_up-above g) → IsComputed g.S.Scale.unit (line_over g.S.Scale.unit c.args.substrate.now c.args.dyeings.now c.args.wave c.args.x0 c.args.x1) c.share_down-below.result c.share_up-above.result
ends g c =
    let s : IsSlope g.S.Scale.unit c.args.substrate.now c.args.dyeings.now c.args.wave c.args.self.now.square_sum c.numerator-low.result =
    record { fit = c.requires.dyeings; denominator_is = c.requires.keeps.denominator_is; numerator_is = c.numerator-low.ensures.is; range = c.numerator-low.ensures.range } in
    line_computed _ _ _ _ _ _ s c.args.x0 c.args.x1 c.share_down-below.result c.share_up-above.result g.S.Scale.most c.requires.ordered c.requires.units c.share_down-below.ensures c.share_up-above.ensures

pub overflow_cast-below : goal.overflow_cast-below
overflow_cast-below g c = (ends g c).low_fits

pub overflow_cast-above : goal.overflow_cast-above
overflow_cast-above g c = (ends g c).high_fits

pub of_ends-requires : goal.of_ends-requires
of_ends-requires g c = let e = ends g c in held_by _ _ (line_over g.S.Scale.unit c.args.substrate.now c.args.dyeings.now c.args.wave c.args.x0 c.args.x1) e.low e.high e.is_held

pub returns-clause-is : goal.returns-clause-is
returns-clause-is g c =
    let e = ends g ((goal.at.returns-clause-is g c).After-share_up-above) in
    is_ends _ _ _ (line_over g.S.Scale.unit c.args.substrate.now c.args.dyeings.now c.args.wave c.args.x0 c.args.x1) c.of_ends.ensures.is e.low e.high

pub returns-clause-range : goal.returns-clause-range
returns-clause-range g c =
    let e = ends g ((goal.at.returns-clause-range g c).After-share_up-above) in
    carry_up_to (4 * 10 ^ 8 * g.S.Scale.unit) c.of_ends.result _ (returns-clause-is g c) e.range
