use Rattle.std.proofs.Common.{◌≡◌, pos, ◌*◌, unsigned_abs, arith}
use Rattle.std.specs.Int.{w128}
use mir.Val.{to_z}
use Rattle.interval_specs.specs.Roots.{square, root_below, root_above, sqrt_at}
use Rattle.interval_specs.proofs.Held.{held_by, is_ends, sqrt_held}
use Rattle.interval_specs.proofs.Roots.{square_power}
use Rattle.root_bounds.proofs.RootEnds.{low_end, high_end, radicand_is}
use Rattle.root_bounds.proofs.interval.sqrt_iv.Given as given
use Rattle.root_bounds.proofs.interval.sqrt_iv.Goals as goal
use Rattle.root_bounds.proofs.interval.sqrt_iv.Goals.{After-sqrt_above_end-above}

low : (g : given.Over) (c : After-sqrt_above_end-above g) → to_z w128 c.sqrt_floor-below.result ≡ pos (root_below square (unsigned_abs c.args.x.lo * g.S.Scale.unit))
low g c =
    low_end square square_power c.sqrt_floor-below.result c.times_unit-low.result _ (omega (arith, c.sqrt_floor-below.ensures.small))
    (radicand_is c.times_unit-low.result (g.S.Scale.unit) c.lo.result c.args.x.lo c.lo.type_inv c.lo.ensures.is c.times_unit-low.ensures)
    c.sqrt_floor-below.ensures.fits c.sqrt_floor-below.ensures.greatest

high : (g : given.Over) (c : After-sqrt_above_end-above g) → to_z w128 c.sqrt_above_end-above.result ≡ pos (root_above square (unsigned_abs c.args.x.hi * g.S.Scale.unit))
high g c =
    high_end square square_power c.sqrt_above_end-above.result c.times_unit-high.result _ (omega (arith, c.sqrt_above_end-above.ensures.small))
    (radicand_is c.times_unit-high.result (g.S.Scale.unit) c.hi.result c.args.x.hi c.hi.type_inv c.hi.ensures.is c.times_unit-high.ensures)
    c.sqrt_above_end-above.ensures.fits c.sqrt_above_end-above.ensures.least

pub of_ends-requires : goal.of_ends-requires
unfolding sqrt_at
of_ends-requires g c = held_by _ _ (sqrt_at g.S.Scale.unit c.args.x) (low g c) (high g c) (sqrt_held g.S.Scale.unit c.args.x g.S.Scale.most c.requires c.lo.ensures.held)

pub returns-clause-is : goal.returns-clause-is
unfolding sqrt_at
returns-clause-is g c =
    let d = (goal.at.returns-clause-is g c).After-sqrt_above_end-above in
    is_ends _ _ _ (sqrt_at g.S.Scale.unit c.args.x) c.of_ends.ensures.is (low g d) (high g d)
