use Rattle.std.proofs.Common.{◌≡◌, ◌+ℤ◌, ◌-ℤ◌}
use Rattle.interval_specs.proofs.Held.{held_by, is_ends}
use Rattle.fix_bounds.proofs.Passed.{passed}
use Rattle.mix_model.specs.Narrowing.{replaced}
use Rattle.mix_model.proofs.Moved.{high_small, low_small, moved_fits, moved_is, within_held}
use Rattle.mix_model.proofs.sums.replaced.Given as given
use Rattle.mix_model.proofs.sums.replaced.Goals as goal
use Rattle.mix_model.proofs.sums.replaced.Goals.{After-hi-3}

low : (g : given.Over) (c : After-hi-3 g) → passed (passed (passed c.lo.result -ℤ passed c.lo-2.result) +ℤ passed c.lo-3.result) ≡ (replaced c.args.sum c.args.old c.args.new).lo
unfolding replaced
low g c =
    moved_is c.lo.result c.lo-2.result c.lo-3.result _ _ _ c.lo.type_inv c.lo-2.type_inv c.lo-3.type_inv c.lo.ensures.is c.lo-2.ensures.is c.lo-3.ensures.is
    (low_small _ c.lo.ensures.held) (low_small _ c.lo-2.ensures.held) (low_small _ c.lo-3.ensures.held)

high : (g : given.Over) (c : After-hi-3 g) → passed (passed (passed c.hi.result -ℤ passed c.hi-2.result) +ℤ passed c.hi-3.result) ≡ (replaced c.args.sum c.args.old c.args.new).hi
unfolding replaced
high g c =
    moved_is c.hi.result c.hi-2.result c.hi-3.result _ _ _ c.hi.type_inv c.hi-2.type_inv c.hi-3.type_inv c.hi.ensures.is c.hi-2.ensures.is c.hi-3.ensures.is
    (high_small _ c.hi.ensures.held) (high_small _ c.hi-2.ensures.held) (high_small _ c.hi-3.ensures.held)

pub overflow_add-lo : goal.overflow_add-lo
overflow_add-lo g c =
    moved_fits c.lo.result c.lo-2.result c.lo-3.result _ _ _ c.lo.type_inv c.lo-2.type_inv c.lo-3.type_inv c.lo.ensures.is c.lo-2.ensures.is c.lo-3.ensures.is
    (low_small _ c.lo.ensures.held) (low_small _ c.lo-2.ensures.held) (low_small _ c.lo-3.ensures.held)

pub overflow_add-hi : goal.overflow_add-hi
overflow_add-hi g c =
    moved_fits c.hi.result c.hi-2.result c.hi-3.result _ _ _ c.hi.type_inv c.hi-2.type_inv c.hi-3.type_inv c.hi.ensures.is c.hi-2.ensures.is c.hi-3.ensures.is
    (high_small _ c.hi.ensures.held) (high_small _ c.hi-2.ensures.held) (high_small _ c.hi-3.ensures.held)

pub of_ends-requires : goal.of_ends-requires
of_ends-requires g c =
    let d = (goal.at.of_ends-requires g c).After-hi-3 in
    held_by _ _ (replaced c.args.sum c.args.old c.args.new) (low g d) (high g d) (within_held c.args.sum (replaced c.args.sum c.args.old c.args.new) c.lo.ensures.held c.requires)

pub returns : goal.returns
returns g c =
    let d = (goal.at.returns g c).After-hi-3 in
    is_ends _ _ _ (replaced c.args.sum c.args.old c.args.new) c.of_ends.ensures.is (low g d) (high g d)
