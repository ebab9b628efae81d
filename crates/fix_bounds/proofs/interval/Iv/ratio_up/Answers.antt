use Rattle.std.proofs.Common.{◌≡◌, ◌^◌, ◌∙◌, ◌*ℤ◌, pos, unsigned_abs, lit<}
use Rattle.interval_specs.specs.Rounding.{floor_over, ceil_over}
use Rattle.interval_specs.specs.Operations.{fraction_of}
use Rattle.fix_bounds.proofs.Passed.{passed, read, read_product, product_fits}
use Rattle.fix_bounds.proofs.Rounded.{can_round, fraction_rounds, low_fraction_room, high_fraction_room}
use Rattle.fix_bounds.proofs.interval.Iv.ratio_up.Given as given
use Rattle.fix_bounds.proofs.interval.Iv.ratio_up.Goals as goal
use Rattle.fix_bounds.proofs.interval.Iv.ratio_up.Goals.{After-from-3}

pub overflow_mul-low : goal.overflow_mul-low
overflow_mul-low g c =
    product_fits _ _ c.args.self.lo (pos c.args.num) (10 ^ 37) (read _ _ c.lo.type_inv c.lo.ensures.is) (read _ _ c.from.type_inv c.from.ensures) (low_fraction_room c.args.num c.args.self c.requires.room) (lit< tt)

pub overflow_mul-high : goal.overflow_mul-high
overflow_mul-high g c =
    product_fits _ _ c.args.self.hi (pos c.args.num) (10 ^ 37) (read _ _ c.hi.type_inv c.hi.ensures.is) (read _ _ c.from-2.type_inv c.from-2.ensures) (high_fraction_room c.args.num c.args.self c.requires.room) (lit< tt)

-- the two dividends
low : (g : given.Over) (c : After-from-3 g) → passed (passed c.lo.result *ℤ passed c.from.result) ≡ c.args.self.lo *ℤ pos c.args.num
low g c =
    read_product _ _ c.args.self.lo (pos c.args.num) (10 ^ 37) (read _ _ c.lo.type_inv c.lo.ensures.is) (read _ _ c.from.type_inv c.from.ensures) (low_fraction_room c.args.num c.args.self c.requires.room) (lit< tt)

high : (g : given.Over) (c : After-from-3 g) → passed (passed c.hi.result *ℤ passed c.from-2.result) ≡ c.args.self.hi *ℤ pos c.args.num
high g c =
    read_product _ _ c.args.self.hi (pos c.args.num) (10 ^ 37) (read _ _ c.hi.type_inv c.hi.ensures.is) (read _ _ c.from-2.type_inv c.from-2.ensures) (high_fraction_room c.args.num c.args.self c.requires.room) (lit< tt)

pub rounded-requires : goal.rounded-requires
rounded-requires g c =
    can_round _ _ _ _ _ _ (low g c) (high g c) (read _ _ c.from-3.type_inv c.from-3.ensures)
    (fraction_rounds c.args.num c.args.den c.args.self c.lo.ensures.held c.requires.positive c.requires.room c.requires.magnitude)

pub returns-clause-is : goal.returns-clause-is
unfolding fraction_of
returns-clause-is g c =
    let d = (goal.at.returns-clause-is g c).After-from-3 in
    let by = read _ _ c.from-3.type_inv c.from-3.ensures in
    c.rounded.ensures.is ∙ (λ i. record { lo = floor_over (low g d i) (unsigned_abs (by i)); hi = ceil_over (high g d i) (unsigned_abs (by i)) })
