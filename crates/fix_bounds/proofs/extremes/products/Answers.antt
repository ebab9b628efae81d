use Rattle.std.proofs.Common.{◌≡◌, ◌^◌, ◌∙◌, ◌*ℤ◌, sym, lit<}
use Rattle.interval_specs.proofs.Order.{least_corner, greatest_corner}
use Rattle.fix_bounds.proofs.Passed.{passed, read, read_product, product_fits, read_min, read_max}
use Rattle.fix_bounds.proofs.Choices.{known_not_negative, low_low, low_high, high_low, high_high}
use Rattle.fix_bounds.proofs.extremes.products.Given as given
use Rattle.fix_bounds.proofs.extremes.products.Goals as goal
use Rattle.fix_bounds.proofs.extremes.products.Goals.{Then-c-ge0, After-max-3}

pub overflow_mul-p : goal.overflow_mul-p
overflow_mul-p g c =
    product_fits _ _ c.args.first.lo c.args.second.lo (10 ^ 37) (read _ _ c.lo-a.type_inv c.lo-a.ensures.is) (read _ _ c.lo-c.type_inv c.lo-c.ensures.is) (low_low c.args.first c.args.second c.requires) (lit< tt)

pub overflow_mul-q : goal.overflow_mul-q
overflow_mul-q g c =
    product_fits _ _ c.args.first.lo c.args.second.hi (10 ^ 37) (read _ _ c.lo-a.type_inv c.lo-a.ensures.is) (read _ _ c.hi-d.type_inv c.hi-d.ensures.is) (low_high c.args.first c.args.second c.requires) (lit< tt)

pub overflow_mul-r : goal.overflow_mul-r
overflow_mul-r g c =
    product_fits _ _ c.args.first.hi c.args.second.lo (10 ^ 37) (read _ _ c.hi-b.type_inv c.hi-b.ensures.is) (read _ _ c.lo-c.type_inv c.lo-c.ensures.is) (high_low c.args.first c.args.second c.requires) (lit< tt)

pub overflow_mul-s : goal.overflow_mul-s
overflow_mul-s g c =
    product_fits _ _ c.args.first.hi c.args.second.hi (10 ^ 37) (read _ _ c.hi-b.type_inv c.hi-b.ensures.is) (read _ _ c.hi-d.type_inv c.hi-d.ensures.is) (high_high c.args.first c.args.second c.requires) (lit< tt)

-- where no end is below 0, the products of the lower ends and of the upper ends
pub returns-then-c-ge0-clause-least : goal.returns-then-c-ge0-clause-least
returns-then-c-ge0-clause-least g c =
    read_product _ _ c.args.first.lo c.args.second.lo (10 ^ 37) (read _ _ c.lo-a.type_inv c.lo-a.ensures.is) (read _ _ c.lo-c.type_inv c.lo-c.ensures.is) (low_low c.args.first c.args.second c.requires) (lit< tt)
    ∙ sym (least_corner c.args.first.lo c.args.first.hi c.args.second.lo c.args.second.hi
    (known_not_negative _ _ (read _ _ c.lo-a.type_inv c.lo-a.ensures.is) c.if-a-ge0.true) c.lo-a.ensures.held.ordered
    (known_not_negative _ _ (read _ _ c.lo-c.type_inv c.lo-c.ensures.is) c.if-c-ge0.true) c.lo-c.ensures.held.ordered)

pub returns-then-c-ge0-clause-greatest : goal.returns-then-c-ge0-clause-greatest
returns-then-c-ge0-clause-greatest g c =
    read_product _ _ c.args.first.hi c.args.second.hi (10 ^ 37) (read _ _ c.hi-b.type_inv c.hi-b.ensures.is) (read _ _ c.hi-d.type_inv c.hi-d.ensures.is) (high_high c.args.first c.args.second c.requires) (lit< tt)
    ∙ sym (greatest_corner c.args.first.lo c.args.first.hi c.args.second.lo c.args.second.hi
    (known_not_negative _ _ (read _ _ c.lo-a.type_inv c.lo-a.ensures.is) c.if-a-ge0.true) c.lo-a.ensures.held.ordered
    (known_not_negative _ _ (read _ _ c.lo-c.type_inv c.lo-c.ensures.is) c.if-c-ge0.true) c.lo-c.ensures.held.ordered)

-- the four products
p_is : (g : given.Over) (c : After-max-3 g) → passed (passed c.lo-a.result *ℤ passed c.lo-c.result) ≡ c.args.first.lo *ℤ c.args.second.lo
p_is g c =
    read_product _ _ c.args.first.lo c.args.second.lo (10 ^ 37) (read _ _ c.lo-a.type_inv c.lo-a.ensures.is) (read _ _ c.lo-c.type_inv c.lo-c.ensures.is) (low_low c.args.first c.args.second c.requires) (lit< tt)

q_is : (g : given.Over) (c : After-max-3 g) → passed (passed c.lo-a.result *ℤ passed c.hi-d.result) ≡ c.args.first.lo *ℤ c.args.second.hi
q_is g c =
    read_product _ _ c.args.first.lo c.args.second.hi (10 ^ 37) (read _ _ c.lo-a.type_inv c.lo-a.ensures.is) (read _ _ c.hi-d.type_inv c.hi-d.ensures.is) (low_high c.args.first c.args.second c.requires) (lit< tt)

r_is : (g : given.Over) (c : After-max-3 g) → passed (passed c.hi-b.result *ℤ passed c.lo-c.result) ≡ c.args.first.hi *ℤ c.args.second.lo
r_is g c =
    read_product _ _ c.args.first.hi c.args.second.lo (10 ^ 37) (read _ _ c.hi-b.type_inv c.hi-b.ensures.is) (read _ _ c.lo-c.type_inv c.lo-c.ensures.is) (high_low c.args.first c.args.second c.requires) (lit< tt)

s_is : (g : given.Over) (c : After-max-3 g) → passed (passed c.hi-b.result *ℤ passed c.hi-d.result) ≡ c.args.first.hi *ℤ c.args.second.hi
s_is g c =
    read_product _ _ c.args.first.hi c.args.second.hi (10 ^ 37) (read _ _ c.hi-b.type_inv c.hi-b.ensures.is) (read _ _ c.hi-d.type_inv c.hi-d.ensures.is) (high_high c.args.first c.args.second c.requires) (lit< tt)

pub returns-clause-least : goal.returns-clause-least
returns-clause-least g c =
    read_min _ _ _ _ _ c.min-3.type_inv c.min-3.ensures.value
    (read_min _ _ _ _ _ c.min.type_inv c.min.ensures.value (p_is g c) (q_is g c))
    (read_min _ _ _ _ _ c.min-2.type_inv c.min-2.ensures.value (r_is g c) (s_is g c))

pub returns-clause-greatest : goal.returns-clause-greatest
returns-clause-greatest g c =
    read_max _ _ _ _ _ c.max-3.type_inv c.max-3.ensures.value
    (read_max _ _ _ _ _ c.max.type_inv c.max.ensures.value (p_is g c) (q_is g c))
    (read_max _ _ _ _ _ c.max-2.type_inv c.max-2.ensures.value (r_is g c) (s_is g c))
