use Rattle.std.proofs.Common.{◌≡◌, ◌≤◌, ◌^◌, ◌∙◌, ◌*ℤ◌, ap, subst, sym, unsigned_abs, arith, lit<, le_refl}
use Rattle.interval_specs.specs.Ends.{magnitude_of}
use Rattle.interval_specs.specs.Rounding.{floor_over, ceil_over}
use Rattle.interval_specs.specs.Operations.{square_at, absolute_of}
use Rattle.interval_specs.proofs.Held.{held_by, is_ends}
use Rattle.interval_specs.proofs.Ranges.{held, square_magnitude}
use Rattle.interval_specs.proofs.Laws.{square_by_magnitude}
use Rattle.fix_bounds.proofs.Passed.{passed, read, read_product, product_fits}
use Rattle.fix_bounds.proofs.Choices.{unit_room, least_square_room, greatest_square_room}
use Rattle.fix_bounds.proofs.interval.Iv.square.Given as given
use Rattle.fix_bounds.proofs.interval.Iv.square.Goals as goal
use Rattle.fix_bounds.proofs.interval.Iv.square.Goals.{After-floor_unit, After-ceil_unit}

pub overflow_mul-least : goal.overflow_mul-least
overflow_mul-least g c =
    let is = read _ _ c.lo-least.type_inv (c.lo-least.ensures.is ∙ ap (λ e. e.lo) c.abs-magnitude.ensures.is) in
    product_fits _ _ _ _ (10 ^ 37) is is (least_square_room c.args.self (unit_room _ g.S.Scale.unit c.requires g.S.Scale.most)) (lit< tt)

pub overflow_mul-greatest : goal.overflow_mul-greatest
overflow_mul-greatest g c =
    let is = read _ _ c.hi-greatest.type_inv (c.hi-greatest.ensures.is ∙ ap (λ e. e.hi) c.abs-magnitude.ensures.is) in
    product_fits _ _ _ _ (10 ^ 37) is is (greatest_square_room c.args.self (unit_room _ g.S.Scale.unit c.requires g.S.Scale.most)) (lit< tt)

-- the greatest square, as it is passed on
greatest_is : (g : given.Over) (c : After-floor_unit g) → passed (passed c.hi-greatest.result *ℤ passed c.hi-greatest.result) ≡ (absolute_of c.args.self).hi *ℤ (absolute_of c.args.self).hi
greatest_is g c =
    let is = read _ _ c.hi-greatest.type_inv (c.hi-greatest.ensures.is ∙ ap (λ e. e.hi) c.abs-magnitude.ensures.is) in
    read_product _ _ _ _ (10 ^ 37) is is (greatest_square_room c.args.self (unit_room _ g.S.Scale.unit c.requires g.S.Scale.most)) (lit< tt)

pub ceil_unit-requires : goal.ceil_unit-requires
ceil_unit-requires g c =
    subst (λ z. unsigned_abs z ≤ 10 ^ 37) (sym (greatest_is g c)) (greatest_square_room c.args.self (unit_room _ g.S.Scale.unit c.requires g.S.Scale.most))

low : (g : given.Over) (c : After-ceil_unit g) → passed c.floor_unit.result ≡ (square_at g.S.Scale.unit c.args.self).lo
low g c =
    let is = read _ _ c.lo-least.type_inv (c.lo-least.ensures.is ∙ ap (λ e. e.lo) c.abs-magnitude.ensures.is) in
    read _ _ c.floor_unit.type_inv
    (c.floor_unit.ensures
    ∙ ap (λ z. floor_over z g.S.Scale.unit) (read_product _ _ _ _ (10 ^ 37) is is (least_square_room c.args.self (unit_room _ g.S.Scale.unit c.requires g.S.Scale.most)) (lit< tt))
    ∙ ap (λ e. e.lo) (sym (square_by_magnitude g.S.Scale.unit c.args.self)))

high : (g : given.Over) (c : After-ceil_unit g) → passed c.ceil_unit.result ≡ (square_at g.S.Scale.unit c.args.self).hi
high g c =
    read _ _ c.ceil_unit.type_inv
    (c.ceil_unit.ensures ∙ ap (λ z. ceil_over z g.S.Scale.unit) (greatest_is g (goal.at.of_ends-requires g c).After-floor_unit) ∙ ap (λ e. e.hi) (sym (square_by_magnitude g.S.Scale.unit c.args.self)))

pub of_ends-requires : goal.of_ends-requires
of_ends-requires g c =
    let a = c.args.self in
    held_by _ _ (square_at g.S.Scale.unit a) (low g c) (high g c)
    (held _ (square_magnitude g.S.Scale.unit (10 ^ 25) (magnitude_of a) a (omega (arith, g.S.Scale.least)) c.requires (le_refl (magnitude_of a))))

pub returns-clause-is : goal.returns-clause-is
returns-clause-is g c =
    let d = (goal.at.returns-clause-is g c).After-ceil_unit in
    is_ends _ _ _ (square_at g.S.Scale.unit c.args.self) c.of_ends.ensures.is (low g d) (high g d)
