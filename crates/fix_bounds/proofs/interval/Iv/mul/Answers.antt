use Rattle.std.proofs.Common.{◌≡◌, ◌≤◌, ◌^◌, ◌∙◌, ap, subst, sym, unsigned_abs, arith, lit<}
use Rattle.interval_specs.specs.Ends.{magnitude_of}
use Rattle.interval_specs.specs.Rounding.{floor_over, ceil_over}
use Rattle.interval_specs.specs.Operations.{product_at, least_product, greatest_product}
use Rattle.interval_specs.proofs.Held.{held_by, is_ends}
use Rattle.interval_specs.proofs.Ranges.{held, product_magnitude, magnitude_of_held}
use Rattle.fix_bounds.proofs.Passed.{passed, read, settled}
use Rattle.fix_bounds.proofs.Choices.{least_room, greatest_room, unit_room}
use Rattle.fix_bounds.proofs.interval.Iv.mul.Given as given
use Rattle.fix_bounds.proofs.interval.Iv.mul.Goals as goal
use Rattle.fix_bounds.proofs.interval.Iv.mul.Goals.{After-floor_unit, After-ceil_unit}

-- the greatest product, as it is passed on
greatest_is : (g : given.Over) (c : After-floor_unit g) → passed c.products-least.result.1 ≡ greatest_product c.args.self c.args.other
greatest_is g c = settled _ _ (10 ^ 37) c.products-least.ensures.greatest (greatest_room c.args.self c.args.other (unit_room _ g.S.Scale.unit c.requires g.S.Scale.most)) (lit< tt)

pub ceil_unit-requires : goal.ceil_unit-requires
ceil_unit-requires g c =
    subst (λ z. unsigned_abs z ≤ 10 ^ 37) (sym (greatest_is g c)) (greatest_room c.args.self c.args.other (unit_room _ g.S.Scale.unit c.requires g.S.Scale.most))

low : (g : given.Over) (c : After-ceil_unit g) → passed c.floor_unit.result ≡ floor_over (least_product c.args.self c.args.other) g.S.Scale.unit
low g c =
    read _ _ c.floor_unit.type_inv
    (c.floor_unit.ensures
    ∙ ap (λ z. floor_over z g.S.Scale.unit) (settled _ _ (10 ^ 37) c.products-least.ensures.least (least_room c.args.self c.args.other (unit_room _ g.S.Scale.unit c.requires g.S.Scale.most)) (lit< tt)))

high : (g : given.Over) (c : After-ceil_unit g) → passed c.ceil_unit.result ≡ ceil_over (greatest_product c.args.self c.args.other) g.S.Scale.unit
high g c = read _ _ c.ceil_unit.type_inv (c.ceil_unit.ensures ∙ ap (λ z. ceil_over z g.S.Scale.unit) (greatest_is g (goal.at.of_ends-requires g c).After-floor_unit))

pub of_ends-requires : goal.of_ends-requires
unfolding product_at
of_ends-requires g c =
    let a = c.args.self in
    let b = c.args.other in
    held_by _ _ (product_at g.S.Scale.unit a b) (low g c) (high g c)
    (held _ (product_magnitude g.S.Scale.unit (10 ^ 25) (magnitude_of a) (magnitude_of b) a b (omega (arith, g.S.Scale.least)) c.requires
    (magnitude_of_held a c.products-least.ensures.first_held) (magnitude_of_held b c.products-least.ensures.second_held)))

pub returns-clause-is : goal.returns-clause-is
unfolding product_at
returns-clause-is g c =
    let d = (goal.at.returns-clause-is g c).After-ceil_unit in
    is_ends _ _ _ (product_at g.S.Scale.unit c.args.self c.args.other) c.of_ends.ensures.is (low g d) (high g d)
