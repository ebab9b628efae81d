use Rattle.std.proofs.Common.{◌≡◌, ◌≤◌, ◌^◌, ◌∙◌, ◌*ℤ◌, pos, subst, sym, unsigned_abs, lit<, le_trans, le_refl}
use Rattle.interval_specs.specs.Ends.{magnitude_of}
use Rattle.interval_specs.specs.Rounding.{floor_over, ceil_over}
use Rattle.interval_specs.specs.Operations.{quotient_at}
use Rattle.std.specs.Int.{int_min, int_max}
use Rattle.interval_specs.proofs.Held.{held_by, is_ends}
use Rattle.interval_specs.proofs.Ranges.{held, quotient_magnitude, magnitude_of_held, lo_small, hi_small}
use Rattle.interval_specs.proofs.Laws.{quotient_lower, quotient_upper}
use Rattle.fix_bounds.proofs.Passed.{passed, read, read_product, product_fits}
use Rattle.fix_bounds.proofs.Choices.{scaled_room}
use Rattle.fix_bounds.proofs.interval.Iv.div.Given as given
use Rattle.fix_bounds.proofs.interval.Iv.div.Goals as goal
use Rattle.fix_bounds.proofs.interval.Iv.div.Goals.{After-least_quotient-least, After-greatest_quotient}

pub overflow_mul-low : goal.overflow_mul-low
overflow_mul-low g c =
    product_fits _ _ c.args.self.lo (pos g.S.Scale.unit) (10 ^ 37) (read _ _ c.lo.type_inv c.lo.ensures.is) (read _ _ c.UNIT.type_inv (c.UNIT.ensures ∙ g.S.Scale.unit_is))
    (scaled_room c.args.self.lo g.S.Scale.unit (le_trans (lo_small c.args.self) c.lo.ensures.held.small) g.S.Scale.most) (lit< tt)

pub overflow_mul-high : goal.overflow_mul-high
overflow_mul-high g c =
    product_fits _ _ c.args.self.hi (pos g.S.Scale.unit) (10 ^ 37) (read _ _ c.hi.type_inv c.hi.ensures.is) (read _ _ c.UNIT-2.type_inv (c.UNIT-2.ensures ∙ g.S.Scale.unit_is))
    (scaled_room c.args.self.hi g.S.Scale.unit (le_trans (hi_small c.args.self) c.hi.ensures.held.small) g.S.Scale.most) (lit< tt)

-- the two dividends
low_units : (g : given.Over) (c : After-least_quotient-least g) → passed (passed c.lo.result *ℤ passed c.UNIT.result) ≡ c.args.self.lo *ℤ pos g.S.Scale.unit
low_units g c =
    read_product _ _ c.args.self.lo (pos g.S.Scale.unit) (10 ^ 37) (read _ _ c.lo.type_inv c.lo.ensures.is) (read _ _ c.UNIT.type_inv (c.UNIT.ensures ∙ g.S.Scale.unit_is))
    (scaled_room c.args.self.lo g.S.Scale.unit (le_trans (lo_small c.args.self) c.lo.ensures.held.small) g.S.Scale.most) (lit< tt)

high_units : (g : given.Over) (c : After-least_quotient-least g) → passed (passed c.hi.result *ℤ passed c.UNIT-2.result) ≡ c.args.self.hi *ℤ pos g.S.Scale.unit
high_units g c =
    read_product _ _ c.args.self.hi (pos g.S.Scale.unit) (10 ^ 37) (read _ _ c.hi.type_inv c.hi.ensures.is) (read _ _ c.UNIT-2.type_inv (c.UNIT-2.ensures ∙ g.S.Scale.unit_is))
    (scaled_room c.args.self.hi g.S.Scale.unit (le_trans (hi_small c.args.self) c.hi.ensures.held.small) g.S.Scale.most) (lit< tt)

pub greatest_quotient-requires-clause-room : goal.greatest_quotient-requires-clause-room
greatest_quotient-requires-clause-room g c =
    subst (λ z. unsigned_abs z ≤ 10 ^ 37) (sym (high_units g c)) (scaled_room c.args.self.hi g.S.Scale.unit (le_trans (hi_small c.args.self) c.hi.ensures.held.small) g.S.Scale.most)

low : (g : given.Over) (c : After-greatest_quotient g) → passed c.least_quotient-least.result ≡ (quotient_at g.S.Scale.unit c.args.self c.args.by).lo
low g c =
    let d = (goal.at.of_ends-requires g c).After-least_quotient-least in
    let near = read _ _ c.lo-near.type_inv c.lo-near.ensures.is in
    let far = read _ _ c.hi-far.type_inv c.hi-far.ensures.is in
    read _ _ c.least_quotient-least.type_inv
    (c.least_quotient-least.ensures
    ∙ (λ i. int_min (floor_over (low_units g d i) (unsigned_abs (near i))) (floor_over (low_units g d i) (unsigned_abs (far i))))
    ∙ sym (quotient_lower g.S.Scale.unit c.args.self c.args.by c.requires.positive c.lo-near.ensures.held.ordered c.lo.ensures.held.ordered))

high : (g : given.Over) (c : After-greatest_quotient g) → passed c.greatest_quotient.result ≡ (quotient_at g.S.Scale.unit c.args.self c.args.by).hi
high g c =
    let d = (goal.at.of_ends-requires g c).After-least_quotient-least in
    let near = read _ _ c.lo-near.type_inv c.lo-near.ensures.is in
    let far = read _ _ c.hi-far.type_inv c.hi-far.ensures.is in
    read _ _ c.greatest_quotient.type_inv
    (c.greatest_quotient.ensures
    ∙ (λ i. int_max (ceil_over (high_units g d i) (unsigned_abs (near i))) (ceil_over (high_units g d i) (unsigned_abs (far i))))
    ∙ sym (quotient_upper g.S.Scale.unit c.args.self c.args.by c.requires.positive c.lo-near.ensures.held.ordered c.lo.ensures.held.ordered))

pub of_ends-requires : goal.of_ends-requires
of_ends-requires g c =
    let a = c.args.self in
    let b = c.args.by in
    held_by _ _ (quotient_at g.S.Scale.unit a b) (low g c) (high g c)
    (held _ (quotient_magnitude g.S.Scale.unit (10 ^ 25) (magnitude_of a) (unsigned_abs b.lo) a b c.requires.positive c.lo-near.ensures.held.ordered (le_refl (unsigned_abs b.lo)) c.requires.magnitude (magnitude_of_held a c.lo.ensures.held)))

pub returns-clause-is : goal.returns-clause-is
returns-clause-is g c =
    let d = (goal.at.returns-clause-is g c).After-greatest_quotient in
    is_ends _ _ _ (quotient_at g.S.Scale.unit c.args.self c.args.by) c.of_ends.ensures.is (low g d) (high g d)
