use Rattle.std.proofs.Common.{◌≡◌, ◌*◌, ◌/◌, ◌∙◌, pos, ap, unsigned_abs}
use Rattle.std.specs.Int.{div_ceil}
use Rattle.interval_specs.proofs.Held.{held_by, is_ends}
use Rattle.interval_specs.proofs.Ranges.{carry_up_to}
use Rattle.fix_bounds.proofs.Passed.{passed, read}
use Rattle.mix_model.specs.Reflectance.{reflectance_at}
use Rattle.mix_model.proofs.ReflectanceRanges.{IsStrength, some_units, reflectance_range, reflectance_held}
use Rattle.mix_model.proofs.DivisorEnds.{down, up}
use Rattle.mix_model.proofs.ReflectanceEnds.{lower_end, upper_end}
use Rattle.mix_model.proofs.reflectance.reflect.Given as given
use Rattle.mix_model.proofs.reflectance.reflect.Goals as goal
use Rattle.mix_model.proofs.reflectance.reflect.Goals.{After-quotient_up-high}

strength : (g : given.Over) (c : After-quotient_up-high g) → IsStrength g.S.Scale.unit c.args.q
strength g c = record { not_negative = c.requires.not_below; ordered = c.lo.ensures.held.ordered; below = c.requires.magnitude }

square : (g : given.Over) (c : After-quotient_up-high g) → c.from.result * c.from-2.result ≡ g.S.Scale.unit * g.S.Scale.unit
square g c = λ i. (c.from.ensures ∙ c.unit-parts.ensures.is) i * (c.from-2.ensures ∙ c.unit-parts.ensures.is) i

low : (g : given.Over) (c : After-quotient_up-high g) → passed (pos c.quotient-low.result) ≡ (reflectance_at g.S.Scale.unit c.args.q).lo
low g c =
    let n = g.S.Scale.unit in
    let q = c.args.q in
    let by_high : c.divisor_up-by_high.result ≡ up n (unsigned_abs q.hi) = c.divisor_up-by_high.ensures ∙ ap (λ z. up n (unsigned_abs z)) (read c.hi.result q.hi c.hi.type_inv c.hi.ensures.is) in
    lower_end n q c.quotient-low.result g.S.Scale.least g.S.Scale.most (strength g c) (c.quotient-low.ensures ∙ (λ i. square g c i / by_high i))

high : (g : given.Over) (c : After-quotient_up-high g) → passed (pos c.quotient_up-high.result) ≡ (reflectance_at g.S.Scale.unit c.args.q).hi
high g c =
    let n = g.S.Scale.unit in
    let q = c.args.q in
    let by_low : c.divisor_down-by_low.result ≡ down n (unsigned_abs q.lo) = c.divisor_down-by_low.ensures ∙ ap (λ z. down n (unsigned_abs z)) (read c.lo.result q.lo c.lo.type_inv c.lo.ensures.is) in
    upper_end n q c.quotient_up-high.result g.S.Scale.least g.S.Scale.most (strength g c) (c.quotient_up-high.ensures ∙ (λ i. div_ceil (square g c i) (by_low i)))

pub of_ends-requires : goal.of_ends-requires
of_ends-requires g c =
    held_by _ _ (reflectance_at g.S.Scale.unit c.args.q) (low g c) (high g c)
    (reflectance_held g.S.Scale.unit c.args.q (some_units g.S.Scale.unit g.S.Scale.least) g.S.Scale.most (strength g c))

pub returns-clause-is : goal.returns-clause-is
returns-clause-is g c =
    let d = (goal.at.returns-clause-is g c).After-quotient_up-high in
    is_ends _ _ _ (reflectance_at g.S.Scale.unit c.args.q) c.of_ends.ensures.is (low g d) (high g d)

pub returns-clause-range : goal.returns-clause-range
returns-clause-range g c =
    let s = strength g ((goal.at.returns-clause-range g c).After-quotient_up-high) in
    carry_up_to g.S.Scale.unit c.of_ends.result (reflectance_at g.S.Scale.unit c.args.q) (returns-clause-is g c) (reflectance_range g.S.Scale.unit c.args.q (some_units g.S.Scale.unit g.S.Scale.least) s)
