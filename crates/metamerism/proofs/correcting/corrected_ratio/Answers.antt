use Rattle.std.proofs.Common.{pos, true, false, ◌≡◌, ◌∙◌, ◌*◌, ◌*ℤ◌, ◌^◌, int_lt, refl, subst, lit<, arith}
use Rattle.std.proofs.lemmas.Int.{ints}
use Rattle.interval_specs.proofs.Held.{held_by, is_ends}
use Rattle.interval_specs.proofs.Laws.{lt_holds}
use Rattle.fix_bounds.proofs.Passed.{passed, read, read_product}
use Rattle.metamerism.specs.Correction.{any_ratio}
use Rattle.metamerism.proofs.CorrectionCalls.{any_held, any_is, carry_corrected, corrected_is, product_room, quotient_room}
use Rattle.metamerism.proofs.correcting.corrected_ratio.Given as given
use Rattle.metamerism.proofs.correcting.corrected_ratio.Goals as goal
use Rattle.metamerism.proofs.correcting.corrected_ratio.Goals.{After-UNIT, After-mul}

above : (g : given.Over) (c : After-mul g) → int_lt (pos 0) c.args.sample_first.lo ≡ true
above g c = subst (λ x. int_lt (pos 0) x ≡ true) (read _ _ c.lo.type_inv c.lo.ensures.is) c.if-lo-gt0.true

not_above : (g : given.Over) (c : After-UNIT g) → int_lt (pos 0) c.args.sample_first.lo ≡ false
not_above g c = subst (λ x. int_lt (pos 0) x ≡ false) (read _ _ c.lo.type_inv c.lo.ensures.is) c.if-lo-gt0.false

top : (g : given.Over) (c : After-UNIT g) → passed (pos 3 *ℤ passed c.UNIT.result) ≡ pos (3 * g.S.Scale.unit)
top g c =
    let unit : passed c.UNIT.result ≡ pos g.S.Scale.unit = read _ _ c.UNIT.type_inv (c.UNIT.ensures ∙ g.S.Scale.unit_is) in
    let few = g.S.Scale.most in
    read_product _ _ (pos 3) (pos g.S.Scale.unit) (3 * 10 ^ 12) refl unit (omega (arith, ints)) (lit< tt)

pub mul-requires : goal.mul-requires
mul-requires g c = product_room g.S.Scale.unit c.args.sample c.args.standard_first g.S.Scale.most c.requires.sample c.requires.standard

pub div-requires-clause-magnitude : goal.div-requires-clause-magnitude
div-requires-clause-magnitude g c =
    quotient_room g.S.Scale.unit c.args.sample c.args.standard_first c.mul.result c.args.sample_first (omega (arith, g.S.Scale.least)) g.S.Scale.most c.requires.sample c.requires.standard c.mul.ensures.is
    (lt_holds (pos 0) c.args.sample_first.lo (above g c))

pub of_ends-requires : goal.of_ends-requires
of_ends-requires g c = held_by _ _ (any_ratio g.S.Scale.unit) refl (top g c) (any_held g.S.Scale.unit g.S.Scale.most)

pub returns-then-lo-gt0-clause-is : goal.returns-then-lo-gt0-clause-is
returns-then-lo-gt0-clause-is g c =
    let d = (goal.at.returns-then-lo-gt0-clause-is g c).After-mul in
    corrected_is g.S.Scale.unit c.args.sample c.args.standard_first c.args.sample_first c.mul.result c.div.result c.cut_high.result (above g d) c.mul.ensures.is c.div.ensures.is c.cut_high.ensures.is

pub returns-then-lo-gt0-clause-range : goal.returns-then-lo-gt0-clause-range
returns-then-lo-gt0-clause-range g c =
    carry_corrected g.S.Scale.unit c.args.sample c.args.standard_first c.args.sample_first c.cut_high.result (omega (arith, g.S.Scale.least)) c.requires.sample c.requires.standard c.requires.divisor
    (returns-then-lo-gt0-clause-is g c)

pub returns-else-lo-gt0-clause-is : goal.returns-else-lo-gt0-clause-is
returns-else-lo-gt0-clause-is g c =
    let d = (goal.at.returns-else-lo-gt0-clause-is g c).After-UNIT in
    any_is g.S.Scale.unit c.args.sample c.args.standard_first c.args.sample_first c.of_ends.result (not_above g d) (is_ends _ _ _ (any_ratio g.S.Scale.unit) c.of_ends.ensures.is refl (top g d))

pub returns-else-lo-gt0-clause-range : goal.returns-else-lo-gt0-clause-range
returns-else-lo-gt0-clause-range g c =
    carry_corrected g.S.Scale.unit c.args.sample c.args.standard_first c.args.sample_first c.of_ends.result (omega (arith, g.S.Scale.least)) c.requires.sample c.requires.standard c.requires.divisor
    (returns-else-lo-gt0-clause-is g c)
