use Rattle.std.proofs.Common.{◌≡◌, ◌+◌, ◌*◌, ◌≤◌, ◌^◌, ◌∙◌, ap, arith, subst, sym}
use Rattle.std.specs.Int.{div_ceil}
use Rattle.interval_specs.specs.Roots.{square, root_above}
use Rattle.interval_specs.proofs.Roots.{square_power, above_is}
use Rattle.mix_model.proofs.DivisorEnds.{radicand_up, radicand_up_small, root_above_small}
use Rattle.mix_model.proofs.reflectance.divisor_up.Given as given
use Rattle.mix_model.proofs.reflectance.divisor_up.Goals as goal
use Rattle.mix_model.proofs.reflectance.divisor_up.Goals.{After-sqrt_ceil-root}

root : (g : given.Over) (c : After-sqrt_ceil-root g) → c.sqrt_ceil-root.result ≡ root_above square (radicand_up g.S.Scale.unit c.args.q * g.S.Scale.unit)
root g c =
    let n = g.S.Scale.unit in
    let over = c.over_unit_up.ensures ∙ (λ i. div_ceil (c.from-strength.ensures i * c.from-strength.ensures i) n) in
    let x = (c.over_unit_up.result + 2 * c.from-strength.result) * c.from.result in
    let is : x ≡ radicand_up n c.args.q * n = λ i. (over i + 2 * c.from-strength.ensures i) * (c.from.ensures ∙ c.unit.ensures.is) i in
    above_is square square_power x c.sqrt_ceil-root.result c.sqrt_ceil-root.ensures.fits c.sqrt_ceil-root.ensures.least ∙ ap (root_above square) is

root_small : (g : given.Over) (c : After-sqrt_ceil-root g) → c.sqrt_ceil-root.result ≤ 3 * 10 ^ 6 * g.S.Scale.unit
root_small g c =
    let n = g.S.Scale.unit in
    subst (λ r. r ≤ 3 * 10 ^ 6 * n) (sym (root g c)) (root_above_small n (radicand_up n c.args.q) (radicand_up_small n c.args.q (omega (arith, g.S.Scale.least)) c.requires))

pub overflow_cast-result : goal.overflow_cast-result
overflow_cast-result g c = let s = root_small g ((goal.at.overflow_cast-result g c).After-sqrt_ceil-root) in omega (arith, g.S.Scale.most)

pub overflow_add-result-2 : goal.overflow_add-result-2
overflow_add-result-2 g c = let s = root_small g ((goal.at.overflow_add-result-2 g c).After-sqrt_ceil-root) in omega (arith, g.S.Scale.most)

pub returns : goal.returns
returns g c = let r = root g ((goal.at.returns g c).After-sqrt_ceil-root) in λ i. c.unit-2.ensures.is i + c.args.q + r i
