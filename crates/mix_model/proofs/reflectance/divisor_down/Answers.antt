use Rattle.std.proofs.Common.{◌≡◌, ◌+◌, ◌*◌, ◌/◌, ◌∙◌, ap}
use Rattle.interval_specs.specs.Roots.{square, root_below}
use Rattle.interval_specs.proofs.Roots.{square_power, below_is}
use Rattle.mix_model.proofs.DivisorEnds.{radicand_down}
use Rattle.mix_model.proofs.reflectance.divisor_down.Goals as goal

pub returns : goal.returns
returns g c =
    let n = g.S.Scale.unit in
    let q = c.args.q in
    let over = c.over_unit.ensures ∙ (λ i. c.from-strength.ensures i * c.from-strength.ensures i / n) in
    let x = (c.over_unit.result + 2 * c.from-strength.result) * c.from.result in
    let is : x ≡ radicand_down n q * n = λ i. (over i + 2 * c.from-strength.ensures i) * (c.from.ensures ∙ c.unit.ensures.is) i in
    let root = below_is square square_power x c.sqrt_floor-root.result c.sqrt_floor-root.ensures.fits c.sqrt_floor-root.ensures.greatest ∙ ap (root_below square) is in
    λ i. c.unit-2.ensures.is i + q + root i
