use Rattle.std.proofs.Common.{◌≡◌, ◌^◌, ◌∙◌, neg_ℤ, lit<, arith}
use Rattle.std.proofs.lemmas.Int.{to_z-of_z}
use Rattle.std.specs.Int.{w128}
use Rattle.interval_specs.specs.Rounding.{floor_over}
use Rattle.fix_bounds.proofs.Passed.{passed, read, read_neg}
use Rattle.fix_bounds.proofs.UnitFloor.{ceil_fits, ceil_is}
use Rattle.fix_bounds.proofs.digits.ceil_unit.Given as given
use Rattle.fix_bounds.proofs.digits.ceil_unit.Goals as goal
use Rattle.fix_bounds.proofs.digits.ceil_unit.Goals.{After-floor_unit}

floor_is : (g : given.Over) (c : After-floor_unit g) → passed c.floor_unit.result ≡ floor_over (neg_ℤ c.args.z) g.S.Scale.unit
floor_is g c =
    read _ _ c.floor_unit.type_inv (c.floor_unit.ensures ∙ (λ i. floor_over (read_neg _ _ (10 ^ 37) (to_z-of_z w128 c.args.z c.ranges.z) c.requires (lit< tt) i) g.S.Scale.unit))

pub overflow_sub-result : goal.overflow_sub-result
overflow_sub-result g c = ceil_fits c.args.z _ g.S.Scale.unit (omega (arith, g.S.Scale.least)) c.requires (floor_is g c)

pub returns : goal.returns
returns g c = ceil_is c.args.z _ g.S.Scale.unit (omega (arith, g.S.Scale.least)) c.requires (floor_is g c)
