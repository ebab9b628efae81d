use Rattle.std.proofs.Common.{◌≡◌, ◌^◌, ◌∙◌, ◌*ℤ◌, pos, unsigned_abs, lit<}
use Rattle.std.proofs.lemmas.Int.{to_z-of_z}
use Rattle.std.specs.Int.{w128}
use Rattle.interval_specs.specs.Rounding.{floor_over, ceil_over}
use Rattle.interval_specs.specs.Operations.{ratio_at}
use Rattle.fix_bounds.proofs.Passed.{passed, read, read_product}
use Rattle.fix_bounds.proofs.Rounded.{can_round, ratio_rounds, units_room}
use Rattle.fix_bounds.proofs.interval.Iv.of_ratio.Given as given
use Rattle.fix_bounds.proofs.interval.Iv.of_ratio.Goals as goal
use Rattle.fix_bounds.proofs.interval.Iv.of_ratio.Goals.{After-UNIT}

-- the units that are divided
units : (g : given.Over) (c : After-UNIT g) → passed (passed c.args.p *ℤ passed c.UNIT.result) ≡ c.args.p *ℤ pos g.S.Scale.unit
units g c =
    read_product _ _ c.args.p (pos g.S.Scale.unit) (10 ^ 37) (to_z-of_z w128 c.args.p c.ranges.p) (read _ _ c.UNIT.type_inv (c.UNIT.ensures ∙ g.S.Scale.unit_is))
    (units_room c.args.p g.S.Scale.unit c.requires.room) (lit< tt)

pub rounded-requires : goal.rounded-requires
rounded-requires g c =
    can_round _ _ _ _ _ _ (units g c) (units g c) (to_z-of_z w128 c.args.q c.ranges.q) (ratio_rounds g.S.Scale.unit c.args.p c.args.q c.requires.positive c.requires.room c.requires.magnitude)

pub returns-clause-is : goal.returns-clause-is
unfolding ratio_at
returns-clause-is g c =
    let d = (goal.at.returns-clause-is g c).After-UNIT in
    c.rounded.ensures.is
    ∙ (λ i. record {
      lo = floor_over (units g d i) (unsigned_abs (to_z-of_z w128 c.args.q c.ranges.q i));
      hi = ceil_over (units g d i) (unsigned_abs (to_z-of_z w128 c.args.q c.ranges.q i));
    })
