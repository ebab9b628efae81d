use Rattle.std.proofs.Common.{◌≡◌, ◌^◌, ◌∙◌, ◌*ℤ◌, pos, lit<}
use Rattle.std.specs.Int.{int_min}
use Rattle.interval_specs.specs.Operations.{cut_high_at}
use Rattle.interval_specs.proofs.Held.{held_by, is_ends}
use Rattle.interval_specs.proofs.Ranges.{held, cut_high_magnitude, of_held}
use Rattle.fix_bounds.proofs.Passed.{passed, read, widened, read_min, read_product, product_fits}
use Rattle.fix_bounds.proofs.Levels.{level_small, level_room}
use Rattle.fix_bounds.proofs.interval.Iv.cut_high.Given as given
use Rattle.fix_bounds.proofs.interval.Iv.cut_high.Goals as goal
use Rattle.fix_bounds.proofs.interval.Iv.cut_high.Goals.{After-min-2}

pub overflow_mul-level : goal.overflow_mul-level
overflow_mul-level g c =
    product_fits _ _ c.args.k (pos g.S.Scale.unit) (10 ^ 18) (widened _ _ c.from.type_inv c.ranges.k c.from.ensures) (read _ _ c.UNIT.type_inv (c.UNIT.ensures ∙ g.S.Scale.unit_is))
    (level_small c.args.k g.S.Scale.unit c.requires g.S.Scale.most) (lit< tt)

-- the level of the cut
level : (g : given.Over) (c : After-min-2 g) → passed (passed c.from.result *ℤ passed c.UNIT.result) ≡ c.args.k *ℤ pos g.S.Scale.unit
level g c =
    read_product _ _ c.args.k (pos g.S.Scale.unit) (10 ^ 18) (widened _ _ c.from.type_inv c.ranges.k c.from.ensures) (read _ _ c.UNIT.type_inv (c.UNIT.ensures ∙ g.S.Scale.unit_is))
    (level_small c.args.k g.S.Scale.unit c.requires g.S.Scale.most) (lit< tt)

low : (g : given.Over) (c : After-min-2 g) → passed c.min.result ≡ int_min c.args.self.lo (c.args.k *ℤ pos g.S.Scale.unit)
low g c = read_min _ _ _ _ _ c.min.type_inv c.min.ensures.value (read _ _ c.lo.type_inv c.lo.ensures.is) (level g c)

high : (g : given.Over) (c : After-min-2 g) → passed c.min-2.result ≡ int_min c.args.self.hi (c.args.k *ℤ pos g.S.Scale.unit)
high g c = read_min _ _ _ _ _ c.min-2.type_inv c.min-2.ensures.value (read _ _ c.hi.type_inv c.hi.ensures.is) (level g c)

pub of_ends-requires : goal.of_ends-requires
unfolding cut_high_at
of_ends-requires g c =
    held_by _ _ (cut_high_at g.S.Scale.unit c.args.k c.args.self) (low g c) (high g c)
    (held _ (cut_high_magnitude g.S.Scale.unit (10 ^ 25) c.args.k c.args.self (level_room c.args.k g.S.Scale.unit c.requires g.S.Scale.most) (of_held c.args.self c.lo.ensures.held)))

pub returns-clause-is : goal.returns-clause-is
unfolding cut_high_at
returns-clause-is g c =
    let d = (goal.at.returns-clause-is g c).After-min-2 in
    is_ends _ _ _ (cut_high_at g.S.Scale.unit c.args.k c.args.self) c.of_ends.ensures.is (low g d) (high g d)
