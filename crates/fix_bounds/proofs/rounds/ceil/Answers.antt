use Rattle.std.proofs.Common.{◌≡◌, ◌^◌, ◌∙◌, neg_ℤ, unsigned_abs, lit<}
use Rattle.std.proofs.lemmas.Int.{to_z-of_z}
use Rattle.std.specs.Int.{w128}
use Rattle.interval_specs.specs.Rounding.{floor_over}
use Rattle.interval_specs.proofs.Order.{magnitude_positive}
use Rattle.fix_bounds.proofs.Passed.{passed, read, read_neg}
use Rattle.fix_bounds.proofs.UnitFloor.{ceil_fits, ceil_is}
use Rattle.fix_bounds.proofs.rounds.ceil.Goals as goal
use Rattle.fix_bounds.proofs.rounds.ceil.Goals.{After-floor}

floor_is : (c : After-floor) → passed c.floor.result ≡ floor_over (neg_ℤ c.args.z) (unsigned_abs c.args.n)
floor_is c =
    read _ _ c.floor.type_inv
    (c.floor.ensures ∙ (λ i. floor_over (read_neg _ _ (10 ^ 37) (to_z-of_z w128 c.args.z c.ranges.z) c.requires.room (lit< tt) i) (unsigned_abs (to_z-of_z w128 c.args.n c.ranges.n i))))

pub overflow_sub-result : goal.overflow_sub-result
overflow_sub-result c = ceil_fits c.args.z _ (unsigned_abs c.args.n) (magnitude_positive c.args.n c.requires.positive) c.requires.room (floor_is c)

pub returns : goal.returns
returns c = ceil_is c.args.z _ (unsigned_abs c.args.n) (magnitude_positive c.args.n c.requires.positive) c.requires.room (floor_is c)
