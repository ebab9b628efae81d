use Rattle.std.proofs.Common.{subst, sym, FitsSigned, arith}
use Rattle.std.proofs.lemmas.Int.{ints}
use Rattle.std.specs.Int.{w128}
use Rattle.fix_bounds.proofs.Rounding.{Given, passed_product, product_room, floor_room, next_is, here_is}
use Rattle.fix_bounds.proofs.rounds.ceil_after.Goals as goal
use Rattle.fix_bounds.proofs.rounds.ceil_after.Goals.{Start}

given : (c : Start) → Given c.args.floor c.args.z c.args.n
given c =
    record {
      f_fits = c.ranges.floor;
      z_fits = c.ranges.z;
      n_fits = c.ranges.n;
      positive = c.requires.positive;
      room = c.requires.room;
      from_floor = c.requires.from_floor;
    }

pub overflow_mul-floor : goal.overflow_mul-floor
overflow_mul-floor c =
    subst (λ x. FitsSigned w128 x) (sym (passed_product c.args.floor c.args.n c.ranges.floor c.ranges.n)) (product_room c.args.floor c.args.z c.args.n (given c))

pub overflow_add-result : goal.overflow_add-result
overflow_add-result c = let k = floor_room c.args.floor c.args.z c.args.n (given (goal.at.overflow_add-result c).Start) in omega (arith, ints)

pub returns-then-floor-n : goal.returns-then-floor-n
returns-then-floor-n c = next_is c.args.floor c.args.z c.args.n (given (goal.at.returns-then-floor-n c).Start) c.if-floor-n.true

pub returns-else-floor-n : goal.returns-else-floor-n
returns-else-floor-n c = here_is c.args.floor c.args.z c.args.n (given (goal.at.returns-else-floor-n c).Start) c.if-floor-n.false
