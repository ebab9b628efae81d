use Rattle.std.proofs.Common.{pos}
use Rattle.interval_specs.specs.Rounding.{floor_over, ceil_over}
use Rattle.interval_specs.proofs.Held.{held_by, is_ends}
use Rattle.interval_specs.proofs.Rounds.{floor_of_natural, ceil_of_natural}
use Rattle.cmc_bounds.proofs.Outward.{low_fits, high_fits, low_reads, high_reads}
use Rattle.cmc_bounds.proofs.quotient.outward.Goals as goal

pub overflow_cast-below : goal.overflow_cast-below
overflow_cast-below g c = low_fits _ _ c.requires.held (floor_of_natural c.args.low.numerator c.args.low.denominator)

pub overflow_cast-above : goal.overflow_cast-above
overflow_cast-above g c = high_fits _ _ c.requires.held (ceil_of_natural c.args.high.numerator c.args.high.denominator c.div_ceil-above.result c.requires.high c.div_ceil-above.ensures)

pub of_ends-requires : goal.of_ends-requires
of_ends-requires g c =
    held_by _ _ (record { lo = floor_over (pos c.args.low.numerator) c.args.low.denominator; hi = ceil_over (pos c.args.high.numerator) c.args.high.denominator })
    (low_reads _ _ c.requires.held (floor_of_natural c.args.low.numerator c.args.low.denominator))
    (high_reads _ _ c.requires.held (ceil_of_natural c.args.high.numerator c.args.high.denominator c.div_ceil-above.result c.requires.high c.div_ceil-above.ensures))
    c.requires.held

pub returns-clause-is : goal.returns-clause-is
returns-clause-is g c =
    is_ends _ _ _ (record { lo = floor_over (pos c.args.low.numerator) c.args.low.denominator; hi = ceil_over (pos c.args.high.numerator) c.args.high.denominator }) c.of_ends.ensures.is
    (low_reads _ _ c.requires.held (floor_of_natural c.args.low.numerator c.args.low.denominator))
    (high_reads _ _ c.requires.held (ceil_of_natural c.args.high.numerator c.args.high.denominator c.div_ceil-above.result c.requires.high c.div_ceil-above.ensures))
