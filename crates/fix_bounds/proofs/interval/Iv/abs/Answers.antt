use Rattle.std.proofs.Common.{◌^◌, ◌∙◌, sym, refl, neg_ℤ, pos, lit<, le_trans}
use Rattle.std.specs.Int.{int_max}
use Rattle.interval_specs.proofs.Held.{is_ends}
use Rattle.interval_specs.proofs.Ranges.{lo_small, hi_small}
use Rattle.interval_specs.proofs.Laws.{absolute_above, absolute_below, absolute_around}
use Rattle.fix_bounds.proofs.Passed.{read, read_neg, read_max}
use Rattle.fix_bounds.proofs.Choices.{known_not_negative, known_negative, known_not_positive, known_positive}
use Rattle.fix_bounds.proofs.interval.Iv.abs.Goals as goal

pub returns-then-low-ge0-clause-is : goal.returns-then-low-ge0-clause-is
returns-then-low-ge0-clause-is g c =
    sym (absolute_above c.args.self (known_not_negative _ _ (read _ _ c.lo-low.type_inv c.lo-low.ensures.is) c.if-low-ge0.true) c.lo-low.ensures.held.ordered)

pub returns-then-high-le0-clause-is : goal.returns-then-high-le0-clause-is
returns-then-high-le0-clause-is g c =
    let a = c.args.self in
    is_ends _ _ _ (record { lo = neg_ℤ a.hi; hi = neg_ℤ a.lo }) c.of_ends.ensures.is
    (read_neg _ _ (10 ^ 25) (read _ _ c.hi-high.type_inv c.hi-high.ensures.is) (le_trans (hi_small a) c.hi-high.ensures.held.small) (lit< tt))
    (read_neg _ _ (10 ^ 25) (read _ _ c.lo-low.type_inv c.lo-low.ensures.is) (le_trans (lo_small a) c.lo-low.ensures.held.small) (lit< tt))
    ∙ sym (absolute_below a (known_not_positive _ _ (read _ _ c.hi-high.type_inv c.hi-high.ensures.is) c.if-high-le0.true) c.lo-low.ensures.held.ordered)

pub returns-else-high-le0-clause-is : goal.returns-else-high-le0-clause-is
returns-else-high-le0-clause-is g c =
    let a = c.args.self in
    is_ends _ _ _ (record { lo = pos 0; hi = int_max a.hi (neg_ℤ a.lo) }) c.of_ends-else-high-le0.ensures.is refl
    (read_max _ _ _ _ _ c.max.type_inv c.max.ensures.value (read _ _ c.hi-high.type_inv c.hi-high.ensures.is)
    (read_neg _ _ (10 ^ 25) (read _ _ c.lo-low.type_inv c.lo-low.ensures.is) (le_trans (lo_small a) c.lo-low.ensures.held.small) (lit< tt)))
    ∙ sym (absolute_around a (known_negative _ _ (read _ _ c.lo-low.type_inv c.lo-low.ensures.is) c.if-low-ge0.false) (known_positive _ _ (read _ _ c.hi-high.type_inv c.hi-high.ensures.is) c.if-high-le0.false))
