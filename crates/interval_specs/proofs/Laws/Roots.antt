-- The laws of the roots of intervals.
use Rattle.std.proofs.Common.{pos, ◌*◌, unsigned_abs}
use Rattle.interval_specs.specs.Roots.{square, cube, sqrt_at, cbrt_at}
use Rattle.interval_specs.specs.Laws.{SqrtEncloses, CbrtEncloses}
use Rattle.interval_specs.proofs.Order.{trans_ℤ}
use Rattle.interval_specs.proofs.Roots.{square_power, cube_power, sqrt_low, sqrt_high, cbrt_low, cbrt_high, low_magnitude, high_magnitude, not_below, as_whole, as_whole_above, magnitudes_in_order, ordered_roots}

pub sqrt_encloses : SqrtEncloses
unfolding sqrt_at
sqrt_encloses n m a a' z h =
    let z' = not_below m a.lo a'.lo z h.low in
    record {
      low = as_whole m _ _ (sqrt_low n m _ _ (low_magnitude m a.lo a'.lo z h.low));
      high = as_whole_above m _ _ (sqrt_high n m _ _ (high_magnitude m a.hi a'.hi (trans_ℤ (pos 0) a'.lo a'.hi z' h.ordered) h.high));
      ordered = ordered_roots square square_power (unsigned_abs a'.lo * (m * n)) (unsigned_abs a'.hi * (m * n)) (magnitudes_in_order a'.lo a'.hi (m * n) z' h.ordered);
    }

pub cbrt_encloses : CbrtEncloses
unfolding cbrt_at
cbrt_encloses n m a a' z h =
    let z' = not_below m a.lo a'.lo z h.low in
    record {
      low = as_whole m _ _ (cbrt_low n m _ _ (low_magnitude m a.lo a'.lo z h.low));
      high = as_whole_above m _ _ (cbrt_high n m _ _ (high_magnitude m a.hi a'.hi (trans_ℤ (pos 0) a'.lo a'.hi z' h.ordered) h.high));
      ordered = ordered_roots cube cube_power (unsigned_abs a'.lo * ((m * n) * (m * n))) (unsigned_abs a'.hi * ((m * n) * (m * n))) (magnitudes_in_order a'.lo a'.hi ((m * n) * (m * n)) z' h.ordered);
    }
