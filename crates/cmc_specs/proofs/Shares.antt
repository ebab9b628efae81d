-- Quotients of natural numbers, rounded outwards, and quotients k t / (a + b t), which rise with t.
use Rattle.std.proofs.Common.{ℕ, pos, ◌+◌, ◌*◌, ◌≤◌, ◌<◌, ◌*ℤ◌, ◌≤ℤ◌, unsigned_abs, arith, mul-le-mul_left, mul-pos}
use Rattle.std.proofs.lemmas.Int.{ints}
use Rattle.interval_specs.specs.Ends.{Ends}
use Rattle.interval_specs.specs.Encloses.{Encloses}
use Rattle.interval_specs.specs.Rounding.{floor_over, ceil_over}
use Rattle.interval_specs.proofs.Order.{trans_ℤ, refl_ℤ}
use Rattle.interval_specs.proofs.Rounds.{floor_encloses, ceil_encloses, floor_le_ceil}
use Rattle.interval_specs.proofs.Roots.{low_magnitude, high_magnitude, not_below, magnitudes_in_order}

crossed_ℤ : (a b c d : ℕ) → a * b ≤ c * d → (pos a *ℤ pos b) ≤ℤ (pos c *ℤ pos d)
crossed_ℤ a b c d h = omega (arith, ints)

-- the floor of one quotient is at most the ceiling of a greater one
pub quotients_in_order : (z y d e : ℕ) → 0 < d → 0 < e → e * z ≤ d * y → floor_over (pos z) d ≤ℤ ceil_over (pos y) e
quotients_in_order z y d e p q h =
    let near = floor_encloses 1 d e (pos z) (pos y) p q (crossed_ℤ (1 * e) z d y (omega arith)) in
    trans_ℤ (floor_over (pos z) d) (floor_over (pos y) e) (ceil_over (pos y) e) (omega (arith, ints)) (floor_le_ceil (pos y) (pos y) e (refl_ℤ (pos y)))

-- two quotients at each scale, compared by products
pub quotients_enclose : (m z d y e z' d' y' e' : ℕ) → 0 < d → 0 < e → 0 < d' → 0 < e' → m * d' * z ≤ d * z' → e * y' ≤ m * e' * y → e' * z' ≤ d' * y' → Encloses m (record { lo = floor_over (pos z) d; hi = ceil_over (pos y) e }) (record { lo = floor_over (pos z') d'; hi = ceil_over (pos y') e' })
quotients_enclose m z d y e z' d' y' e' p q p' q' low high across =
    record {
      low = floor_encloses m d d' (pos z) (pos z') p p' (crossed_ℤ (m * d') z d z' low);
      high = ceil_encloses m e e' (pos y) (pos y') q q' (crossed_ℤ e y' (m * e') y high);
      ordered = quotients_in_order z' y' d' e' p' q' across;
    }

-- k t / (a + b t) at both ends t of an interval, as quotients of whole numbers
abbrev pub share_of : (k a b n : ℕ) → Ends → Ends
share_of k a b n x =
    record {
      lo = floor_over (pos (k * unsigned_abs x.lo * n)) (a * n + b * unsigned_abs x.lo);
      hi = ceil_over (pos (k * unsigned_abs x.hi * n)) (a * n + b * unsigned_abs x.hi);
    }

rises : (k a b n m t t' : ℕ) → m * t ≤ t' → m * (a * (m * n) + b * t') * (k * t * n) ≤ (a * n + b * t) * (k * t' * (m * n))
rises k a b n m t t' h = let p = mul-le-mul_left (a * k * (m * n * n)) h in omega arith

falls : (k a b n m t t' : ℕ) → t' ≤ m * t → (a * n + b * t) * (k * t' * (m * n)) ≤ m * (a * (m * n) + b * t') * (k * t * n)
falls k a b n m t t' h = let p = mul-le-mul_left (a * k * (m * n * n)) h in omega arith

across : (k a b n t u : ℕ) → t ≤ u → (a * n + b * u) * (k * t * n) ≤ (a * n + b * t) * (k * u * n)
across k a b n t u h = let p = mul-le-mul_left (a * k * (n * n)) h in omega arith

pub share_encloses : (k a b n m : ℕ) (x x' : Ends) → 0 < a → 0 < n → 0 < m → pos 0 ≤ℤ x.lo → Encloses m x x' → Encloses m (share_of k a b n x) (share_of k a b (m * n) x')
share_encloses k a b n m x x' some scale finer z h =
    let z' = not_below m x.lo x'.lo z h.low in
    let up' = trans_ℤ (pos 0) x'.lo x'.hi z' h.ordered in
    let t = unsigned_abs x.lo in
    let u = unsigned_abs x.hi in
    let t' = unsigned_abs x'.lo in
    let u' = unsigned_abs x'.hi in
    let o = magnitudes_in_order x'.lo x'.hi 1 z' h.ordered in
    let coarse : 0 < a * n = mul-pos some scale in
    let fine : 0 < a * (m * n) = mul-pos some (mul-pos finer scale) in
    quotients_enclose m _ (a * n + b * t) _ (a * n + b * u) _ (a * (m * n) + b * t') _ (a * (m * n) + b * u')
    (omega arith) (omega arith) (omega arith) (omega arith)
    (rises k a b n m t t' (low_magnitude m x.lo x'.lo z h.low))
    (falls k a b n m u u' (high_magnitude m x.hi x'.hi up' h.high))
    (across k a b (m * n) t' u' (omega arith))
