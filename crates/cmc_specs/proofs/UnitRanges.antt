-- The values of the difference that lie from 0 to 1: the share F and the magnitude of a cosine.
use Rattle.std.proofs.Common.{ℕ, ℤ, pos, negsuc, ◌≡◌, Bool, true, false, ◌==◌, if◌then◌else◌, ◌+◌, ◌*◌, ◌<◌, ◌*ℤ◌, ◌≤ℤ◌, ◌<ℤ◌, unsigned_abs, refl, arith, mul-le-mul_left, le_refl}
use Rattle.std.proofs.lemmas.Int.{ints}
use Rattle.std.proofs.lemmas.Bool.Decides.{nat_tests}
use Rattle.std.specs.Int.{int_min}
use Rattle.interval_specs.specs.Ends.{Ends, IsOrdered, magnitude_of}
use Rattle.interval_specs.specs.Ranges.{UpTo}
use Rattle.interval_specs.specs.Operations.{absolute_of, cut_high_at, quotient_at, square_at}
use Rattle.interval_specs.proofs.Order.{either_min, le_pos, min_left, min_right, refl_ℤ, trans_ℤ}
use Rattle.interval_specs.proofs.Rounds.{ceil_least}
use Rattle.interval_specs.proofs.Laws.{quotients_ordered}
use Rattle.interval_specs.proofs.Roots.{magnitudes_rise}
use Rattle.interval_specs.proofs.Ranges.{absolute_up_to, floor_not_negative, quotient_not_negative, square_up_to, sqrt_up_to}
use Rattle.cmc_specs.specs.Cmc.{cosine_magnitude, fourth_power_share, hue_share}
use Rattle.cmc_specs.proofs.Shares.{quotients_in_order}

-- ---- F lies from 0 to 1

pub share_up_to : (n : ℕ) (x : Ends) → 0 < n → pos 0 ≤ℤ x.lo → IsOrdered x → UpTo n (fourth_power_share n x)
unfolding fourth_power_share
share_up_to n x some z o =
    let t = unsigned_abs x.lo in
    let u = unsigned_abs x.hi in
    let d = t + 1900 * n in
    let e = u + 1900 * n in
    let p : 0 < d = omega arith in
    let q : 0 < e = omega arith in
    let h = mul-le-mul_left (n * n) (magnitudes_rise x.lo x.hi z o) in
    record {
      not_negative = floor_not_negative (pos (t * n)) d p (le_pos (t * n));
      ordered = quotients_in_order (t * n) (u * n) d e p q (omega arith);
      below = ceil_least (pos (u * n)) (pos n) e q (omega (arith, ints));
    }

pub hue_share_up_to : (n : ℕ) (p1 : Ends) → 0 < n → UpTo n (hue_share n p1)
unfolding hue_share
hue_share_up_to n p1 some =
    let k = magnitude_of p1 in
    let more = mul-le-mul_left (k * k) some in
    let s = square_up_to n (k * k) k p1 some (omega arith) (le_refl k) in
    sqrt_up_to n n n (fourth_power_share n (square_at n p1)) (le_refl (n * n)) (share_up_to n (square_at n p1) some s.not_negative s.ordered)

-- ---- a cosine's magnitude lies from 0 to 1

cut_up_to_one : (n : ℕ) (a : Ends) → pos 0 ≤ℤ a.lo → IsOrdered a → UpTo n (cut_high_at n (pos 1) a)
unfolding cut_high_at
cut_up_to_one n a z o =
    let one = pos 1 *ℤ pos n in
    record {
      not_negative = either_min (λ x. pos 0 ≤ℤ x) a.lo one z (omega (arith, ints));
      ordered = either_min (λ x. int_min a.lo one ≤ℤ x) a.hi one (trans_ℤ (int_min a.lo one) a.lo a.hi (min_left a.lo one) o) (min_right a.lo one);
      below = trans_ℤ (int_min a.hi one) one (pos n) (min_right a.hi one) (omega (arith, ints));
    }

pub chroma_positive : (x : ℤ) → pos 0 ≤ℤ x → (unsigned_abs x == 0) ≡ false → pos 0 <ℤ x
chroma_positive (pos x) z e = let p : 0 < x = grind (arith, nat_tests) in omega (arith, ints)
chroma_positive (negsuc x) z e = absurd (omega (arith, ints))

-- the magnitude of w over c1, cut at 1, lies from 0 to 1
magnitude_over_chroma : (n : ℕ) (w c1 : Ends) → pos 0 <ℤ c1.lo → IsOrdered c1 → UpTo n (cut_high_at n (pos 1) (quotient_at n (absolute_of w) c1))
magnitude_over_chroma n w c1 low o =
    let s = absolute_up_to (magnitude_of w) w (le_refl (magnitude_of w)) in
    cut_up_to_one n (quotient_at n (absolute_of w) c1) (quotient_not_negative n (absolute_of w) c1 low o s.not_negative s.ordered) (quotients_ordered n (absolute_of w) c1 s.ordered)

pub cosine_magnitude_up_to : (n : ℕ) (w c1 : Ends) → pos 0 ≤ℤ c1.lo → IsOrdered c1 → UpTo n (cosine_magnitude n w c1)
unfolding cosine_magnitude
cosine_magnitude_up_to n w c1 z o = by (unsigned_abs c1.lo == 0) refl
  where
    by : (t : Bool) → (unsigned_abs c1.lo == 0) ≡ t → UpTo n (if t then (record { lo = pos 0; hi = pos n }) else (cut_high_at n (pos 1) (quotient_at n (absolute_of w) c1)))
    by true e = record { not_negative = le_pos 0; ordered = le_pos n; below = refl_ℤ (pos n) }
    by false e = magnitude_over_chroma n w c1 (chroma_positive c1.lo z e) o
