-- What the calls in the differences and in the root of the terms require, over plain intervals.
use Rattle.std.proofs.Common.{ℕ, pos, ◌≡◌, ◌+◌, ◌*◌, ◌^◌, ◌≤◌, ◌<◌, ◌≤ℤ◌, arith, subst, sym, lit≤}
use Rattle.interval_specs.specs.Ends.{Ends, magnitude_of}
use Rattle.interval_specs.specs.Ranges.{MagnitudeUpTo, UpTo}
use Rattle.interval_specs.specs.Operations.{square_at, sum_of}
use Rattle.interval_specs.proofs.Ranges.{carry_up_to, square_up_to, sum_not_negative, sum_up_to}
use Rattle.lab_parts.proofs.Ranges.{chroma_delta_square}
use Rattle.lab_parts.proofs.Rooms.{sum_room, up_to_magnitude}

-- the square of a difference of two coordinates
pub delta_square : (n : ℕ) (a r : Ends) → 0 < n → MagnitudeUpTo (2000 * n) a → r ≡ square_at n a → UpTo (4 * 10 ^ 6 * n) r
delta_square n a r some s e = carry_up_to (4 * 10 ^ 6 * n) r (square_at n a) e (square_up_to n (4 * 10 ^ 6 * n) (2000 * n) a some (omega arith) s.small)

pub squares_room : (n : ℕ) (a d p : Ends) → 10 ^ 6 ≤ n → n ≤ 10 ^ 12 → UpTo (8 * 10 ^ 6 * n) a → MagnitudeUpTo (1415 * n) d → p ≡ square_at n d → magnitude_of a + magnitude_of p ≤ 10 ^ 25
squares_room n a d p large few u s e =
    sum_room n (8 * 10 ^ 6) 2002225 a p few (lit≤ tt) (lit≤ tt) (up_to_magnitude (8 * 10 ^ 6 * n) a u) (up_to_magnitude (2002225 * n) p (chroma_delta_square n d p (omega arith) s e))

-- ---- the root of the terms

term_square : (n : ℕ) (x p : Ends) → 0 < n → MagnitudeUpTo (40000 * n) x → p ≡ square_at n x → UpTo (1600 * 10 ^ 6 * n) p
term_square n x p some s e = carry_up_to (1600 * 10 ^ 6 * n) p (square_at n x) e (square_up_to n (1600 * 10 ^ 6 * n) (40000 * n) x some (omega arith) s.small)

pub both_room : (n : ℕ) (x y p q : Ends) → 10 ^ 6 ≤ n → n ≤ 10 ^ 12 → MagnitudeUpTo (40000 * n) x → MagnitudeUpTo (40000 * n) y → p ≡ square_at n x → q ≡ square_at n y → magnitude_of p + magnitude_of q ≤ 10 ^ 25
both_room n x y p q large few s t e h =
    let some : 0 < n = omega arith in
    sum_room n (1600 * 10 ^ 6) (1600 * 10 ^ 6) p q few (lit≤ tt) (lit≤ tt) (up_to_magnitude _ p (term_square n x p some s e)) (up_to_magnitude _ q (term_square n y q some t h))

pub both_up_to : (n : ℕ) (x y p q r : Ends) → 0 < n → MagnitudeUpTo (40000 * n) x → MagnitudeUpTo (40000 * n) y → p ≡ square_at n x → q ≡ square_at n y → r ≡ sum_of p q → UpTo (1600 * 10 ^ 6 * n + 1600 * 10 ^ 6 * n) r
both_up_to n x y p q r some s t e h k =
    carry_up_to (1600 * 10 ^ 6 * n + 1600 * 10 ^ 6 * n) r (sum_of p q) k (sum_up_to (1600 * 10 ^ 6 * n) (1600 * 10 ^ 6 * n) p q (term_square n x p some s e) (term_square n y q some t h))

pub third_room : (n : ℕ) (p z : Ends) → n ≤ 10 ^ 12 → UpTo (1600 * 10 ^ 6 * n + 1600 * 10 ^ 6 * n) p → UpTo (170 * 10 ^ 6 * n) z → magnitude_of p + magnitude_of z ≤ 10 ^ 25
third_room n p z few u v =
    let s = up_to_magnitude (1600 * 10 ^ 6 * n + 1600 * 10 ^ 6 * n) p u in
    let t = up_to_magnitude (170 * 10 ^ 6 * n) z v in
    omega arith

pub sum_root : (p z r : Ends) → pos 0 ≤ℤ p.lo → pos 0 ≤ℤ z.lo → r ≡ sum_of p z → pos 0 ≤ℤ r.lo
sum_root p z r u v e = subst (λ x. pos 0 ≤ℤ x.lo) (sym e) (sum_not_negative p z u v)
