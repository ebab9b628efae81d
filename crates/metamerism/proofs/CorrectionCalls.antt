-- What the calls of a correction require and ensure, over plain intervals.
use Rattle.std.proofs.Common.{ℕ, pos, true, false, ◌≡◌, ◌∙◌, ◌*◌, ◌^◌, ◌≤◌, ◌<◌, ◌<ℤ◌, int_lt, unsigned_abs, arith, ap, sym, mul-le-mul, mul-le-mul_left, mul-le-mul_right}
use Rattle.interval_specs.specs.Ends.{Ends, IsHeld, magnitude_of}
use Rattle.interval_specs.specs.Operations.{cut_high_at, product_at, quotient_at}
use Rattle.interval_specs.specs.Ranges.{UpTo}
use Rattle.interval_specs.proofs.Order.{magnitude_positive}
use Rattle.interval_specs.proofs.Ranges.{carry_up_to, held, magnitude_of_up_to, magnitude_wider, product_up_to}
use Rattle.metamerism.specs.Correction.{any_ratio, corrected_ratio}
use Rattle.metamerism.specs.Laws.{IsAtLeast0}
use Rattle.metamerism.proofs.CorrectionLaws.{any_of, any_up_to, corrected_up_to, quotient_of}

pub product_room : (n : ℕ) (a b : Ends) → n ≤ 10 ^ 12 → UpTo (3 * n) a → UpTo (3 * n) b → magnitude_of a * magnitude_of b ≤ 10 ^ 25 * n
product_room n a b few u v =
    let both = mul-le-mul (magnitude_of_up_to (3 * n) a u).small (magnitude_of_up_to (3 * n) b v).small in
    let units = mul-le-mul_right n few in
    omega arith

pub quotient_room : (n : ℕ) (a b p d : Ends) → 0 < n → n ≤ 10 ^ 12 → UpTo (3 * n) a → UpTo (3 * n) b → p ≡ product_at n a b → pos 0 <ℤ d.lo → magnitude_of p * n ≤ 10 ^ 25 * unsigned_abs d.lo
quotient_room n a b p d some few u v e low =
    let top = product_up_to n (9 * n) (3 * n) (3 * n) a b some (omega arith) u v in
    let small = (magnitude_of_up_to (9 * n) p (carry_up_to (9 * n) p (product_at n a b) e top)).small in
    let scaled = mul-le-mul_right n small in
    let units = mul-le-mul few few in
    let least = mul-le-mul_left (10 ^ 25) (magnitude_positive d.lo low) in
    omega arith

pub any_held : (n : ℕ) → n ≤ 10 ^ 12 → IsHeld (any_ratio n)
any_held n few = held (any_ratio n) (magnitude_wider (3 * n) (10 ^ 25) (any_ratio n) (omega arith) (magnitude_of_up_to (3 * n) (any_ratio n) (any_up_to n)))

-- a corrected ratio from its steps
pub corrected_is : (n : ℕ) (s t d p q r : Ends) → int_lt (pos 0) d.lo ≡ true → p ≡ product_at n s t → q ≡ quotient_at n p d → r ≡ cut_high_at n (pos 3) q → r ≡ corrected_ratio n s t d
corrected_is n s t d p q r e h j k = k ∙ ap (cut_high_at n (pos 3)) (j ∙ ap (λ x. quotient_at n x d) h) ∙ sym (quotient_of n s t d e)

pub any_is : (n : ℕ) (s t d r : Ends) → int_lt (pos 0) d.lo ≡ false → r ≡ any_ratio n → r ≡ corrected_ratio n s t d
any_is n s t d r e h = h ∙ sym (any_of n s t d e)

at_least_0 : (k : ℕ) (a : Ends) → UpTo k a → IsAtLeast0 a
at_least_0 k a u = record { low = u.not_negative; ordered = u.ordered }

pub carry_corrected : (n : ℕ) (s t d r : Ends) → 0 < n → UpTo (3 * n) s → UpTo (3 * n) t → UpTo (3 * n) d → r ≡ corrected_ratio n s t d → UpTo (3 * n) r
carry_corrected n s t d r some u v w e =
    carry_up_to (3 * n) r (corrected_ratio n s t d) e (corrected_up_to n s t d some (at_least_0 (3 * n) s u) (at_least_0 (3 * n) t v) (at_least_0 (3 * n) d w))
