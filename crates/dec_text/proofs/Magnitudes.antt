-- Numbers counted only up to a cap.
use Rattle.std.proofs.Common.{◌≡◌, ℕ, ◌+◌, ◌-◌, ◌*◌, ◌^◌, ◌<◌, ◌≤◌, min, ⊎_elim, List, [], ◌∷◌, length, take, drop, get_or, refl, sym, ap, ◌∙◌, arith, lit<, add-one, drop-cons}
use Rattle.std.proofs.Math.Nat.{one-le-pow}
use Rattle.std.proofs.lemmas.Bool.{cases_lt}
use Rattle.std.proofs.lemmas.List.{take_min}
use Rattle.dec_text.specs.Decimal.{digits_from, magnitude_of}

-- two numbers that are equal up to the cap stay so when the same digits follow
pub capped-digits_from : (most m n : ℕ) (ds : List ℕ) → min most m ≡ min most n → min most (digits_from m ds) ≡ min most (digits_from n ds)
capped-digits_from most m n [] e = e
capped-digits_from most m n (d ∷ ds) e = capped-digits_from most (10 * m + (d - 48)) (10 * n + (d - 48)) ds (omega arith)

-- one digit more
pub digits_from-drop : (n i : ℕ) (s : List ℕ) → i < length s → digits_from n (drop i s) ≡ digits_from (10 * n + (get_or s i 0 - 48)) (drop (i + 1) s)
digits_from-drop n i s h = rw (add-one, drop-cons s i 0) refl

pub capped_step : (most number next i : ℕ) (s : List ℕ) → i < length s → min most next ≡ min most (10 * number + (get_or s i 0 - 48)) → min most (digits_from next (drop (i + 1) s)) ≡ min most (digits_from number (drop i s))
capped_step most number next i s h e = capped-digits_from most next (10 * number + (get_or s i 0 - 48)) (drop (i + 1) s) e ∙ sym (ap (min most) (digits_from-drop number i s h))

-- a number that is at least the cap is so when multiplied by a positive number
grown : (most b q : ℕ) → most ≤ b → 0 < q → most ≤ b * q
grown most b q h some = grind arith

-- the capped product of a capped number is that of the number itself
pub capped_product : (most a b q : ℕ) → a ≡ min most b → 0 < q → min (a * q) most ≡ min most (b * q)
capped_product most a b q e some = ⊎_elim
    (λ under. let x : a ≡ b = omega arith in let y : a * q ≡ b * q = ap (λ t. t * q) x in omega arith)
    (λ over. let x : a ≡ most = omega arith in let y : most ≤ a * q = grown most a q (omega arith) some in let z : most ≤ b * q = grown most b q over some in omega arith)
    (cases_lt b most)

-- the digits before the point and those of the decimals, capped in turn, and a zero for each
-- decimal that is not written
pub capped-magnitude_of : (most decimals : ℕ) (whole fraction : List ℕ) (written before digits power : ℕ) → written ≡ min decimals (length fraction) → before ≡ min most (digits_from 0 whole) → digits ≡ min most (digits_from before (take written fraction)) → power ≡ 10 ^ (decimals - written) → min (digits * power) most ≡ min most (magnitude_of decimals whole fraction)
unfolding magnitude_of
capped-magnitude_of most decimals whole fraction written before digits power w f d p =
    let left : decimals - written ≡ decimals - length fraction = omega arith in
    let taken : take written fraction ≡ take decimals fraction = ap (λ k. take k fraction) w ∙ take_min decimals fraction in
    let both : digits ≡ min most (digits_from (digits_from 0 whole) (take decimals fraction)) =
    d ∙ ap (λ t. min most (digits_from before t)) taken ∙ capped-digits_from most before (digits_from 0 whole) (take decimals fraction) (omega arith) in
    let q : power ≡ 10 ^ (decimals - length fraction) = p ∙ ap (λ k. 10 ^ k) left in
    rw q (capped_product most digits (digits_from (digits_from 0 whole) (take decimals fraction)) (10 ^ (decimals - length fraction)) both (one-le-pow (decimals - length fraction) 10 (lit< tt)))
