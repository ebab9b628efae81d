-- Long division by digits of 64, 24, 24 and 16 bits.
use Rattle.std.proofs.Common.{ℕ, ◌≡◌, ◌+◌, ◌*◌, ◌/◌, ◌%◌, ◌<◌, ◌^◌, ◌∙◌, arith, ap, sym, refl, mul-le-mul_right, mod-lt, div-add-mod', add-one-le}
use Rattle.std.proofs.lemmas.Nat.{div_below}
use Rattle.std.proofs.Math.Nat.{mul-add-div_right}

-- the 64 high bits and the 64 low bits
abbrev pub high_of : ℕ → ℕ
high_of x = x / 18446744073709551616

abbrev pub low_of : ℕ → ℕ
low_of x = x % 18446744073709551616

-- the dividend of the second, third and fourth step: the last remainder followed by the next digit
abbrev pub second_of : ℕ → ℕ → ℕ
second_of n x = high_of x % n * 16777216 + low_of x / 1099511627776

abbrev pub third_of : ℕ → ℕ → ℕ
third_of n x = second_of n x % n * 16777216 + low_of x / 65536 % 16777216

abbrev pub fourth_of : ℕ → ℕ → ℕ
fourth_of n x = third_of n x % n * 65536 + low_of x % 65536

-- the last three digits of the quotient
abbrev pub rest_of : ℕ → ℕ → ℕ
rest_of n x = second_of n x / n * 1099511627776 + third_of n x / n * 65536 + fourth_of n x / n

-- a remainder followed by a digit has a quotient of one digit
digit : (n r d b : ℕ) → 0 < n → r < n → d < b → (r * b + d) / n < b
digit n r d b some h k = div_below (r * b + d) n b some (omega (arith, mul-le-mul_right b (add-one-le h)))

pub rest_fits : (n x : ℕ) → 0 < n → rest_of n x < 2 ^ 64
rest_fits n x some =
    let a : low_of x / 1099511627776 < 16777216 = omega arith in
    let b : low_of x / 65536 % 16777216 < 16777216 = omega arith in
    let c : low_of x % 65536 < 65536 = omega arith in
    let s = digit n (high_of x % n) (low_of x / 1099511627776) 16777216 some (mod-lt (high_of x) some) a in
    let t = digit n (second_of n x % n) (low_of x / 65536 % 16777216) 16777216 some (mod-lt (second_of n x) some) b in
    let f = digit n (third_of n x % n) (low_of x % 65536) 65536 some (mod-lt (third_of n x) some) c in
    digits_fit (second_of n x / n) (third_of n x / n) (fourth_of n x / n) s t f
  where
    digits_fit : (s t f : ℕ) → s < 16777216 → t < 16777216 → f < 65536 → s * 1099511627776 + t * 65536 + f < 2 ^ 64
    digits_fit s t f p q r = omega arith

-- three steps of long division put together: the dividend is n times the first three digits of the
-- quotient, plus f, the dividend of the last step
joined : (n h l s t f a b c p q r d e g : ℕ) → a * n + p ≡ h → s ≡ p * 16777216 + d → b * n + q ≡ s → t ≡ q * 16777216 + e → c * n + r ≡ t → f ≡ r * 65536 + g → l ≡ d * 1099511627776 + e * 65536 + g → (a * 18446744073709551616 + b * 1099511627776 + c * 65536) * n + f ≡ h * 18446744073709551616 + l
joined n h l s t f a b c p q r d e g i j k m o u v = omega arith

-- 64 bits from their digits
low_is : (l : ℕ) → l ≡ l / 1099511627776 * 1099511627776 + l / 65536 % 16777216 * 65536 + l % 65536
low_is l = omega arith

pub digits_is : (n x : ℕ) → 0 < n → high_of x / n * 18446744073709551616 + rest_of n x ≡ x / n
digits_is n x some =
    let leading = high_of x / n * 18446744073709551616 + second_of n x / n * 1099511627776 + third_of n x / n * 65536 in
    let is : leading * n + fourth_of n x ≡ x =
    joined n (high_of x) (low_of x) (second_of n x) (third_of n x) (fourth_of n x) (high_of x / n) (second_of n x / n) (third_of n x / n) (high_of x % n) (second_of n x % n) (third_of n x % n)
    (low_of x / 1099511627776) (low_of x / 65536 % 16777216) (low_of x % 65536) (div-add-mod' (high_of x) n) refl (div-add-mod' (second_of n x) n) refl (div-add-mod' (third_of n x) n) refl (low_is (low_of x))
    ∙ div-add-mod' x 18446744073709551616 in
    regroup (high_of x / n * 18446744073709551616) (second_of n x / n * 1099511627776) (third_of n x / n * 65536) (fourth_of n x / n) ∙ sym (mul-add-div_right some leading (fourth_of n x)) ∙ ap (λ (z : ℕ). z / n) is
  where
    regroup : (a b c d : ℕ) → a + (b + c + d) ≡ a + b + c + d
    regroup a b c d = omega arith
