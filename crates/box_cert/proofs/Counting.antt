-- Numbers that are read only up to a cap.
use Rattle.std.proofs.Common.{◌≡◌, ℕ, ◌+◌, ◌-◌, ◌*◌, ◌<◌, min, List, [], ◌∷◌, length, drop, get_or, refl, sym, ap, ◌∙◌, arith, add-one, drop-cons}
use Rattle.dec_text.specs.Decimal.{digits_from}

-- two numbers that are the same up to the cap stay so with more digits
capped_same : (most m n : ℕ) (ds : List ℕ) → min most m ≡ min most n → min most (digits_from m ds) ≡ min most (digits_from n ds)
capped_same most m n [] e = e
capped_same most m n (d ∷ ds) e = capped_same most (10 * m + (d - 48)) (10 * n + (d - 48)) ds (omega arith)

-- one more digit
digit_more : (n i : ℕ) (s : List ℕ) → i < length s → digits_from n (drop i s) ≡ digits_from (10 * n + (get_or s i 0 - 48)) (drop (i + 1) s)
digit_more n i s h = rw (add-one, drop-cons s i 0) refl

pub capped_step : (most number next i : ℕ) (s : List ℕ) → i < length s → min most next ≡ min most (10 * number + (get_or s i 0 - 48)) → min most (digits_from next (drop (i + 1) s)) ≡ min most (digits_from number (drop i s))
capped_step most number next i s h e = capped_same most next (10 * number + (get_or s i 0 - 48)) (drop (i + 1) s) e ∙ sym (ap (min most) (digit_more number i s h))
