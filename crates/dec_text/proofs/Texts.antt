-- The texts of numbers, unfolded once.
use Rattle.std.proofs.Common.{◌≡◌, ℕ, zero, suc, ◌+◌, ◌-◌, ◌/◌, ◌%◌, ◌^◌, ◌<◌, ◌≤◌, ℤ, pos, negsuc, true, false, unsigned_abs, List, [], ◌∷◌, ◌++◌, refl, arith, append_assoc, sym, ap, ◌∙◌}
use Rattle.std.proofs.lemmas.Bool.Decides.{nat_tests}
use Rattle.std.proofs.lemmas.List.{append-nil}
use Rattle.std.specs.Int.Signed.{lt_z}
use Rattle.std.specs.Prelude.{decimal}
use Rattle.dec_text.specs.FixedPoint.{last_digits, behind_point, unsigned_text, fixed_text}

pub last_digits-zero : (k n : ℕ) → k ≤ 0 → last_digits k n ≡ []
unfolding last_digits
last_digits-zero zero n h = refl
last_digits-zero (suc k) n h = absurd (omega arith)

pub last_digits_step : (k n : ℕ) → 0 < k → last_digits k n ≡ (48 + n / 10 ^ (k - 1) % 10) ∷ last_digits (k - 1) n
unfolding last_digits
last_digits_step zero n h = absurd (omega arith)
last_digits_step (suc k) n h = let e : suc k - 1 ≡ k = omega arith in rw e refl

pub behind_point_some : (k n : ℕ) → 0 < k → behind_point k n ≡ 46 ∷ last_digits k n
unfolding behind_point
behind_point_some zero n h = absurd (omega arith)
behind_point_some (suc k) n h = refl

pub behind_point_none : (k n : ℕ) → k ≤ 0 → behind_point k n ≡ []
unfolding behind_point
behind_point_none zero n h = refl
behind_point_none (suc k) n h = absurd (omega arith)

fixed_text-below : (decimals : ℕ) (z : ℤ) → lt_z z (pos 0) ≡ true → fixed_text decimals z ≡ 45 ∷ unsigned_text decimals (unsigned_abs z)
unfolding fixed_text
fixed_text-below decimals (pos n) h = absurd (grind (arith, nat_tests))
fixed_text-below decimals (negsuc n) h = refl

fixed_text-above : (decimals : ℕ) (z : ℤ) → lt_z z (pos 0) ≡ false → fixed_text decimals z ≡ unsigned_text decimals (unsigned_abs z)
unfolding fixed_text
fixed_text-above decimals (pos n) h = refl
fixed_text-above decimals (negsuc n) h = absurd (cc)

-- a sign and then the magnitude
pub text_below : (decimals magnitude : ℕ) (z : ℤ) (out mid begin : List ℕ) → lt_z z (pos 0) ≡ true → magnitude ≡ unsigned_abs z → out ≡ mid ++ unsigned_text decimals magnitude → mid ≡ begin ++ 45 ∷ [] → out ≡ begin ++ fixed_text decimals z
text_below decimals magnitude z out mid begin h s o m = rw (o, m, s, fixed_text-below decimals z h) (append_assoc begin (45 ∷ []) (unsigned_text decimals (unsigned_abs z)))

-- the magnitude alone
pub text_above : (decimals magnitude : ℕ) (z : ℤ) (out begin : List ℕ) → lt_z z (pos 0) ≡ false → magnitude ≡ unsigned_abs z → out ≡ begin ++ unsigned_text decimals magnitude → out ≡ begin ++ fixed_text decimals z
text_above decimals magnitude z out begin h s o = rw (o, s, fixed_text-above decimals z h) refl

-- the whole part, a point and the decimals
pub text_with_decimals : (decimals magnitude power : ℕ) (begin whole point out : List ℕ) → 0 < decimals → power ≡ 10 ^ decimals → whole ≡ begin ++ decimal (magnitude / power) → point ≡ whole ++ 46 ∷ [] → out ≡ point ++ last_digits decimals magnitude → out ≡ begin ++ unsigned_text decimals magnitude
unfolding unsigned_text
text_with_decimals decimals magnitude power begin whole point out some p w d o =
    rw (o, d, w, p, behind_point_some decimals magnitude some) (simp append_assoc)

-- the whole part alone
pub text_without : (decimals magnitude power : ℕ) (begin out : List ℕ) → decimals ≤ 0 → power ≡ 10 ^ decimals → out ≡ begin ++ decimal (magnitude / power) → out ≡ begin ++ unsigned_text decimals magnitude
unfolding unsigned_text
text_without decimals magnitude power begin out none p o = rw (o, p, behind_point_none decimals magnitude none) (ap (λ t. begin ++ t) (sym (append-nil (decimal (magnitude / 10 ^ decimals)))))

-- one more of the digits that are left
pub digits_put : (left count number power : ℕ) (begin mid out : List ℕ) → 0 < left → power ≡ 10 ^ (left - 1) → out ≡ mid ++ (48 + number / power % 10) ∷ [] → mid ++ last_digits left number ≡ begin ++ last_digits count number → out ++ last_digits (left - 1) number ≡ begin ++ last_digits count number
digits_put left count number power begin mid out some p o m =
    let rest = last_digits (left - 1) number in
    rw (o, p) (append_assoc mid ((48 + number / 10 ^ (left - 1) % 10) ∷ []) rest ∙ sym (ap (λ t. mid ++ t) (last_digits_step left number some)) ∙ m)

-- no digit is left
pub digits_done : (left count number : ℕ) (begin out : List ℕ) → left ≤ 0 → out ++ last_digits left number ≡ begin ++ last_digits count number → out ≡ begin ++ last_digits count number
digits_done left count number begin out none m = sym (append-nil out) ∙ sym (ap (λ t. out ++ t) (last_digits-zero left number none)) ∙ m
