-- Decimal text: an optional sign, and digits with at most one point before, among or after them.
use Rattle.std.specs.Prelude.{ℕ, ◌+◌, ◌-◌, ◌*◌, ◌^◌, ℤ, pos, neg_ℤ, Bool, true, false, ◌&&◌, ◌||◌, not, ◌==◌, nat_lt, nat_le, if◌then◌else◌, List, [], ◌∷◌, length, take, drop, Option, Some, None, Result, Ok, Err, unwrap_or, position}
use Rattle.std.specs.List.{list_any}
use Rattle.std.specs.Option.{option_map, option_or}
use Rattle.dec_text.specs.declared.fault.DecFault.{DecFault}
use Rattle.dec_text.specs.declared.fault.DecFault.TheVariants.{Empty, NotDigit, TooManyPlaces, TooLarge}

-- the greatest magnitude of a number, in units of the last decimal place that it may have
abbrev pub largest : ℕ
largest = 10 ^ 15

-- Does the text begin with `-`?
abbrev pub is_minus : List ℕ → Bool
is_minus [] = false
is_minus (b ∷ _) = b == 45

-- how many bytes the sign has: one for `+` or `-`
abbrev pub sign_len : List ℕ → ℕ
sign_len [] = 0
sign_len (b ∷ _) = if (b == 43) || (b == 45) then 1 else 0

-- Is there nothing after the sign, or only a point?
abbrev pub is_blank : List ℕ → Bool
is_blank [] = true
is_blank (b ∷ []) = b == 46
is_blank (_ ∷ (_ ∷ _)) = false

-- the offset of the first point, or the length
abbrev pub point_of : List ℕ → ℕ
point_of body = unwrap_or (position (λ b. b == 46) body) (length body)

-- the bytes before the first point
abbrev pub whole_of : List ℕ → List ℕ
whole_of body = take (point_of body) body

-- the bytes after the first point
abbrev pub fraction_of : List ℕ → List ℕ
fraction_of body = drop (point_of body + 1) body

abbrev pub is_digit : ℕ → Bool
is_digit b = nat_le 48 b && nat_le b 57

-- the offset of the first byte of a part that is no digit, where the part begins at the offset
-- `start`
abbrev pub stray_from : ℕ → List ℕ → Option ℕ
stray_from start part = option_map (λ k. start + k) (position (λ b. not (is_digit b)) part)

-- the number that is written by the digits of n followed by these
abbrev pub digits_from : ℕ → List ℕ → ℕ
digits_from n [] = n
digits_from n (d ∷ ds) = digits_from (10 * n + (d - 48)) ds

-- the magnitude of the number, in units of 10^-decimals: a decimal that is not written is 0
unfoldable pub magnitude_of : ℕ → List ℕ → List ℕ → ℕ
magnitude_of decimals whole fraction = digits_from (digits_from 0 whole) (take decimals fraction) * 10 ^ (decimals - length fraction)

-- Does a digit other than 0 follow this many decimals?
abbrev pub has_more : ℕ → List ℕ → Bool
has_more decimals fraction = list_any (λ d. not (d == 48)) (drop decimals fraction)

abbrev pub signed : Bool → ℕ → ℤ
signed true n = neg_ℤ (pos n)
signed false n = pos n

-- the number, or the first fault of TooManyPlaces and TooLarge
unfoldable pub number_of : ℕ → Bool → List ℕ → List ℕ → Result ℤ DecFault
number_of decimals minus whole fraction =
    if has_more decimals fraction then Err TooManyPlaces
    else (if nat_lt largest (magnitude_of decimals whole fraction) then Err TooLarge
    else Ok (signed minus (magnitude_of decimals whole fraction)))

-- the number, unless a byte that is no digit was found
abbrev pub unless_stray : Option ℕ → Result ℤ DecFault → Result ℤ DecFault
unless_stray (Some offset) number = Err (NotDigit offset)
unless_stray None number = number

-- the number that the text after a sign of `sign` bytes writes, or the first fault
unfoldable pub body_value : ℕ → Bool → ℕ → List ℕ → Result ℤ DecFault
body_value decimals minus sign body =
    if is_blank body then Err Empty
    else unless_stray
    (option_or (stray_from sign (whole_of body)) (stray_from (sign + point_of body + 1) (fraction_of body)))
    (number_of decimals minus (whole_of body) (fraction_of body))

-- the number that a text writes, in units of 10^-decimals, or the first fault
unfoldable pub decimal_of : ℕ → List ℕ → Result ℤ DecFault
decimal_of decimals text = body_value decimals (is_minus text) (sign_len text) (drop (sign_len text) text)
