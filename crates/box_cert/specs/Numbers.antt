-- Numbers in a certificate: decimal digits with no 0 in front of another.
use Rattle.std.specs.Prelude.{◌==◌, ◌&&◌, ℕ, Bool, true, false, not, nat_le, if◌then◌else◌, List, [], ◌∷◌, Option, Some, None}
use Rattle.std.specs.List.{list_all}
use Rattle.dec_text.specs.Decimal.{digits_from, is_digit}

-- at least one byte, and no 0 in front of another byte
abbrev pub is_plain : List ℕ → Bool
is_plain [] = false
is_plain (d ∷ []) = true
is_plain (d ∷ (e ∷ ds)) = not (d == 48)

abbrev pub is_numeral : List ℕ → Bool
is_numeral word = is_plain word && list_all is_digit word

-- a number, if it is from least to most
abbrev pub in_range : ℕ → ℕ → ℕ → Option ℕ
in_range least most n = if nat_le least n && nat_le n most then Some n else None

-- the number that a word spells, if it is from least to most
unfoldable pub number_of : ℕ → ℕ → List ℕ → Option ℕ
number_of least most word = if is_numeral word then in_range least most (digits_from 0 word) else None
