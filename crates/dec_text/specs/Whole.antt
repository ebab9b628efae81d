-- Whole numbers: only ASCII digits, where leading zeros are allowed.
use Rattle.std.specs.Prelude.{ℕ, Bool, ◌&&◌, nat_le, if◌then◌else◌, List, length, Option, Some, None}
use Rattle.std.specs.List.{list_all}
use Rattle.dec_text.specs.Decimal.{is_digit, digits_from}

-- Is the text 1 to `most` digits?
abbrev pub is_whole : ℕ → List ℕ → Bool
is_whole most text = nat_le 1 (length text) && nat_le (length text) most && list_all is_digit text

-- the number that 1 to `most` digits write, or None for every other text
unfoldable pub whole_number : ℕ → List ℕ → Option ℕ
whole_number most text = if is_whole most text then Some (digits_from 0 text) else None
