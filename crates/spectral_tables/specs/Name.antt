-- The names of curves.
use Rattle.std.specs.Prelude.{ℕ, Bool, ◌&&◌, not, ◌==◌, nat_le, List, length}
use Rattle.std.specs.List.{list_all}

-- printable ASCII or a space, without the comma and the double quote
abbrev pub is_name_byte : ℕ → Bool
is_name_byte b = nat_le 0x20 b && nat_le b 0x7e && not (b == 44) && not (b == 34)

-- 1 to 32 such bytes
abbrev pub is_name : List ℕ → Bool
is_name text = nat_le 1 (length text) && nat_le (length text) 32 && list_all is_name_byte text
