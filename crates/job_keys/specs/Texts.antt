-- Which texts of a job may name a file.
use Rattle.std.specs.Prelude.{ℕ, Bool, ◌&&◌, ◌==◌, not, nat_le, List, length, codes}
use Rattle.std.specs.List.{ends_with}

-- 1 to 255 bytes that do not end with `.cert`
abbrev pub is_file_text : List ℕ → Bool
is_file_text text = nat_le 1 (length text) && nat_le (length text) 255 && not (ends_with ◌==◌ text (codes ".cert"))
