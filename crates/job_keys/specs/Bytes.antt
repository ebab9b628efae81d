-- The bytes of a text that may be absent.
use Rattle.std.specs.Prelude.{ℕ, List, [], Option, Some, None, String, string_bytes}
use Rattle.std.specs.declared.alloc.Global.{Global}

abbrev pub bytes_of : Option (String Global) → List ℕ
bytes_of None = []
bytes_of (Some text) = string_bytes text
