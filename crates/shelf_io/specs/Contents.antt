-- The files of a shelf, where contracts know them, and how a write changes them.
use Rattle.std.specs.Prelude.{◌≡◌, ◌≤◌, ◌-◌, ℕ, Option, Some, List, [], length, take, IfSome, ◌++◌, if◌then◌else◌, option_map, option_and_then, Result, Ok, Err}
use Rattle.std.specs.Str.{bytes_eq}

-- the bytes under each name, and how many more bytes the shelf can take
pub record Contents : Type 0 where
  pub file : List ℕ → Option (List ℕ)
  pub room : ℕ

-- the bytes under the name, where the files are known and the name is held
abbrev pub known_file : Option Contents → List ℕ → Option (List ℕ)
known_file contents name = option_and_then (λ c. c.file name) contents

-- the same contents, with these bytes under the name
abbrev pub put_bytes : List ℕ → List ℕ → Contents → Contents
put_bytes name bytes c = record { file = λ n. if bytes_eq n name then Some bytes else c.file n; room = c.room }

-- the same contents, with the piece after the bytes of a held name, and that much less room
abbrev pub add_piece : List ℕ → List ℕ → Contents → Contents
add_piece name piece c =
    record { file = λ n. if bytes_eq n name then option_map (λ bytes. bytes ++ piece) (c.file n) else c.file n; room = c.room - length piece }

-- the same contents, with these bytes under the name, and as much less room
abbrev pub write_bytes : List ℕ → List ℕ → Contents → Contents
write_bytes name bytes c = record { file = λ n. if bytes_eq n name then Some bytes else c.file n; room = c.room - length bytes }

-- the piece has been appended to the bytes of the name, and it fitted the room, where that is known
abbrev pub AddsTo : List ℕ → List ℕ → (old new : Option Contents) → Type 0
AddsTo name piece old new = (new ≡ option_map (add_piece name piece) old) × IfSome old (λ c. length piece ≤ c.room)

-- a prefix of the piece has been appended to the bytes of the name
abbrev pub AddsPrefixTo : List ℕ → List ℕ → (old new : Option Contents) → Type 0
AddsPrefixTo name piece old new = (k : ℕ) × AddsTo name (take k piece) old new

-- a create leaves the name with no bytes, and changes nothing where it fails
abbrev pub Creates : {T E : Type 0} → List ℕ → Result T E → (old new : Option Contents) → Type 0
Creates name (Ok _) old new = new ≡ option_map (put_bytes name []) old
Creates name (Err _) old new = new ≡ old

-- an append adds the whole piece, or a prefix of it where it fails
abbrev pub Adds : {T E : Type 0} → List ℕ → List ℕ → Result T E → (old new : Option Contents) → Type 0
Adds name piece (Ok _) old new = AddsTo name piece old new
Adds name piece (Err _) old new = AddsPrefixTo name piece old new
