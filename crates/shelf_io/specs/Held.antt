-- The files of a shelf in memory, as a list.
use Rattle.std.specs.Prelude.{◌+◌, ◌≤◌, ℕ, length, Bool, Option, Some, None, List, [], ◌∷◌, ◌++◌, if◌then◌else◌, option_map}
use Rattle.std.specs.List.{All}
use Rattle.std.specs.Str.{bytes_eq}
use Rattle.shelf_io.specs.Calls.{count_more, one_more}

-- a file: its name and bytes, how many bytes its buffer was made for, its counts of failed reads
-- and writes, and how many bytes reads handed out
pub record Held : Type 0 where
  pub name : List ℕ
  pub bytes : List ℕ
  pub reserved : ℕ
  pub reads : ℕ
  pub writes : ℕ
  pub handed : ℕ

-- the file under the name
abbrev pub held_under : List ℕ → List Held → Option Held
held_under name [] = None
held_under name (file ∷ files) = if bytes_eq file.name name then Some file else held_under name files

-- the index of the file under the name
abbrev pub index_of : List ℕ → List Held → Option ℕ
index_of name [] = None
index_of name (file ∷ files) = if bytes_eq file.name name then Some 0 else option_map (λ at. at + 1) (index_of name files)

-- the files, with the one under the name changed
abbrev pub change_under : List ℕ → (Held → Held) → List Held → List Held
change_under name change [] = []
change_under name change (file ∷ files) =
    if bytes_eq file.name name then change file ∷ files else file ∷ change_under name change files

-- a file with these bytes in a new buffer, which has room for `room` more
abbrev pub with_bytes : List ℕ → ℕ → Held → Held
with_bytes bytes room file = record file { bytes = bytes; reserved = length bytes + room }

-- a file with one more failed read
abbrev pub with_failed_read : Held → Held
with_failed_read file = record file { reads = one_more file.reads }

-- a file with this many more bytes handed out
abbrev pub with_handed : ℕ → Held → Held
with_handed count file = record file { handed = count_more count file.handed }

-- a file after a read that failed or returned this many bytes
abbrev pub with_read : Bool → ℕ → Held → Held
with_read fails count file = if fails then with_failed_read file else with_handed count file

-- a file with one more failed write
abbrev pub with_failed_write : Held → Held
with_failed_write file = record file { writes = one_more file.writes }

-- a file with no bytes
abbrev pub without_bytes : Held → Held
without_bytes file = record file { bytes = [] }

-- a file with a piece after its bytes, and one more failed write where the call failed
abbrev pub with_piece : Bool → List ℕ → Held → Held
with_piece fails piece file =
    record file { bytes = file.bytes ++ piece; writes = if fails then one_more file.writes else file.writes }

-- each file has memory for `room` more bytes
abbrev pub HaveRoom : ℕ → List Held → Type 0
HaveRoom room files = All (λ file. length file.bytes + room ≤ file.reserved) files

-- each slot has memory for `room` bytes
abbrev pub SlotsHaveRoom : ℕ → List ℕ → Type 0
SlotsHaveRoom room slots = All (λ reserved. room ≤ reserved) slots
