-- A shelf in memory that was made, filled with files, and has no call scheduled to fail.
use Rattle.std.specs.Prelude.{◌≡◌, ◌⊎◌, ◌≤◌, ℕ, List, [], ◌∷◌, None, IsSome, IsTrue}
use Rattle.shelf_io.specs.Contents.{Contents, put_bytes}
use Rattle.shelf_io.specs.MemShelf.{ShelfState, promises_reads, promises_writes, shelf_contents}

-- the contents of a shelf with no file and this room
abbrev pub no_files : ℕ → Contents
no_files room = record { file = λ name. None; room = room }

-- the contents after these files, a name and its bytes each, have been put in turn
abbrev pub put_files : List (List ℕ × List ℕ) → Contents → Contents
put_files [] c = c
put_files (file ∷ files) c = put_files files (put_bytes file.0 file.1 c)

-- The shelf was made with this room and these slots, and these files were put into it. It promises
-- that reads of each of them succeed, and that a file can be written with as many bytes as there is
-- room for, under the name of one of them, or, where there is a slot, under any name
pub record IsFilled (room slots : ℕ) (files : List (List ℕ × List ℕ)) (shelf : ShelfState) : Type 0 where
  pub contents : shelf_contents shelf ≡ put_files files (no_files room)
  pub reads : (name : List ℕ) → IsSome ((put_files files (no_files room)).file name) → IsTrue (promises_reads shelf name)
  pub writes : (name : List ℕ) (bytes : ℕ) → (1 ≤ slots) ⊎ IsSome ((put_files files (no_files room)).file name)
      → bytes ≤ room → IsTrue (promises_writes shelf name bytes)
