-- What a read of a file from an offset on returns.
use Rattle.std.specs.Prelude.{◌≡◌, ◌-◌, ◌<◌, ◌≤◌, ℕ, Option, Some, None, Result, Ok, Err, List, [], length, take, drop}
use Rattle.shelf_io.specs.Contents.{Contents}

-- a read of a held name fails, or returns bytes of its file from the offset on, none only at or
-- past its end or into an empty buffer; a read of a name that is not held fails
abbrev pub ReadsFile : {E : Type 0} → Option (List ℕ) → ℕ → Result ℕ E → List ℕ → Type 0
ReadsFile file offset (Err _) into = Unit {0}
ReadsFile None offset (Ok count) into = ⊥
ReadsFile (Some bytes) offset (Ok count) into =
    (take count into ≡ take count (drop offset bytes)) × (count ≤ length bytes - offset) × (count ≡ 0 → 0 < length into → length bytes ≤ offset)

-- where the files are known, the read fails or returns bytes of the file under the name
abbrev pub Reads : {E : Type 0} → Option Contents → List ℕ → ℕ → Result ℕ E → List ℕ → Type 0
Reads None name offset result into = Unit {0}
Reads (Some contents) name offset result into = ReadsFile (contents.file name) offset result into

-- these bytes are a prefix of the file, and none where it is not held
abbrev pub IsFilePrefix : Option (List ℕ) → List ℕ → Type 0
IsFilePrefix None prefix = prefix ≡ []
IsFilePrefix (Some bytes) prefix = prefix ≡ take (length prefix) bytes

-- where the files are known, these bytes are a prefix of the file under the name
abbrev pub IsKnownPrefix : Option Contents → List ℕ → List ℕ → Type 0
IsKnownPrefix None name prefix = Unit {0}
IsKnownPrefix (Some contents) name prefix = IsFilePrefix (contents.file name) prefix
