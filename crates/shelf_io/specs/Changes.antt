-- What a call changes of a shelf, and what it leaves.
use Rattle.std.specs.Prelude.{◌≡◌, ◌+◌, ◌≤◌, ℕ, List, Option, Some, None, Result, Ok, Err, IsSome, IsTrue, if◌then◌else◌}
use Rattle.std.specs.Str.{bytes_eq}
use Rattle.shelf_io.specs.Contents.{known_file}
use Rattle.shelf_io.specs.View.{ShelfView}

-- nothing has changed but the counts of failed reads of these names, the bytes handed out, and the
-- counts of failed reads of names that are not known to be held; what was promised still is, and a
-- promised name has kept its count
pub record OnlyReads (names : List ℕ → Type 0) (old new : ShelfView) : Type 0 where
  pub contents : new.contents ≡ old.contents
  pub writes : (n : List ℕ) → new.write_faults n ≡ old.write_faults n
  pub grows : (n : List ℕ) → old.read_faults n ≤ new.read_faults n
  pub others : (n : List ℕ) → (names n → ⊥) → IsSome (known_file old.contents n) → new.read_faults n ≡ old.read_faults n
  pub reads_kept : (n : List ℕ) → IsTrue (old.reads_promised n) → IsTrue (new.reads_promised n) × (new.read_faults n ≡ old.read_faults n)
  pub writes_kept : (n : List ℕ) (bytes : ℕ) → IsTrue (old.writes_promised n bytes) → IsTrue (new.writes_promised n bytes)

-- the counts of bytes handed out have grown by at most this number, and only that of this name
abbrev pub HandsOut : List ℕ → ℕ → (old new : ShelfView) → Type 0
HandsOut name most old new = (n : List ℕ) → new.handed n ≤ old.handed n + (if bytes_eq n name then most else 0)

-- how many bytes a read returned, 0 where it failed
abbrev pub bytes_given : {E : Type 0} → Result ℕ E → ℕ
bytes_given (Ok count) = count
bytes_given (Err _) = 0

-- nothing has changed but this file, the room, the count of failed writes of its name, those of
-- names that are not known to be held, and promises to write other names, of which this says
-- nothing; a promise to write the name still holds for all but the bytes that this took
pub record OnlyWrites (name : List ℕ) (size : ℕ) (old new : ShelfView) : Type 0 where
  pub reads : (n : List ℕ) → new.read_faults n ≡ old.read_faults n
  pub handed : (n : List ℕ) → new.handed n ≡ old.handed n
  pub files : (n : List ℕ) → (n ≡ name → ⊥) → known_file new.contents n ≡ known_file old.contents n
  pub grows : (n : List ℕ) → old.write_faults n ≤ new.write_faults n
  pub others : (n : List ℕ) → (n ≡ name → ⊥) → IsSome (known_file old.contents n) → new.write_faults n ≡ old.write_faults n
  pub reads_kept : (n : List ℕ) → IsTrue (old.reads_promised n) → IsTrue (new.reads_promised n)
  pub writes_kept : (more : ℕ) → IsTrue (old.writes_promised name (size + more)) → IsTrue (new.writes_promised name more) × (new.write_faults name ≡ old.write_faults name)

-- first only reads of these names, and then, where a file is written, only writes of this many
-- bytes to its name
abbrev pub OnlyChanges : (names : List ℕ → Type 0) → Option (List ℕ × ℕ) → (old new : ShelfView) → Type 0
OnlyChanges names None old new = OnlyReads names old new
OnlyChanges names (Some file) old new = (mid : ShelfView) × OnlyReads names old mid × OnlyWrites file.0 file.1 mid new
