-- The possible results of a due read.
use Rattle.std.specs.Prelude.{◌≡◌, ℕ, ◌≤◌, List, length, Option, Some, None, IfSome, IsSomeAnd, IsTrue, nat_le, if◌then◌else◌}
use Rattle.shelf_io.specs.Contents.{Contents}
use Rattle.shelf_io.specs.Counts.{IsRaised}
use Rattle.shelf_io.specs.View.{ShelfView}

-- the bytes, or None where there are more than the limit
abbrev pub up_to_limit : ℕ → List ℕ → Option (List ℕ)
up_to_limit limit bytes = if nat_le (length bytes) limit then Some bytes else None

-- a possible result of a read of the file with this name; where the files are known: all its bytes,
-- or None where they are more than the limit, and no result is possible where there is no such
-- file; else: any bytes up to the limit, or None
pub record CanBeRead (contents : Option Contents) (name : List ℕ) (limit : ℕ) (bytes_read : Option (List ℕ)) : Type 0 where
  pub short : IfSome bytes_read (λ bytes. length bytes ≤ limit)
  pub known : IfSome contents (λ c. IsSomeAnd (c.file name) (λ bytes. bytes_read ≡ up_to_limit limit bytes))

-- a read of the name failed, and it had not been promised to succeed
pub record FailsToRead (before after : ShelfView) (name : List ℕ) : Type 0 where
  pub rose : IsRaised (before.read_faults name) (after.read_faults name)
  pub unpromised : IsTrue (before.reads_promised name) → ⊥
