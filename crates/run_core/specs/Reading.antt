-- The files that are read one after the other, and what is made of them.
use Rattle.std.specs.Prelude.{◌≡◌, ◌⊎◌, ◌+◌, ◌-◌, ◌≤◌, ℕ, List, [], ◌∷◌, Option, Some, None, Result, Ok, Err, if◌then◌else◌}
use Rattle.std.specs.Str.{bytes_eq}
use Rattle.shelf_io.specs.Changes.{OnlyReads}
use Rattle.shelf_io.specs.Contents.{Contents}
use Rattle.shelf_io.specs.View.{ShelfView}
use Rattle.run_core.specs.Due.{CanBeRead, up_to_limit}

-- Due files are read one after the other. What is asked for next, or what is made, may depend on
-- the bytes read so far: a job is judged before its tables are due. `asks` is a read of the file
-- with this name, and the rest, which is given its bytes, or None where there are more than `limit`
pub data Reading (X : Type 0) : Type 0 where
  makes : X → Reading X
  asks : (name : List ℕ) (limit : ℕ) → (Option (List ℕ) → Reading X) → Reading X

-- a reading, and then another, which may depend on what the first makes
abbrev pub then_reads : {X Y : Type 0} → Reading X → (X → Reading Y) → Reading Y
then_reads (makes x) next = next x
then_reads (asks name limit rest) next = asks name limit (λ bytes_read. then_reads (rest bytes_read) next)

-- a file that is due, and how many bytes it may have
pub record DueFile : Type 0 where
  pub name : List ℕ
  pub limit : ℕ

abbrev pub one_file : DueFile → Reading (Option (List ℕ))
one_file file = asks file.name file.limit (λ bytes_read. makes bytes_read)

-- these files are due, one after the other
unfoldable pub each_file : List DueFile → Reading (List (Option (List ℕ)))
each_file [] = makes []
each_file (file ∷ files) = then_reads (one_file file) (λ first. then_reads (each_file files) (λ others. makes (first ∷ others)))

-- a file is due, if there is one
abbrev pub any_file : Option DueFile → Reading (Option (List ℕ))
any_file None = makes None
any_file (Some file) = one_file file

abbrev pub held_or_missing : {T : Type 0} → List ℕ → Option (List ℕ) → (List ℕ → Result T (List ℕ)) → Result T (List ℕ)
held_or_missing name None go = Err name
held_or_missing name (Some bytes) go = go bytes

-- what is made of these files, or the first due name that has no file
abbrev pub result_of : {X : Type 0} → (List ℕ → Option (List ℕ)) → Reading X → Result X (List ℕ)
result_of files (makes x) = Ok x
result_of files (asks name limit next) = held_or_missing name (files name) (λ bytes. result_of files (next (up_to_limit limit bytes)))

-- this is made for some possible results of the reads; where the files are known, at most one value
-- is possible, and none where a due name has no file
abbrev pub Gets : {X : Type 0} → Option Contents → Reading X → X → Type 0
Gets contents (makes given) x = x ≡ given
Gets contents (asks name limit next) x = (bytes_read : Option (List ℕ)) × CanBeRead contents name limit bytes_read × Gets contents (next bytes_read) x

-- a file with this name is due, for some possible results of the reads before it
abbrev pub IsDue : {X : Type 0} → Option Contents → Reading X → List ℕ → Type 0
IsDue contents (makes x) name = ⊥
IsDue contents (asks first limit next) name =
    (name ≡ first) ⊎ ((bytes_read : Option (List ℕ)) × CanBeRead contents first limit bytes_read × IsDue contents (next bytes_read) name)

-- the number of bytes of the file `name` that a due read of the file `first` may take: one more
-- than its limit, and 0 where the two names differ
abbrev pub due_bytes : List ℕ → ℕ → List ℕ → ℕ
due_bytes first limit name = if bytes_eq name first then limit + 1 else 0

-- at most this many bytes of the file with this name may be taken: `due_bytes` for each due read,
-- each of them made once, up to one after which no other follows
abbrev pub MayTake : {X : Type 0} → Option Contents → Reading X → List ℕ → ℕ → Type 0
MayTake contents (makes x) name count = count ≡ 0
MayTake contents (asks first limit next) name count =
    (count ≤ due_bytes first limit name)
    ⊎ ((bytes_read : Option (List ℕ)) × CanBeRead contents first limit bytes_read × ((rest : ℕ) × MayTake contents (next bytes_read) name rest × (count ≤ due_bytes first limit name + rest)))

-- the same of a reading that is made whole, and makes this value
abbrev pub Takes : {X : Type 0} → Option Contents → Reading X → X → List ℕ → ℕ → Type 0
Takes contents (makes given) x name count = (x ≡ given) × (count ≡ 0)
Takes contents (asks first limit next) x name count =
    (bytes_read : Option (List ℕ)) × CanBeRead contents first limit bytes_read × ((rest : ℕ) × Takes contents (next bytes_read) x name rest × (count ≤ due_bytes first limit name + rest))

-- only due files were read, and of each at most one byte more than its limit each time that it is
-- due
pub record ReadsDue {X : Type 0} (reading : Reading X) (before after : ShelfView) : Type 0 where
  pub effect : OnlyReads (IsDue before.contents reading) before after
  pub taken : (n : List ℕ) → MayTake before.contents reading n (after.handed n - before.handed n)

-- all due files were read, and this is made of them
pub record Reads {X : Type 0} (reading : Reading X) (x : X) (before after : ShelfView) : Type 0 where
  pub made : Gets before.contents reading x
  pub effect : OnlyReads (IsDue before.contents reading) before after
  pub taken : (n : List ℕ) → Takes before.contents reading x n (after.handed n - before.handed n)
