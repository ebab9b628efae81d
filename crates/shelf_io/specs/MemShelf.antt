-- A shelf in memory, and how its calls change it.
use Rattle.std.specs.Prelude.{◌==◌, ◌&&◌, ◌+◌, ◌-◌, ◌^◌, ◌||◌, not, ℕ, Bool, List, [], ◌∷◌, ◌++◌, length, take, min, if◌then◌else◌, option_map, is_some, Some, nat_le, nat_lt}
use Rattle.std.specs.Option.{option_map_or}
use Rattle.shelf_io.specs.Calls.{one_more, is_scheduled, none_scheduled, is_refused, fitting}
use Rattle.shelf_io.specs.Contents.{Contents}
use Rattle.shelf_io.specs.View.{ShelfView}
use Rattle.shelf_io.specs.Held.{Held, held_under, change_under, with_bytes, with_failed_write, with_read, without_bytes, with_piece}

-- the files, the counts that all names which are not held share, the room for appended bytes, the
-- number of slots for new names, the most bytes that a read returns, how many calls there have
-- been, and the numbers of the calls that fail
pub record ShelfState : Type 0 where
  pub files : List Held
  pub shared_reads : ℕ
  pub shared_writes : ℕ
  pub room : ℕ
  pub slots : ℕ
  pub most : ℕ
  pub calls : ℕ
  pub failing : List ℕ

-- a shelf that holds no file
abbrev pub fresh_shelf : ℕ → ℕ → ShelfState
fresh_shelf room slots =
    record { files = []; shared_reads = 0; shared_writes = 0; room = room; slots = slots; most = 2 ^ 64 - 1; calls = 0; failing = [] }

-- the name is held
abbrev pub is_held : ShelfState → List ℕ → Bool
is_held s name = is_some (held_under name s.files)

-- the bytes under each name, and the room
abbrev pub shelf_contents : ShelfState → Contents
shelf_contents s = record { file = λ name. option_map (λ file. file.bytes) (held_under name s.files); room = s.room }

-- the count of failed reads that applies to the name: that of its file, or the one that names
-- without a file share
abbrev pub shelf_reads : ShelfState → List ℕ → ℕ
shelf_reads s name = option_map_or (λ file. file.reads) (held_under name s.files) s.shared_reads

-- the count of failed writes that applies to the name, as for reads
abbrev pub shelf_writes : ShelfState → List ℕ → ℕ
shelf_writes s name = option_map_or (λ file. file.writes) (held_under name s.files) s.shared_writes

-- how many bytes reads of the name handed out
abbrev pub shelf_handed : ShelfState → List ℕ → ℕ
shelf_handed s name = option_map_or (λ file. file.handed) (held_under name s.files) 0

-- no call is scheduled to fail, and the name is held
abbrev pub promises_reads : ShelfState → List ℕ → Bool
promises_reads s name = none_scheduled s.failing && is_held s name

-- no call is scheduled to fail, the name is held or there is a slot for it, and there is room for
-- this many bytes
abbrev pub promises_writes : ShelfState → List ℕ → ℕ → Bool
promises_writes s name bytes = none_scheduled s.failing && (is_held s name || nat_lt 0 s.slots) && nat_le bytes s.room

-- all that callers know of the shelf
abbrev pub shelf_view : ShelfState → ShelfView
shelf_view s = record {
  contents = Some (shelf_contents s);
  read_faults = shelf_reads s;
  write_faults = shelf_writes s;
  handed = shelf_handed s;
  reads_promised = promises_reads s;
  writes_promised = promises_writes s;
}

-- the shelf with these bytes under the name, which keeps its counts
abbrev pub shelf_with : List ℕ → List ℕ → ShelfState → ShelfState
shelf_with name bytes s = record s {
  files =
      if is_held s name
      then change_under name (with_bytes bytes s.room) s.files
      else s.files ++ record { name = name; bytes = bytes; reserved = length bytes + s.room; reads = s.shared_reads; writes = s.shared_writes; handed = 0 } ∷ [];
}

-- the next call is scheduled to fail, or the name is not held
abbrev pub read_fails : ShelfState → List ℕ → Bool
read_fails s name = is_scheduled s.failing s.calls || not (is_held s name)

-- how many bytes a read that does not fail returns, into a buffer of `size` bytes
abbrev pub read_size : ShelfState → List ℕ → (offset size : ℕ) → ℕ
read_size s name offset size =
    min s.most (min size (option_map_or (λ file. length file.bytes - offset) (held_under name s.files) 0))

-- the shelf after the next call, a read of the name from the offset on into a buffer of `size`
-- bytes
abbrev pub read_after : ShelfState → List ℕ → (offset size : ℕ) → ShelfState
read_after s name offset size = record s {
  files = change_under name (with_read (read_fails s name) (read_size s name offset size)) s.files;
  shared_reads = if is_held s name then s.shared_reads else one_more s.shared_reads;
  calls = one_more s.calls;
}

-- the next call is scheduled to fail, or the name is new and no slot is left
abbrev pub create_fails : ShelfState → List ℕ → Bool
create_fails s name = is_scheduled s.failing s.calls || (not (is_held s name) && s.slots == 0)

-- the shelf after a call that failed to write the name
abbrev pub failed_write : ShelfState → List ℕ → ShelfState
failed_write s name = record s {
  files = change_under name with_failed_write s.files;
  shared_writes = if is_held s name then s.shared_writes else one_more s.shared_writes;
  calls = one_more s.calls;
}

-- the shelf after a call that emptied the file of a held name
abbrev pub with_empty_file : ShelfState → List ℕ → ShelfState
with_empty_file s name = record s { files = change_under name without_bytes s.files; calls = one_more s.calls }

-- the shelf after a call that used a slot for a new name, with the counts that names which are not
-- held share
abbrev pub with_new_file : ShelfState → List ℕ → ShelfState
with_new_file s name = record s {
  files = s.files ++ record { name = name; bytes = []; reserved = s.room; reads = s.shared_reads; writes = s.shared_writes; handed = 0 } ∷ [];
  slots = s.slots - 1;
  calls = one_more s.calls;
}

-- the shelf after the next call, a create of the name
abbrev pub create_after : ShelfState → List ℕ → ShelfState
create_after s name = if create_fails s name then failed_write s name else (if is_held s name then with_empty_file s name else with_new_file s name)

-- the next call is scheduled to fail, or the piece is longer than the room
abbrev pub append_fails : ShelfState → List ℕ → Bool
append_fails s piece = is_refused (is_scheduled s.failing s.calls) s.room (length piece)

-- how many bytes of the piece the next call adds
abbrev pub append_size : ShelfState → List ℕ → ℕ
append_size s piece = fitting (is_scheduled s.failing s.calls) s.room (length piece)

-- the shelf after the next call, an append of the piece to a held name
abbrev pub append_after : ShelfState → List ℕ → List ℕ → ShelfState
append_after s name piece = record s {
  files = change_under name (with_piece (append_fails s piece) (take (append_size s piece) piece)) s.files;
  room = s.room - append_size s piece;
  calls = one_more s.calls;
}

-- the shelf with one more call that fails
abbrev pub failing_shelf : ℕ → ShelfState → ShelfState
failing_shelf call s = record s { failing = s.failing ++ call ∷ [] }

-- the shelf with reads limited to `most` bytes
abbrev pub short_reads : ℕ → ShelfState → ShelfState
short_reads most s = record s { most = most }
