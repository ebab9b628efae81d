-- A read of a name, as a change of the shelf in memory.
use Rattle.std.proofs.Common.{◌≡◌, ◌-◌, ◌≤◌, ◌||◌, not, ℕ, Bool, true, false, Option, Some, None, List, length, get_or, if◌then◌else◌, is_some, min, take, drop, Ok, refl, sym, ap, ◌∙◌, arith}
use Rattle.std.proofs.Math.ListN.{set}
use Rattle.std.proofs.lemmas.Bool.{false≢true}
use Rattle.shelf_io.specs.Calls.{one_more, is_scheduled}
use Rattle.shelf_io.specs.Held.{Held, held_under, index_of, change_under, with_failed_read, with_handed, with_read}
use Rattle.shelf_io.specs.MemShelf.{ShelfState, is_held, read_fails, read_after, read_size, shelf_contents}
use Rattle.shelf_io.specs.declared.failed.Failed.{Failed}
use Rattle.shelf_io.specs.Reading.{Reads}
use Rattle.shelf_io.proofs.Files.{change_at, change_missing, read_there, read_nowhere}

or_missing : (scheduled : Bool) (o : Option Held) → o ≡ None → true ≡ (scheduled || not (is_some o))
or_missing true o h = refl
or_missing false None h = refl
or_missing false (Some f) h = cc

or_scheduled : (scheduled : Bool) (o : Option Held) → true ≡ scheduled → true ≡ (scheduled || not (is_some o))
or_scheduled true o h = refl
or_scheduled false o h = absurd (false≢true (sym h))

or_held : (scheduled : Bool) (o : Option Held) (f : Held) → false ≡ scheduled → o ≡ Some f → false ≡ (scheduled || not (is_some o))
or_held true o f h k = absurd (false≢true h)
or_held false (Some g) f h k = refl
or_held false None f h k = cc

shared_held : (o : Option Held) (f : Held) (shared : ℕ) → o ≡ Some f → shared ≡ (if is_some o then shared else one_more shared)
shared_held (Some g) f shared h = refl
shared_held None f shared h = cc

shared_missing : (o : Option Held) (shared : ℕ) → o ≡ None → one_more shared ≡ (if is_some o then shared else one_more shared)
shared_missing None shared h = refl
shared_missing (Some g) shared h = cc

-- a read that fails, and one that does not, as changes of a file
failing : (fails : Bool) (count : ℕ) → true ≡ fails → with_failed_read ≡ with_read fails count
failing true count h = refl
failing false count h = absurd (false≢true (sym h))

giving : (fails : Bool) (size count : ℕ) → false ≡ fails → size ≡ count → with_handed size ≡ with_read fails count
giving true size count h e = absurd (false≢true h)
giving false size count h e = ap (λ k. with_handed k) e

state_is : (s : ShelfState) (name : List ℕ) (offset size : ℕ) (files : List Held) (shared calls : ℕ) → files ≡ change_under name (with_read (read_fails s name) (read_size s name offset size)) s.files → shared ≡ (if is_held s name then s.shared_reads else one_more s.shared_reads) → calls ≡ one_more s.calls
    → record s { files = files; shared_reads = shared; calls = calls } ≡ read_after s name offset size
state_is s name offset size files shared calls f g h = λ i. record s { files = f i; shared_reads = g i; calls = h i }

-- a read of a name that is not held fails
pub missing_fails : (s : ShelfState) (name : List ℕ) (seen : List Held) → seen ≡ s.files → None ≡ index_of name seen → true ≡ read_fails s name
missing_fails s name seen e p = or_missing (is_scheduled s.failing s.calls) (held_under name s.files) (read_nowhere name s.files seen e p)

-- .. and raises the shared count
pub missing_after : (s : ShelfState) (name : List ℕ) (offset size : ℕ) (seen : List Held) (shared calls : ℕ) → seen ≡ s.files → None ≡ index_of name seen → shared ≡ one_more s.shared_reads → calls ≡ one_more s.calls
    → record s { shared_reads = shared; calls = calls } ≡ read_after s name offset size
missing_after s name offset size seen shared calls e p g h =
    let gone = read_nowhere name s.files seen e p in
    state_is s name offset size s.files shared calls
    (sym (change_missing name (with_read (read_fails s name) (read_size s name offset size)) s.files gone))
    (g ∙ shared_missing (held_under name s.files) s.shared_reads gone) h

-- a change at the index of the name
changed : (s : ShelfState) (name : List ℕ) (seen : List Held) (at : ℕ) (d file : Held) (change : Held → Held) → seen ≡ s.files → Some at ≡ index_of name seen → d ≡ get_or s.files at d → file ≡ change d → set s.files at file ≡ change_under name change s.files
changed s name seen at d file change e p g w =
    ap (λ f. set s.files at f) (w ∙ ap change g) ∙ change_at name change s.files at d (ap (index_of name) (sym e) ∙ sym p)

-- a read that is scheduled to fail raises the count of its file
pub scheduled_after : (s : ShelfState) (name : List ℕ) (offset size : ℕ) (seen : List Held) (at calls : ℕ) (d file : Held) (scheduled : Bool) → seen ≡ s.files → Some at ≡ index_of name seen → d ≡ get_or s.files at d → scheduled ≡ is_scheduled s.failing s.calls → scheduled ≡ true → file ≡ with_failed_read d → calls ≡ one_more s.calls
    → record s { files = set s.files at file; calls = calls } ≡ read_after s name offset size
scheduled_after s name offset size seen at calls d file scheduled e p g t said w h =
    let found = read_there name s.files seen at d e p g in
    let fails : true ≡ read_fails s name = or_scheduled (is_scheduled s.failing s.calls) (held_under name s.files) (sym said ∙ t) in
    state_is s name offset size (set s.files at file) s.shared_reads calls
    (changed s name seen at d file with_failed_read e p g w ∙ ap (λ change. change_under name change s.files) (failing (read_fails s name) (read_size s name offset size) fails))
    (shared_held (held_under name s.files) d s.shared_reads found) h

-- a read of a held name that is not scheduled to fail passes
pub held_passes : (s : ShelfState) (name : List ℕ) (seen : List Held) (at : ℕ) (d : Held) (scheduled : Bool) → seen ≡ s.files → Some at ≡ index_of name seen → d ≡ get_or s.files at d → scheduled ≡ is_scheduled s.failing s.calls → scheduled ≡ false → false ≡ read_fails s name
held_passes s name seen at d scheduled e p g t unsaid =
    or_held (is_scheduled s.failing s.calls) (held_under name s.files) d (sym unsaid ∙ t) (read_there name s.files seen at d e p g)

-- how many bytes a read of a held name returns
pub held_size : (s : ShelfState) (name : List ℕ) (seen : List Held) (at offset size count : ℕ) (d : Held) (bytes : List ℕ) → seen ≡ s.files → Some at ≡ index_of name seen → d ≡ get_or s.files at d → bytes ≡ d.bytes → count ≡ min s.most (min size (length bytes - offset)) → count ≡ read_size s name offset size
held_size s name seen at offset size count d bytes e p g b h =
    let found = read_there name s.files seen at d e p g in
    rw found (h ∙ ap (λ xs. min s.most (min size (length xs - offset))) b)

-- .. and counts them
pub held_after : (s : ShelfState) (name : List ℕ) (offset size : ℕ) (seen : List Held) (at count calls : ℕ) (d file : Held) (scheduled : Bool) → seen ≡ s.files → Some at ≡ index_of name seen → d ≡ get_or s.files at d → scheduled ≡ is_scheduled s.failing s.calls → scheduled ≡ false → count ≡ read_size s name offset size → file ≡ with_handed count d → calls ≡ one_more s.calls
    → record s { files = set s.files at file; calls = calls } ≡ read_after s name offset size
held_after s name offset size seen at count calls d file scheduled e p g t unsaid k w h =
    let found = read_there name s.files seen at d e p g in
    state_is s name offset size (set s.files at file) s.shared_reads calls
    (changed s name seen at d file (with_handed count) e p g w ∙ ap (λ change. change_under name change s.files) (giving (read_fails s name) count (read_size s name offset size) (held_passes s name seen at d scheduled e p g t unsaid) k))
    (shared_held (held_under name s.files) d s.shared_reads found) h

-- the bytes that a read of a held name returns are those of its file from the offset on
pub held_bytes : (s : ShelfState) (name : List ℕ) (seen : List Held) (at offset count : ℕ) (d : Held) (bytes into : List ℕ) → seen ≡ s.files → Some at ≡ index_of name seen → d ≡ get_or s.files at d → bytes ≡ d.bytes → 1 ≤ s.most → count ≡ min s.most (min (length into) (length bytes - offset)) → take count into ≡ take count (drop offset bytes)
    → Reads {E = Failed} (Some (shelf_contents s)) name offset (Ok count) into
held_bytes s name seen at offset count d bytes into e p g b most h t =
    let found = read_there name s.files seen at d e p g in
    let l : length bytes ≡ length d.bytes = ap length b in
    rw found (t ∙ ap (λ xs. take count (drop offset xs)) b, omega arith, λ zero some. omega arith)
