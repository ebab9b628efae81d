-- What a read changes of a shelf in memory, and what it leaves unchanged.
use Rattle.std.proofs.Common.{◌≡◌, ◌+◌, ◌≤◌, ◌&&◌, ◌||◌, not, ℕ, Bool, true, false, Option, Some, None, List, Result, Ok, Err, IfOk, IsOk, IsTrue, is_err, option_map, if◌then◌else◌, is_some, IsSome, nat_le, nat_lt, refl, sym, ap, ◌∙◌, subst, arith}
use Rattle.std.specs.Option.{option_map_or}
use Rattle.std.specs.Str.{bytes_eq}
use Rattle.std.proofs.lemmas.Bool.{false≢true}
use Rattle.shelf_io.specs.Calls.{is_scheduled, none_scheduled, one_more}
use Rattle.shelf_io.specs.Changes.{HandsOut, OnlyReads, bytes_given}
use Rattle.shelf_io.specs.Counts.{CountsFailure}
use Rattle.shelf_io.specs.Held.{Held, held_under, with_read}
use Rattle.shelf_io.specs.MemShelf.{ShelfState, is_held, promises_reads, promises_writes, read_after, read_fails, read_size, shelf_contents, shelf_handed, shelf_reads, shelf_view, shelf_writes}
use Rattle.shelf_io.proofs.Changes.{count_grows, count_others, counted_as, file_after, grows_one, kept, kept_or, other_name, rose_one, same_name, under_after}
use Rattle.shelf_io.proofs.Promises.{none_fails, reads_facts}
use Rattle.shelf_io.proofs.Shelves.{same_contents, same_file}

-- what a read leaves unchanged of a file
read_name : (fails : Bool) (count : ℕ) (f : Held) → (with_read fails count f).name ≡ f.name
read_name true count f = refl
read_name false count f = refl

read_bytes : (fails : Bool) (count : ℕ) (f : Held) → (with_read fails count f).bytes ≡ f.bytes
read_bytes true count f = refl
read_bytes false count f = refl

read_writes : (fails : Bool) (count : ℕ) (f : Held) → (with_read fails count f).writes ≡ f.writes
read_writes true count f = refl
read_writes false count f = refl

read_grows : (fails : Bool) (count : ℕ) (f : Held) → f.reads ≤ (with_read fails count f).reads
read_grows true count f = grows_one f.reads
read_grows false count f = omega arith

-- the read of the name, from the offset on into a buffer of `size` bytes, as a change of its file
abbrev change : ShelfState → List ℕ → (offset size : ℕ) → Held → Held
change s name offset size = with_read (read_fails s name) (read_size s name offset size)

read_under : (s : ShelfState) (name : List ℕ) (offset size : ℕ) (n : List ℕ) → held_under n (read_after s name offset size).files ≡ file_after true (bytes_eq n name) (change s name offset size) (held_under n s.files)
read_under s name offset size n = under_after true name n (change s name offset size) s.files (read_name (read_fails s name) (read_size s name offset size))

-- the count that names without a file share, after a read of the name
abbrev shared_after : ShelfState → List ℕ → ℕ
shared_after s name = if is_held s name then s.shared_reads else one_more s.shared_reads

pub shared_grows : (held : Bool) (shared : ℕ) → shared ≤ (if held then shared else one_more shared)
shared_grows true shared = omega arith
shared_grows false shared = grows_one shared

reads_are : (s : ShelfState) (name : List ℕ) (offset size : ℕ) (n : List ℕ) → shelf_reads (read_after s name offset size) n ≡ option_map_or (λ f. f.reads) (file_after true (bytes_eq n name) (change s name offset size) (held_under n s.files)) (shared_after s name)
reads_are s name offset size n = ap (λ u. option_map_or (λ f. f.reads) u (shared_after s name)) (read_under s name offset size n)

-- a read that does not fail is of a held name
fails_held : (scheduled : Bool) (u : Option Held) → (scheduled || not (is_some u)) ≡ false → IsSome u
fails_held true u h = absurd (false≢true (sym h))
fails_held false (Some f) h = refl
fails_held false None h = absurd (false≢true (sym h))

-- the file under the name that is read: a failure raises its count, and a success leaves it
-- unchanged
own_count : (fails q : Bool) (count : ℕ) (u : Option Held) (shared : ℕ) → q ≡ true → (fails ≡ false → IsSome u) → CountsFailure fails (option_map_or (λ f. f.reads) u shared) (option_map_or (λ f. f.reads) (file_after true q (with_read fails count) u) (if is_some u then shared else one_more shared))
own_count fails false count u shared e h = absurd (false≢true e)
own_count true true count None shared e h = (grows_one shared, rose_one shared)
own_count true true count (Some f) shared e h = (grows_one f.reads, rose_one f.reads)
own_count false true count None shared e h = absurd (false≢true (h refl))
own_count false true count (Some f) shared e h = refl

pub read_counted : {E : Type 0} (s t : ShelfState) (name : List ℕ) (offset size : ℕ) (result : Result ℕ E) → t ≡ read_after s name offset size → is_err result ≡ read_fails s name → CountsFailure (is_err result) (shelf_reads s name) (shelf_reads t name)
read_counted s t name offset size result e exact =
    let P : ℕ → Type 0 = λ k. CountsFailure (read_fails s name) (shelf_reads s name) k in
    counted_as result (read_fails s name) (shelf_reads s name) (shelf_reads t name) exact
    (subst P (sym (ap (λ x. shelf_reads x name) e ∙ reads_are s name offset size name))
    (own_count (read_fails s name) (bytes_eq name name) (read_size s name offset size) (held_under name s.files) s.shared_reads (same_name name) (fails_held (is_scheduled s.failing s.calls) (held_under name s.files))))

-- what is held stays held
pub held_same : (g : Held → Held) (q : Bool) (u : Option Held) → is_some (file_after true q g u) ≡ is_some u
held_same g true None = refl
held_same g true (Some f) = refl
held_same g false u = refl

held_after : (s : ShelfState) (name : List ℕ) (offset size : ℕ) (n : List ℕ) → is_held (read_after s name offset size) n ≡ is_held s n
held_after s name offset size n = ap is_some (read_under s name offset size n) ∙ held_same (change s name offset size) (bytes_eq n name) (held_under n s.files)

-- a read that is not scheduled to fail leaves the count of each held name unchanged
quiet : (fails scheduled q : Bool) (count : ℕ) (h u : Option Held) (shared shared' : ℕ) → (q ≡ true → u ≡ h) → fails ≡ (scheduled || not (is_some h)) → scheduled ≡ false → IsSome u
    → option_map_or (λ f. f.reads) (file_after true q (with_read fails count) u) shared' ≡ option_map_or (λ f. f.reads) u shared
quiet fails scheduled q count h None shared shared' same c t i = absurd (false≢true i)
quiet fails scheduled false count h (Some f) shared shared' same c t i = refl
quiet false scheduled true count h (Some f) shared shared' same c t i = refl
quiet true true true count h (Some f) shared shared' same c t i = absurd (false≢true (sym t))
quiet true false true count None (Some f) shared shared' same c t i = let e = same refl in cc
quiet true false true count (Some g) (Some f) shared shared' same c t i = absurd (false≢true (sym c))

pub read_only : (s t : ShelfState) (name : List ℕ) (offset size : ℕ) → t ≡ read_after s name offset size → OnlyReads (λ n. n ≡ name) (shelf_view s) (shelf_view t)
read_only s t name offset size e = record {
  contents =
      ap (λ x. Some (shelf_contents x)) e
      ∙ ap (λ c. Some c) (same_contents (shelf_contents (read_after s name offset size)) (shelf_contents s)
      (λ n. ap (option_map (λ f. f.bytes)) (read_under s name offset size n) ∙ kept (λ f. f.bytes) (change s name offset size) true (bytes_eq n name) (held_under n s.files) (read_bytes (read_fails s name) (read_size s name offset size)))
      refl);
  writes = λ n.
      ap (λ x. shelf_writes x n) e
      ∙ ap (λ u. option_map_or (λ f. f.writes) u s.shared_writes) (read_under s name offset size n)
      ∙ kept_or (λ f. f.writes) (change s name offset size) true (bytes_eq n name) (held_under n s.files) s.shared_writes (read_writes (read_fails s name) (read_size s name offset size));
  grows = λ n.
      let P : ℕ → Type 0 = λ k. shelf_reads s n ≤ k in
      subst P (sym (ap (λ x. shelf_reads x n) e ∙ reads_are s name offset size n))
      (count_grows (λ f. f.reads) (change s name offset size) true (bytes_eq n name) (held_under n s.files) s.shared_reads (shared_after s name) (shared_grows (is_held s name) s.shared_reads) (read_grows (read_fails s name) (read_size s name offset size)));
  others = λ n different held.
      ap (λ x. shelf_reads x n) e ∙ reads_are s name offset size n
      ∙ count_others (λ f. f.reads) (λ f. f.bytes) (change s name offset size) true (bytes_eq n name) (held_under n s.files) s.shared_reads (shared_after s name) (other_name n name different) held;
  reads_kept = λ n h.
      let P : ShelfState → Type 0 = λ x. IsTrue (promises_reads x n) in
      let w = reads_facts s n h in (
        subst P (sym e) (ap (λ b. none_scheduled s.failing && b) (held_after s name offset size n) ∙ h),
        ap (λ x. shelf_reads x n) e ∙ reads_are s name offset size n
            ∙ quiet (read_fails s name) (is_scheduled s.failing s.calls) (bytes_eq n name) (read_size s name offset size) (held_under name s.files) (held_under n s.files) s.shared_reads (shared_after s name)
            (same_file name n s.files) refl (none_fails s.failing s.calls w.none) w.held,
      );
  writes_kept = λ n bytes h.
      let P : ShelfState → Type 0 = λ x. IsTrue (promises_writes x n bytes) in
      subst P (sym e) (ap (λ b. none_scheduled s.failing && (b || nat_lt 0 s.slots) && nat_le bytes s.room) (held_after s name offset size n) ∙ h);
}

-- a read of a held name that is not scheduled to fail does not fail
passes : (scheduled : Bool) (u : Option Held) → scheduled ≡ false → IsSome u → (scheduled || not (is_some u)) ≡ false
passes true u t h = absurd (false≢true (sym t))
passes false (Some f) t h = refl
passes false None t h = absurd (false≢true h)

pub is_fine : {T E : Type 0} (result : Result T E) → is_err result ≡ false → IsOk result
is_fine (Ok _) h = refl
is_fine (Err _) h = absurd (false≢true (sym h))

-- a promised read does not fail
pub read_promised : {E : Type 0} (s : ShelfState) (name : List ℕ) (result : Result ℕ E) → is_err result ≡ read_fails s name → IsTrue (promises_reads s name) → IsOk result
read_promised s name result exact h =
    let w = reads_facts s name h in
    is_fine result (exact ∙ passes (is_scheduled s.failing s.calls) (held_under name s.files) (none_fails s.failing s.calls w.none) w.held)

-- ---- the bytes handed out

handed_step : (fails q : Bool) (count : ℕ) (u : Option Held) → option_map_or (λ f. f.handed) (file_after true q (with_read fails count) u) 0 ≤ option_map_or (λ f. f.handed) u 0 + (if q then (if fails then 0 else count) else 0)
handed_step fails true count None = omega arith
handed_step true true count (Some f) = omega arith
handed_step false true count (Some f) = omega arith
handed_step fails false count u = omega arith

bytes_given_is : {E : Type 0} (result : Result ℕ E) (fails : Bool) (count : ℕ) → is_err result ≡ fails → IfOk result (λ k. k ≡ count) → (if fails then 0 else count) ≡ bytes_given result
bytes_given_is (Ok k) true count e c = absurd (false≢true e)
bytes_given_is (Ok k) false count e c = sym c
bytes_given_is (Err x) true count e c = refl
bytes_given_is (Err x) false count e c = absurd (false≢true (sym e))

pub read_handed : {E : Type 0} (s t : ShelfState) (name : List ℕ) (offset size : ℕ) (result : Result ℕ E) → t ≡ read_after s name offset size → is_err result ≡ read_fails s name → IfOk result (λ k. k ≡ read_size s name offset size) → HandsOut name (bytes_given result) (shelf_view s) (shelf_view t)
read_handed s t name offset size result e exact count = λ n.
    let P : ℕ → Type 0 = λ k. k ≤ shelf_handed s n + (if bytes_eq n name then bytes_given result else 0) in
    let Q : ℕ → Type 0 = λ k. option_map_or (λ f. f.handed) (file_after true (bytes_eq n name) (change s name offset size) (held_under n s.files)) 0 ≤ shelf_handed s n + (if bytes_eq n name then k else 0) in
    subst P (sym (ap (λ x. shelf_handed x n) e ∙ ap (λ u. option_map_or (λ f. f.handed) u 0) (read_under s name offset size n)))
    (subst Q (bytes_given_is result (read_fails s name) (read_size s name offset size) exact count)
    (handed_step (read_fails s name) (bytes_eq n name) (read_size s name offset size) (held_under n s.files)))
