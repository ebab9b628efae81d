-- What an append changes of a shelf in memory, and what it leaves unchanged.
use Rattle.std.proofs.Common.{◌≡◌, ◌+◌, ◌-◌, ◌≤◌, ◌&&◌, ◌||◌, ℕ, Bool, true, false, Option, Some, None, Result, Ok, Err, IsOk, List, ◌++◌, length, take, option_map, if◌then◌else◌, is_some, IsSome, IsTrue, is_err, nat_lt, refl, sym, ap, ◌∙◌, subst, arith, length-take}
use Rattle.std.specs.Option.{option_map_or}
use Rattle.std.specs.Str.{bytes_eq}
use Rattle.std.proofs.lemmas.Bool.{false≢true}
use Rattle.std.proofs.lemmas.Bool.Decides.{nat_tests}
use Rattle.std.proofs.lemmas.List.{take_all}
use Rattle.shelf_io.specs.Calls.{fitting, is_refused, is_scheduled, none_scheduled, one_more}
use Rattle.shelf_io.specs.Changes.{OnlyWrites}
use Rattle.shelf_io.specs.Contents.{Adds, AddsTo, add_piece, known_file}
use Rattle.shelf_io.specs.Counts.{CountsFailure, IsRaised}
use Rattle.shelf_io.specs.Held.{Held, held_under, with_piece}
use Rattle.shelf_io.specs.MemShelf.{ShelfState, append_after, append_fails, append_size, is_held, promises_reads, promises_writes, shelf_contents, shelf_handed, shelf_reads, shelf_view, shelf_writes}
use Rattle.shelf_io.proofs.Changes.{count_grows, count_others, counted, counted_as, file_after, grows_or, kept_or, other_name, rose_one, same_name, under_after}
use Rattle.shelf_io.proofs.Promises.{none_fails, writes_facts, writes_promise}
use Rattle.shelf_io.proofs.ReadKeeps.{held_same, is_fine}
use Rattle.shelf_io.proofs.Shelves.{same_contents}

-- the prefix of its piece that an append adds
abbrev prefix_of : ShelfState → List ℕ → List ℕ
prefix_of s piece = take (append_size s piece) piece

append_under : (s : ShelfState) (name piece n : List ℕ) → held_under n (append_after s name piece).files ≡ file_after true (bytes_eq n name) (with_piece (append_fails s piece) (prefix_of s piece)) (held_under n s.files)
append_under s name piece n = under_after true name n (with_piece (append_fails s piece) (prefix_of s piece)) s.files (λ _. refl)

-- ---- how many bytes are appended

fitting_most : (scheduled : Bool) (room size : ℕ) → fitting scheduled room size ≤ size
fitting_most true room size = grind arith
fitting_most false room size = omega arith

fitting_room : (scheduled : Bool) (room size : ℕ) → fitting scheduled room size ≤ room
fitting_room true room size = omega arith
fitting_room false room size = omega arith

prefix_size : (s : ShelfState) (piece : List ℕ) → length (prefix_of s piece) ≡ append_size s piece
prefix_size s piece = let h = fitting_most (is_scheduled s.failing s.calls) s.room (length piece) in simp length-take (omega arith)

whole_step : (scheduled : Bool) (room size : ℕ) → is_refused scheduled room size ≡ false → fitting scheduled room size ≡ size
whole_step true room size h = absurd (false≢true (sym h))
whole_step false room size h = grind (arith, nat_tests)

prefix_whole : (s : ShelfState) (piece : List ℕ) → append_fails s piece ≡ false → prefix_of s piece ≡ piece
prefix_whole s piece h =
    let e : append_size s piece ≡ length piece = whole_step (is_scheduled s.failing s.calls) s.room (length piece) h in
    take_all (append_size s piece) piece (omega arith)

-- ---- the contents

added_step : (q fails : Bool) (prefix : List ℕ) (u : Option Held) → option_map (λ f. f.bytes) (file_after true q (with_piece fails prefix) u) ≡ (if q then option_map (λ bytes. bytes ++ prefix) (option_map (λ f. f.bytes) u) else option_map (λ f. f.bytes) u)
added_step true fails prefix None = refl
added_step true fails prefix (Some f) = refl
added_step false fails prefix u = refl

append_adds : (s t : ShelfState) (name piece : List ℕ) → t ≡ append_after s name piece → AddsTo name (prefix_of s piece) (Some (shelf_contents s)) (Some (shelf_contents t))
append_adds s t name piece e =
    let size = prefix_size s piece in
    let most = fitting_room (is_scheduled s.failing s.calls) s.room (length piece) in (
      ap (λ x. Some (shelf_contents x)) e
          ∙ ap (λ c. Some c) (same_contents (shelf_contents (append_after s name piece)) (add_piece name (prefix_of s piece) (shelf_contents s))
          (λ n. ap (option_map (λ f. f.bytes)) (append_under s name piece n) ∙ added_step (bytes_eq n name) (append_fails s piece) (prefix_of s piece) (held_under n s.files))
          (ap (λ k. s.room - k) (sym size))),
      omega arith,
    )

pub append_contents : {T E : Type 0} (s t : ShelfState) (name piece : List ℕ) (result : Result T E) → t ≡ append_after s name piece → is_err result ≡ append_fails s piece → Adds name piece result (Some (shelf_contents s)) (Some (shelf_contents t))
append_contents s t name piece (Ok _) e exact =
    let P : List ℕ → Type 0 = λ prefix. AddsTo name prefix (Some (shelf_contents s)) (Some (shelf_contents t)) in
    subst P (prefix_whole s piece (sym exact)) (append_adds s t name piece e)
append_contents s t name piece (Err _) e exact = (append_size s piece, append_adds s t name piece e)

-- ---- the counts of failed writes

append_writes : (s t : ShelfState) (name piece n : List ℕ) → t ≡ append_after s name piece → shelf_writes t n ≡ option_map_or (λ f. f.writes) (file_after true (bytes_eq n name) (with_piece (append_fails s piece) (prefix_of s piece)) (held_under n s.files)) s.shared_writes
append_writes s t name piece n e = ap (λ x. shelf_writes x n) e ∙ ap (λ u. option_map_or (λ f. f.writes) u s.shared_writes) (append_under s name piece n)

append_grows : (s t : ShelfState) (name piece : List ℕ) → t ≡ append_after s name piece → (n : List ℕ) → shelf_writes s n ≤ shelf_writes t n
append_grows s t name piece e = λ n.
    let P : ℕ → Type 0 = λ k. shelf_writes s n ≤ k in
    let least : s.shared_writes ≤ s.shared_writes = omega arith in
    subst P (sym (append_writes s t name piece n e))
    (count_grows (λ f. f.writes) (with_piece (append_fails s piece) (prefix_of s piece)) true (bytes_eq n name) (held_under n s.files) s.shared_writes s.shared_writes least (λ f. grows_or (append_fails s piece) f.writes))

same_or : (fails : Bool) (n : ℕ) → fails ≡ false → (if fails then one_more n else n) ≡ n
same_or true n h = absurd (false≢true (sym h))
same_or false n h = refl

-- an append that does not fail leaves every count unchanged
append_stands : (s t : ShelfState) (name piece : List ℕ) → t ≡ append_after s name piece → append_fails s piece ≡ false → (n : List ℕ) → shelf_writes t n ≡ shelf_writes s n
append_stands s t name piece e passes = λ n.
    append_writes s t name piece n e
    ∙ kept_or (λ f. f.writes) (with_piece (append_fails s piece) (prefix_of s piece)) true (bytes_eq n name) (held_under n s.files) s.shared_writes (λ f. same_or (append_fails s piece) f.writes passes)

rose_step : (fails q : Bool) (prefix : List ℕ) (u : Option Held) (shared : ℕ) → fails ≡ true → q ≡ true → IsSome (option_map (λ f. f.bytes) u) → IsRaised (option_map_or (λ f. f.writes) u shared) (option_map_or (λ f. f.writes) (file_after true q (with_piece fails prefix) u) shared)
rose_step false q prefix u shared f k held = absurd (false≢true f)
rose_step true false prefix u shared f k held = absurd (false≢true k)
rose_step true true prefix None shared f k held = absurd (false≢true held)
rose_step true true prefix (Some file) shared f k held = rose_one file.writes

append_rose : (s t : ShelfState) (name piece : List ℕ) → t ≡ append_after s name piece → IsSome (option_map (λ f. f.bytes) (held_under name s.files)) → append_fails s piece ≡ true → IsRaised (shelf_writes s name) (shelf_writes t name)
append_rose s t name piece e held fails =
    let P : ℕ → Type 0 = λ k. IsRaised (shelf_writes s name) k in
    subst P (sym (append_writes s t name piece name e)) (rose_step (append_fails s piece) (bytes_eq name name) (prefix_of s piece) (held_under name s.files) s.shared_writes fails (same_name name) held)

pub append_counted : {T E : Type 0} (s t : ShelfState) (name piece : List ℕ) (result : Result T E) → t ≡ append_after s name piece → IsSome (option_map (λ f. f.bytes) (held_under name s.files)) → is_err result ≡ append_fails s piece → CountsFailure (is_err result) (shelf_writes s name) (shelf_writes t name)
append_counted s t name piece result e held exact =
    counted_as result (append_fails s piece) (shelf_writes s name) (shelf_writes t name) exact
    (counted (append_fails s piece) (shelf_writes s name) (shelf_writes t name) (append_grows s t name piece e name) (append_rose s t name piece e held) (λ f. append_stands s t name piece e f name))

-- ---- what is promised

refused_step : (scheduled : Bool) (room size more : ℕ) → scheduled ≡ false → size + more ≤ room → is_refused scheduled room size ≡ false
refused_step true room size more t h = absurd (false≢true (sym t))
refused_step false room size more t h = grind (arith, nat_tests)

promise_passes : (s : ShelfState) (name piece : List ℕ) (more : ℕ) → IsTrue (promises_writes s name (length piece + more)) → append_fails s piece ≡ false
promise_passes s name piece more h =
    let w = writes_facts s name (length piece + more) h in
    refused_step (is_scheduled s.failing s.calls) s.room (length piece) more (none_fails s.failing s.calls w.none) w.room

pub append_promised : {T E : Type 0} (s : ShelfState) (name piece : List ℕ) (result : Result T E) → is_err result ≡ append_fails s piece → (more : ℕ) → IsTrue (promises_writes s name (length piece + more)) → IsOk result
append_promised s name piece result exact = λ more h. is_fine result (exact ∙ promise_passes s name piece more h)

held_after : (s : ShelfState) (name piece n : List ℕ) → is_held (append_after s name piece) n ≡ is_held s n
held_after s name piece n = ap is_some (append_under s name piece n) ∙ held_same (with_piece (append_fails s piece) (prefix_of s piece)) (bytes_eq n name) (held_under n s.files)

pub append_kept : (s t : ShelfState) (name piece : List ℕ) → t ≡ append_after s name piece → (n : List ℕ) (more : ℕ) → IsTrue (promises_writes s n (length piece + more)) → IsTrue (promises_writes t n more) × (shelf_writes t n ≡ shelf_writes s n)
append_kept s t name piece e = λ n more h.
    let w = writes_facts s n (length piece + more) h in
    let P : ShelfState → Type 0 = λ x. IsTrue (promises_writes x n more) in
    let most = fitting_most (is_scheduled s.failing s.calls) s.room (length piece) in
    let enough : more ≤ s.room - append_size s piece = let r = w.room in omega (arith, most, r) in (
      subst P (sym e) (writes_promise (append_after s name piece) n more (record { none = w.none; slot = ap (λ b. b || nat_lt 0 s.slots) (held_after s name piece n) ∙ w.slot; room = enough })),
      append_stands s t name piece e (promise_passes s n piece more h) n,
    )

pub append_only : (s t : ShelfState) (name piece : List ℕ) → t ≡ append_after s name piece → OnlyWrites name (length piece) (shelf_view s) (shelf_view t)
append_only s t name piece e = record {
  reads = λ n.
      ap (λ x. shelf_reads x n) e ∙ ap (λ u. option_map_or (λ f. f.reads) u s.shared_reads) (append_under s name piece n)
      ∙ kept_or (λ f. f.reads) (with_piece (append_fails s piece) (prefix_of s piece)) true (bytes_eq n name) (held_under n s.files) s.shared_reads (λ _. refl);
  handed = λ n.
      ap (λ x. shelf_handed x n) e ∙ ap (λ u. option_map_or (λ f. f.handed) u 0) (append_under s name piece n)
      ∙ kept_or (λ f. f.handed) (with_piece (append_fails s piece) (prefix_of s piece)) true (bytes_eq n name) (held_under n s.files) 0 (λ _. refl);
  files = λ n different.
      let k : (if bytes_eq n name then option_map (λ bytes. bytes ++ prefix_of s piece) ((shelf_contents s).file n) else (shelf_contents s).file n) ≡ (shelf_contents s).file n = rw (other_name n name different) refl in
      ap (λ c. known_file c n) (append_adds s t name piece e).0 ∙ k;
  grows = append_grows s t name piece e;
  others = λ n different held.
      append_writes s t name piece n e
      ∙ count_others (λ f. f.writes) (λ f. f.bytes) (with_piece (append_fails s piece) (prefix_of s piece)) true (bytes_eq n name) (held_under n s.files) s.shared_writes s.shared_writes (other_name n name different) held;
  reads_kept = λ n h.
      let P : ShelfState → Type 0 = λ x. IsTrue (promises_reads x n) in
      subst P (sym e) (ap (λ b. none_scheduled s.failing && b) (held_after s name piece n) ∙ h);
  writes_kept = append_kept s t name piece e name;
}
