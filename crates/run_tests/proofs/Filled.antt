-- Reads of the due names, writes of the file and puts of the text are promised.
use Rattle.std.proofs.Common.{◌≡◌, ◌⊎◌, inl, inr, ◌≤◌, ◌&&◌, ℕ, Bool, true, false, List, Option, Some, None, IfSome, IsSome, IsSomeAnd, IsTrue, Ok, length, nat_le, refl, sym, subst, arith}
use Rattle.std.proofs.lemmas.Bool.Decides.{nat_tests}
use Rattle.shelf_io.specs.Calls.{none_scheduled}
use Rattle.shelf_io.specs.Contents.{Contents}
use Rattle.shelf_io.specs.Filling.{IsFilled}
use Rattle.shelf_io.specs.MemShelf.{ShelfState, promises_reads, promises_writes, shelf_contents, shelf_view}
use Rattle.shelf_io.specs.MemSink.{SinkState, promises_puts, sink_view}
use Rattle.run_core.specs.Asking.{Asking}
use Rattle.run_core.specs.Plan.{Plan, asking_for}
use Rattle.run_core.specs.Due.{up_to_limit}
use Rattle.run_core.specs.Endings.{out_of_memory_status, with_written, world}
use Rattle.run_core.specs.Outcome.{Outcome, text_of, written_of}
use Rattle.run_core.specs.Reading.{IsDue, asks, held_or_missing, makes, result_of}
use Rattle.run_core.specs.Statuses as statuses
use Rattle.run_tests.specs.Filled.{IsDone, IsReliable}

read_is : (limit : ℕ) (file read : Option (List ℕ)) (bytes : List ℕ) → file ≡ Some bytes → IsSomeAnd file (λ b. read ≡ up_to_limit limit b) → read ≡ up_to_limit limit bytes
read_is limit file read bytes e h =
    let P : Option (List ℕ) → Type 0 = λ f. IsSomeAnd f (λ b. read ≡ up_to_limit limit b) in
    subst P e h

asked_held : (c : Contents) (o : Outcome) (first name : List ℕ) (limit : ℕ) (next : Option (List ℕ) → Asking) (file : Option (List ℕ)) → c.file first ≡ file
    → held_or_missing first file (λ bytes. result_of c.file (next (up_to_limit limit bytes))) ≡ Ok o
    → ((read : Option (List ℕ)) → result_of c.file (next read) ≡ Ok o → IsDue (Some c) (next read) name → IsSome (c.file name))
    → IsDue (Some c) (asks first limit next) name → IsSome (c.file name)
asked_held c o first name limit next None e h rest due = cc
asked_held c o first name limit next (Some bytes) e h rest (inl same) =
    let P : List ℕ → Type 0 = λ n. IsSome (c.file n) in
    let Q : Option (List ℕ) → Type 0 = λ f. IsSome f in
    subst P (sym same) (subst Q (sym e) refl)
asked_held c o first name limit next (Some bytes) e h rest (inr (read, can, due)) =
    let P : Option (List ℕ) → Type 0 = λ r. IsDue (Some c) (next r) name in
    rest (up_to_limit limit bytes) h (subst P (read_is limit (c.file first) read bytes e can.known) due)

-- where the files determine an outcome, each due name has a file
pub due_held : (c : Contents) (o : Outcome) (asking : Asking) (name : List ℕ) → result_of c.file asking ≡ Ok o → IsDue (Some c) asking name → IsSome (c.file name)
due_held c o (makes p) name h due = absurd due
due_held c o (asks first limit next) name h due =
    asked_held c o first name limit next (c.file first) refl h (λ read k d. due_held c o (next read) name k d) due

both_true : (a b : Bool) → IsTrue a → IsTrue b → IsTrue (a && b)
both_true true b h k = k
both_true false b h k = h

fits : (n room : ℕ) → n ≤ room → IsTrue (nat_le n room)
fits n room h = grind (arith, nat_tests)

writes_fit : (room slots : ℕ) (files : List (List ℕ × List ℕ)) (s : ShelfState) → IsFilled room slots files s → (file : Option (List ℕ × List ℕ))
    → IfSome file (λ w. (1 ≤ slots) × (length w.1 ≤ room)) → IfSome file (λ w. IsTrue (promises_writes s w.0 (length w.1)))
writes_fit room slots files s f None h = h
writes_fit room slots files s f (Some w) h = f.writes w.0 (length w.1) (inl h.0) h.1

is_done : (plan : Option Plan) (room slots : ℕ) (files : List (List ℕ × List ℕ)) (o : Outcome) (s t : ShelfState) (b d : SinkState) (status : ℕ) → IsFilled room slots files s
    → statuses.IsPrinted plan (world (shelf_view s) (sink_view b)) (world (shelf_view t) (sink_view d)) o status
    → (status ≡ out_of_memory_status) ⊎ IsDone room files o b d status t
is_done plan room slots files o s t b d status f (inl e) = inl e
is_done plan room slots files o s t b d status f (inr (e, l)) =
    let taken = l.taken in
    let P : Contents → Type 0 = λ c. Some (shelf_contents t) ≡ with_written (written_of o) (Some c) in
    inr record { status = e; text = cc; file = subst P f.contents l.contents }

-- the clause of `run` on promised calls holds of a filled shelf, and says what was done
pub is_reliable : (plan : Option Plan) (room slots : ℕ) (files : List (List ℕ × List ℕ)) (s t : ShelfState) (b d : SinkState) (status : ℕ) → IsFilled room slots files s
    → statuses.IsReliable plan (world (shelf_view s) (sink_view b)) (world (shelf_view t) (sink_view d)) status
    → IsReliable plan room slots files b d status t
is_reliable plan room slots files s t b d status f r = λ o h fit quiet short.
    let P : Contents → Type 0 = λ c. result_of c.file (asking_for plan) ≡ Ok o in
    let here : result_of (shelf_contents s).file (asking_for plan) ≡ Ok o = subst P (sym f.contents) h in
    let reads : (n : List ℕ) → IsDue (Some (shelf_contents s)) (asking_for plan) n → IsTrue (promises_reads s n) =
    λ n due. let Q : Contents → Type 0 = λ c. IsSome (c.file n) in
    f.reads n (subst Q f.contents (due_held (shelf_contents s) o (asking_for plan) n here due)) in
    let puts : IsTrue (promises_puts b (length (text_of o))) = both_true (none_scheduled b.failing) (nat_le (length (text_of o)) b.room) quiet (fits (length (text_of o)) b.room short) in
    is_done plan room slots files o s t b d status f
    (r (shelf_contents s) o refl here reads (writes_fit room slots files s f (written_of o) fit) puts).0
