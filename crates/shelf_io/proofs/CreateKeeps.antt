-- What a create changes of a shelf in memory, and what it leaves unchanged.
use Rattle.std.proofs.Common.{◌≡◌, ◌≢◌, ◌==◌, ◌+◌, ◌≤◌, ◌||◌, ◌&&◌, not, ℕ, Bool, true, false, Option, Some, None, List, [], option_map, if◌then◌else◌, is_some, IsSome, IsTrue, Result, Ok, Err, IsOk, is_err, nat_lt, refl, sym, ap, ◌∙◌, subst, arith}
use Rattle.std.specs.Option.{option_map_or}
use Rattle.std.specs.Str.{bytes_eq}
use Rattle.std.proofs.lemmas.Bool.{false≢true}
use Rattle.std.proofs.lemmas.Bool.Decides.{nat_tests}
use Rattle.shelf_io.specs.Calls.{one_more, is_scheduled, none_scheduled}
use Rattle.shelf_io.specs.Changes.{OnlyWrites}
use Rattle.shelf_io.specs.Contents.{Creates, known_file, put_bytes}
use Rattle.shelf_io.specs.Counts.{CountsFailure, IsRaised}
use Rattle.shelf_io.specs.Held.{Held, held_under, with_failed_write, without_bytes}
use Rattle.shelf_io.specs.MemShelf.{ShelfState, is_held, create_fails, create_after, failed_write, with_empty_file, with_new_file, promises_writes, shelf_contents, shelf_handed, shelf_reads, shelf_view, shelf_writes}
use Rattle.shelf_io.proofs.Changes.{count_grows, count_others, count_rose, counted, counted_as, file_after, grows_one, kept, kept_or, other_name, same_name, still_held, under_after}
use Rattle.shelf_io.proofs.Files.{under_pushed}
use Rattle.shelf_io.proofs.Promises.{none_fails, reads_facts, reads_promise, writes_facts, writes_promise}
use Rattle.shelf_io.proofs.ReadKeeps.{is_fine, shared_grows}
use Rattle.shelf_io.proofs.Shelves.{same_contents, same_file, bytes_eq_comm}

-- the three outcomes of a create
pub data Created (s t : ShelfState) (name : List ℕ) : Type 0 where
  failed : create_fails s name ≡ true → t ≡ failed_write s name → Created s t name
  cleared : create_fails s name ≡ false → is_held s name ≡ true → t ≡ with_empty_file s name → Created s t name
  fresh : create_fails s name ≡ false → is_held s name ≡ false → t ≡ with_new_file s name → Created s t name

created_by : (s t : ShelfState) (name : List ℕ) (fails held : Bool) → create_fails s name ≡ fails → is_held s name ≡ held → t ≡ (if fails then failed_write s name else (if held then with_empty_file s name else with_new_file s name)) → Created s t name
created_by s t name true held f h e = failed f e
created_by s t name false true f h e = cleared f h e
created_by s t name false false f h e = fresh f h e

pub created : (s t : ShelfState) (name : List ℕ) → t ≡ create_after s name → Created s t name
created s t name e = created_by s t name (create_fails s name) (is_held s name) refl refl e

-- the file under a name after a new file was put after the others
abbrev pushed_after : Option Held → Bool → Held → Option Held
pushed_after u r new = if is_some u then u else (if r then Some new else None)

abbrev new_file : ShelfState → List ℕ → Held
new_file s name = record { name = name; bytes = []; reserved = s.room; reads = s.shared_reads; writes = s.shared_writes; handed = 0 }

failed_under : (s : ShelfState) (name n : List ℕ) → held_under n (failed_write s name).files ≡ file_after true (bytes_eq n name) with_failed_write (held_under n s.files)
failed_under s name n = under_after true name n with_failed_write s.files (λ _. refl)

empty_file_under : (s : ShelfState) (name n : List ℕ) → held_under n (with_empty_file s name).files ≡ file_after true (bytes_eq n name) without_bytes (held_under n s.files)
empty_file_under s name n = under_after true name n without_bytes s.files (λ _. refl)

pushed_or : (p : Held → ℕ) (u : Option Held) (r : Bool) (new : Held) (shared : ℕ) → p new ≡ shared → option_map_or p (pushed_after u r new) shared ≡ option_map_or p u shared
pushed_or p (Some f) r new shared h = refl
pushed_or p None true new shared h = h
pushed_or p None false new shared h = refl

pushed_held : (u : Option Held) (r : Bool) (new : Held) → IsSome u → IsSome (pushed_after u r new)
pushed_held (Some f) r new h = refl
pushed_held None r new h = absurd (false≢true h)

pushed_there : (u : Option Held) (r : Bool) (new : Held) → r ≡ true → IsSome (pushed_after u r new)
pushed_there (Some f) r new h = refl
pushed_there None true new h = refl
pushed_there None false new h = absurd (false≢true h)

-- ---- the contents

empty_file_step : (q : Bool) (u h : Option Held) → (q ≡ true → u ≡ h) → is_some h ≡ true → option_map (λ f. f.bytes) (file_after true q without_bytes u) ≡ (if q then Some [] else option_map (λ f. f.bytes) u)
empty_file_step true (Some f) h same held = refl
empty_file_step true None (Some g) same held = let e = same refl in cc
empty_file_step true None None same held = absurd (false≢true held)
empty_file_step false u h same held = refl

pushed_step : (q r : Bool) (u h : Option Held) (new : Held) → (q ≡ true → u ≡ h) → is_some h ≡ false → r ≡ q → new.bytes ≡ [] → option_map (λ f. f.bytes) (pushed_after u r new) ≡ (if q then Some [] else option_map (λ f. f.bytes) u)
pushed_step true r None h new same held e b = rw e (ap (λ x. Some x) b)
pushed_step true r (Some f) None new same held e b = let k = same refl in cc
pushed_step true r (Some f) (Some g) new same held e b = absurd (false≢true (sym held))
pushed_step false r None h new same held e b = rw e refl
pushed_step false r (Some f) h new same held e b = refl

created_ok : (s t : ShelfState) (name : List ℕ) → Created s t name → create_fails s name ≡ false → Some (shelf_contents t) ≡ Some (put_bytes name [] (shelf_contents s))
created_ok s t name (failed f e) passes = absurd (false≢true (sym passes ∙ f))
created_ok s t name (cleared f h e) passes =
    ap (λ x. Some (shelf_contents x)) e
    ∙ ap (λ c. Some c) (same_contents (shelf_contents (with_empty_file s name)) (put_bytes name [] (shelf_contents s))
    (λ n. ap (option_map (λ f. f.bytes)) (empty_file_under s name n) ∙ empty_file_step (bytes_eq n name) (held_under n s.files) (held_under name s.files) (same_file name n s.files) h)
    refl)
created_ok s t name (fresh f h e) passes =
    ap (λ x. Some (shelf_contents x)) e
    ∙ ap (λ c. Some c) (same_contents (shelf_contents (with_new_file s name)) (put_bytes name [] (shelf_contents s))
    (λ n. ap (option_map (λ f. f.bytes)) (under_pushed n s.files (new_file s name)) ∙ pushed_step (bytes_eq n name) (bytes_eq name n) (held_under n s.files) (held_under name s.files) (new_file s name) (same_file name n s.files) h (bytes_eq_comm name n) refl)
    refl)

created_err : (s t : ShelfState) (name : List ℕ) → Created s t name → create_fails s name ≡ true → Some (shelf_contents t) ≡ Some (shelf_contents s)
created_err s t name (failed f e) fails =
    ap (λ x. Some (shelf_contents x)) e
    ∙ ap (λ c. Some c) (same_contents (shelf_contents (failed_write s name)) (shelf_contents s)
    (λ n. ap (option_map (λ f. f.bytes)) (failed_under s name n) ∙ kept (λ f. f.bytes) with_failed_write true (bytes_eq n name) (held_under n s.files) (λ _. refl))
    refl)
created_err s t name (cleared f h e) fails = absurd (false≢true (sym f ∙ fails))
created_err s t name (fresh f h e) fails = absurd (false≢true (sym f ∙ fails))

-- ---- the counts of failed writes

failed_writes : (s : ShelfState) (name n : List ℕ) → shelf_writes (failed_write s name) n ≡ option_map_or (λ f. f.writes) (file_after true (bytes_eq n name) with_failed_write (held_under n s.files)) (if is_held s name then s.shared_writes else one_more s.shared_writes)
failed_writes s name n = ap (λ u. option_map_or (λ f. f.writes) u (if is_held s name then s.shared_writes else one_more s.shared_writes)) (failed_under s name n)

empty_file_writes : (s : ShelfState) (name n : List ℕ) → shelf_writes (with_empty_file s name) n ≡ shelf_writes s n
empty_file_writes s name n = ap (λ u. option_map_or (λ f. f.writes) u s.shared_writes) (empty_file_under s name n) ∙ kept_or (λ f. f.writes) without_bytes true (bytes_eq n name) (held_under n s.files) s.shared_writes (λ _. refl)

new_file_writes : (s : ShelfState) (name n : List ℕ) → shelf_writes (with_new_file s name) n ≡ shelf_writes s n
new_file_writes s name n = ap (λ u. option_map_or (λ f. f.writes) u s.shared_writes) (under_pushed n s.files (new_file s name)) ∙ pushed_or (λ f. f.writes) (held_under n s.files) (bytes_eq name n) (new_file s name) s.shared_writes refl

created_grows : (s t : ShelfState) (name : List ℕ) → Created s t name → (n : List ℕ) → shelf_writes s n ≤ shelf_writes t n
created_grows s t name (failed f e) = λ n.
    let P : ℕ → Type 0 = λ k. shelf_writes s n ≤ k in
    subst P (sym (ap (λ x. shelf_writes x n) e ∙ failed_writes s name n))
    (count_grows (λ f. f.writes) with_failed_write true (bytes_eq n name) (held_under n s.files) s.shared_writes (if is_held s name then s.shared_writes else one_more s.shared_writes) (shared_grows (is_held s name) s.shared_writes) (λ f. grows_one f.writes))
created_grows s t name (cleared f h e) = λ n. let k : shelf_writes t n ≡ shelf_writes s n = ap (λ x. shelf_writes x n) e ∙ empty_file_writes s name n in omega (arith, k)
created_grows s t name (fresh f h e) = λ n. let k : shelf_writes t n ≡ shelf_writes s n = ap (λ x. shelf_writes x n) e ∙ new_file_writes s name n in omega (arith, k)

created_others : (s t : ShelfState) (name : List ℕ) → Created s t name → (n : List ℕ) → n ≢ name → IsSome (option_map (λ f. f.bytes) (held_under n s.files)) → shelf_writes t n ≡ shelf_writes s n
created_others s t name (failed f e) = λ n different held.
    ap (λ x. shelf_writes x n) e ∙ failed_writes s name n
    ∙ count_others (λ f. f.writes) (λ f. f.bytes) with_failed_write true (bytes_eq n name) (held_under n s.files) s.shared_writes (if is_held s name then s.shared_writes else one_more s.shared_writes) (other_name n name different) held
created_others s t name (cleared f h e) = λ n different held. ap (λ x. shelf_writes x n) e ∙ empty_file_writes s name n
created_others s t name (fresh f h e) = λ n different held. ap (λ x. shelf_writes x n) e ∙ new_file_writes s name n

created_rose : (s t : ShelfState) (name : List ℕ) → Created s t name → create_fails s name ≡ true → IsRaised (shelf_writes s name) (shelf_writes t name)
created_rose s t name (failed f e) fails =
    let P : ℕ → Type 0 = λ k. IsRaised (shelf_writes s name) k in
    subst P (sym (ap (λ x. shelf_writes x name) e ∙ failed_writes s name name))
    (count_rose (λ f. f.writes) with_failed_write true (bytes_eq name name) (held_under name s.files) s.shared_writes refl (same_name name) (λ _. refl))
created_rose s t name (cleared f h e) fails = absurd (false≢true (sym f ∙ fails))
created_rose s t name (fresh f h e) fails = absurd (false≢true (sym f ∙ fails))

created_other_kind : (s t : ShelfState) (name : List ℕ) → Created s t name → (n : List ℕ) → shelf_reads t n ≡ shelf_reads s n
created_other_kind s t name (failed f e) = λ n. ap (λ x. shelf_reads x n) e ∙ ap (λ u. option_map_or (λ f. f.reads) u s.shared_reads) (failed_under s name n) ∙ kept_or (λ f. f.reads) with_failed_write true (bytes_eq n name) (held_under n s.files) s.shared_reads (λ _. refl)
created_other_kind s t name (cleared f h e) = λ n. ap (λ x. shelf_reads x n) e ∙ ap (λ u. option_map_or (λ f. f.reads) u s.shared_reads) (empty_file_under s name n) ∙ kept_or (λ f. f.reads) without_bytes true (bytes_eq n name) (held_under n s.files) s.shared_reads (λ _. refl)
created_other_kind s t name (fresh f h e) = λ n. ap (λ x. shelf_reads x n) e ∙ ap (λ u. option_map_or (λ f. f.reads) u s.shared_reads) (under_pushed n s.files (new_file s name)) ∙ pushed_or (λ f. f.reads) (held_under n s.files) (bytes_eq name n) (new_file s name) s.shared_reads refl

-- ---- the bytes handed out

created_handed : (s t : ShelfState) (name : List ℕ) → Created s t name → (n : List ℕ) → shelf_handed t n ≡ shelf_handed s n
created_handed s t name (failed f e) = λ n. ap (λ x. shelf_handed x n) e ∙ ap (λ u. option_map_or (λ f. f.handed) u 0) (failed_under s name n) ∙ kept_or (λ f. f.handed) with_failed_write true (bytes_eq n name) (held_under n s.files) 0 (λ _. refl)
created_handed s t name (cleared f h e) = λ n. ap (λ x. shelf_handed x n) e ∙ ap (λ u. option_map_or (λ f. f.handed) u 0) (empty_file_under s name n) ∙ kept_or (λ f. f.handed) without_bytes true (bytes_eq n name) (held_under n s.files) 0 (λ _. refl)
created_handed s t name (fresh f h e) = λ n. ap (λ x. shelf_handed x n) e ∙ ap (λ u. option_map_or (λ f. f.handed) u 0) (under_pushed n s.files (new_file s name)) ∙ pushed_or (λ f. f.handed) (held_under n s.files) (bytes_eq name n) (new_file s name) 0 refl

-- ---- what is promised

created_held : (s t : ShelfState) (name : List ℕ) → Created s t name → (n : List ℕ) → IsSome (held_under n s.files) → IsSome (held_under n t.files)
created_held s t name (failed f e) = λ n h. let Q : Option Held → Type 0 = λ u. IsSome u in subst Q (sym (ap (λ x. held_under n x.files) e ∙ failed_under s name n)) (still_held with_failed_write true (bytes_eq n name) (held_under n s.files) h)
created_held s t name (cleared f k e) = λ n h. let Q : Option Held → Type 0 = λ u. IsSome u in subst Q (sym (ap (λ x. held_under n x.files) e ∙ empty_file_under s name n)) (still_held without_bytes true (bytes_eq n name) (held_under n s.files) h)
created_held s t name (fresh f k e) = λ n h. let Q : Option Held → Type 0 = λ u. IsSome u in subst Q (sym (ap (λ x. held_under n x.files) e ∙ under_pushed n s.files (new_file s name))) (pushed_held (held_under n s.files) (bytes_eq name n) (new_file s name) h)

created_failing : (s t : ShelfState) (name : List ℕ) → Created s t name → t.failing ≡ s.failing
created_failing s t name (failed f e) = ap (λ x. x.failing) e
created_failing s t name (cleared f h e) = ap (λ x. x.failing) e
created_failing s t name (fresh f h e) = ap (λ x. x.failing) e

passes_step : (scheduled held none : Bool) → scheduled ≡ false → (held ≡ false → none ≡ false) → (scheduled || (not held && none)) ≡ false
passes_step true held none t h = absurd (false≢true (sym t))
passes_step false true none t h = refl
passes_step false false none t h = h refl

some_slot : (held : Bool) (slots : ℕ) → (held || nat_lt 0 slots) ≡ true → held ≡ false → (slots == 0) ≡ false
some_slot true slots h e = absurd (false≢true (sym e))
some_slot false slots h e = grind (arith, nat_tests)

promise_passes : (s : ShelfState) (name : List ℕ) (bytes : ℕ) → IsTrue (promises_writes s name bytes) → create_fails s name ≡ false
promise_passes s name bytes h =
    let w = writes_facts s name bytes h in
    passes_step (is_scheduled s.failing s.calls) (is_held s name) (s.slots == 0) (none_fails s.failing s.calls w.none) (some_slot (is_held s name) s.slots w.slot)

held_or_slot : (held some : Bool) → held ≡ true → (held || some) ≡ true
held_or_slot true some h = refl
held_or_slot false some h = absurd (false≢true h)

created_there : (s t : ShelfState) (name : List ℕ) → Created s t name → create_fails s name ≡ false → IsSome (held_under name t.files)
created_there s t name (failed f e) passes = absurd (false≢true (sym passes ∙ f))
created_there s t name (cleared f h e) passes = created_held s t name (cleared f h e) name h
created_there s t name (fresh f h e) passes =
    let Q : Option Held → Type 0 = λ u. IsSome u in
    subst Q (sym (ap (λ x. held_under name x.files) e ∙ under_pushed name s.files (new_file s name))) (pushed_there (held_under name s.files) (bytes_eq name name) (new_file s name) (same_name name))

created_room : (s t : ShelfState) (name : List ℕ) → Created s t name → t.room ≡ s.room
created_room s t name (failed f e) = ap (λ x. x.room) e
created_room s t name (cleared f h e) = ap (λ x. x.room) e
created_room s t name (fresh f h e) = ap (λ x. x.room) e

created_writes : (s t : ShelfState) (name : List ℕ) → Created s t name → create_fails s name ≡ false → (n : List ℕ) → shelf_writes t n ≡ shelf_writes s n
created_writes s t name (failed f e) passes = absurd (false≢true (sym passes ∙ f))
created_writes s t name (cleared f h e) passes = λ n. ap (λ x. shelf_writes x n) e ∙ empty_file_writes s name n
created_writes s t name (fresh f h e) passes = λ n. ap (λ x. shelf_writes x n) e ∙ new_file_writes s name n

-- contents, counts and promises together

files_after : (s t : ShelfState) (name : List ℕ) (fails : Bool) → Created s t name → create_fails s name ≡ fails → (n : List ℕ) → n ≢ name → known_file (Some (shelf_contents t)) n ≡ known_file (Some (shelf_contents s)) n
files_after s t name true w f = λ n different. ap (λ c. known_file c n) (created_err s t name w f)
files_after s t name false w f = λ n different.
    let e : (if bytes_eq n name then Some [] else (shelf_contents s).file n) ≡ (shelf_contents s).file n = rw (other_name n name different) refl in
    ap (λ c. known_file c n) (created_ok s t name w f) ∙ e

pub created_only : (s t : ShelfState) (name : List ℕ) → Created s t name → OnlyWrites name 0 (shelf_view s) (shelf_view t)
created_only s t name w = record {
  reads = created_other_kind s t name w;
  handed = created_handed s t name w;
  files = files_after s t name (create_fails s name) w refl;
  grows = created_grows s t name w;
  others = created_others s t name w;
  reads_kept = λ n h.
      let r = reads_facts s n h in
      reads_promise t n (record { none = ap none_scheduled (created_failing s t name w) ∙ r.none; held = created_held s t name w n r.held });
  writes_kept = λ more h.
      let r = writes_facts s name (0 + more) h in
      let passes = promise_passes s name (0 + more) h in
      let enough : more ≤ t.room = let e = created_room s t name w in let k = r.room in omega (arith, e, k) in (
        writes_promise t name more (record {
          none = ap none_scheduled (created_failing s t name w) ∙ r.none;
          slot = held_or_slot (is_held t name) (nat_lt 0 t.slots) (created_there s t name w passes);
          room = enough;
        }),
        created_writes s t name w passes name,
      );
}

pub created_contents : {T E : Type 0} (s t : ShelfState) (name : List ℕ) (result : Result T E) → Created s t name → is_err result ≡ create_fails s name → Creates name result (Some (shelf_contents s)) (Some (shelf_contents t))
created_contents s t name (Ok _) w e = created_ok s t name w (sym e)
created_contents s t name (Err _) w e = created_err s t name w (sym e)

pub created_counted : {T E : Type 0} (s t : ShelfState) (name : List ℕ) (result : Result T E) → Created s t name → is_err result ≡ create_fails s name → CountsFailure (is_err result) (shelf_writes s name) (shelf_writes t name)
created_counted s t name result w exact =
    counted_as result (create_fails s name) (shelf_writes s name) (shelf_writes t name) exact
    (counted (create_fails s name) (shelf_writes s name) (shelf_writes t name) (created_grows s t name w name) (created_rose s t name w) (λ f. created_writes s t name w f name))

pub created_promised : {T E : Type 0} (s : ShelfState) (name : List ℕ) (result : Result T E) → is_err result ≡ create_fails s name → (bytes : ℕ) → IsTrue (promises_writes s name bytes) → IsOk result
created_promised s name result exact = λ bytes h. is_fine result (exact ∙ promise_passes s name bytes h)
