-- A create of a name and an append to it, as changes of the shelf in memory.
use Rattle.std.proofs.Common.{◌≡◌, ◌==◌, ◌+◌, ◌-◌, ◌≤◌, ◌||◌, ◌&&◌, not, ℕ, Bool, true, false, Option, Some, None, List, [], ◌∷◌, ◌++◌, length, take, get_or, option_map, if◌then◌else◌, is_some, IsSome, refl, sym, ap, ◌∙◌, subst, arith}
use Rattle.std.proofs.Math.ListN.{set}
use Rattle.std.proofs.lemmas.Bool.{false≢true}
use Rattle.std.proofs.lemmas.List.Elements.{All-push, All-take}
use Rattle.std.specs.Str.{bytes_eq}
use Rattle.shelf_io.specs.Calls.{one_more, is_scheduled}
use Rattle.shelf_io.specs.Held.{Held, HaveRoom, SlotsHaveRoom, held_under, index_of, change_under, with_failed_write, without_bytes, with_piece}
use Rattle.shelf_io.specs.MemShelf.{ShelfState, is_held, create_fails, create_after, failed_write, with_empty_file, with_new_file, append_fails, append_size, append_after}
use Rattle.shelf_io.proofs.Files.{change_at, change_missing, read_there, read_nowhere}
use Rattle.shelf_io.proofs.Shelves.{choose_true, choose_false}

-- whether a call is scheduled to fail or fails for another reason
pub or_true : (scheduled rest : Bool) → true ≡ scheduled → true ≡ (scheduled || rest)
or_true true rest h = refl
or_true false rest h = absurd (false≢true (sym h))

pub or_rest : (scheduled rest : Bool) → true ≡ rest → true ≡ (scheduled || rest)
or_rest true rest h = refl
or_rest false rest h = h

pub or_neither : (scheduled rest : Bool) → false ≡ scheduled → false ≡ rest → false ≡ (scheduled || rest)
or_neither true rest h k = absurd (false≢true h)
or_neither false rest h k = k

new_held : (o : Option Held) (d : Held) (none : Bool) → o ≡ Some d → false ≡ (not (is_some o) && none)
new_held (Some f) d none h = refl
new_held None d none h = cc

new_missing : (o : Option Held) (none : Bool) → o ≡ None → none ≡ (not (is_some o) && none)
new_missing None none h = refl
new_missing (Some f) none h = cc

held_shared : (o : Option Held) (d : Held) (shared : ℕ) → o ≡ Some d → shared ≡ (if is_some o then shared else one_more shared)
held_shared (Some f) d shared h = refl
held_shared None d shared h = cc

missing_shared : (o : Option Held) (shared : ℕ) → o ≡ None → one_more shared ≡ (if is_some o then shared else one_more shared)
missing_shared None shared h = refl
missing_shared (Some f) shared h = cc

failed_is : (s : ShelfState) (name : List ℕ) (files : List Held) (shared calls : ℕ) → true ≡ create_fails s name → files ≡ change_under name with_failed_write s.files → shared ≡ (if is_held s name then s.shared_writes else one_more s.shared_writes) → calls ≡ one_more s.calls
    → record s { files = files; shared_writes = shared; calls = calls } ≡ create_after s name
failed_is s name files shared calls fails f g h =
    (λ i. record s { files = f i; shared_writes = g i; calls = h i })
    ∙ choose_true (create_fails s name) (failed_write s name) (if is_held s name then with_empty_file s name else with_new_file s name) (sym fails)

-- a change at the index of a name
change_there : (name : List ℕ) (change : Held → Held) (files seen : List Held) (at : ℕ) (d file : Held) → seen ≡ files → Some at ≡ index_of name seen → d ≡ get_or files at d → file ≡ change d → set files at file ≡ change_under name change files
change_there name change files seen at d file e p g w =
    ap (λ f. set files at f) (w ∙ ap change g) ∙ change_at name change files at d (ap (index_of name) (sym e) ∙ sym p)

-- a create of a held name that is scheduled to fail
pub scheduled_create : (s : ShelfState) (name : List ℕ) (seen : List Held) (at calls : ℕ) (d file : Held) (scheduled : Bool) → seen ≡ s.files → Some at ≡ index_of name seen → d ≡ get_or s.files at d → scheduled ≡ is_scheduled s.failing s.calls → scheduled ≡ true → file ≡ with_failed_write d → calls ≡ one_more s.calls
    → record s { files = set s.files at file; calls = calls } ≡ create_after s name
scheduled_create s name seen at calls d file scheduled e p g t said w h =
    failed_is s name (set s.files at file) s.shared_writes calls
    (or_true (is_scheduled s.failing s.calls) (not (is_held s name) && s.slots == 0) (sym said ∙ t))
    (change_there name with_failed_write s.files seen at d file e p g w)
    (held_shared (held_under name s.files) d s.shared_writes (read_there name s.files seen at d e p g)) h

-- a create of a held name that is not scheduled to fail passes
pub held_create_passes : (s : ShelfState) (name : List ℕ) (seen : List Held) (at : ℕ) (d : Held) (scheduled : Bool) → seen ≡ s.files → Some at ≡ index_of name seen → d ≡ get_or s.files at d → scheduled ≡ is_scheduled s.failing s.calls → scheduled ≡ false → false ≡ create_fails s name
held_create_passes s name seen at d scheduled e p g t unsaid =
    or_neither (is_scheduled s.failing s.calls) (not (is_held s name) && s.slots == 0) (sym unsaid ∙ t)
    (new_held (held_under name s.files) d (s.slots == 0) (read_there name s.files seen at d e p g))

-- .. and empties the file
pub held_create : (s : ShelfState) (name : List ℕ) (seen : List Held) (at calls : ℕ) (d file : Held) (scheduled : Bool) → seen ≡ s.files → Some at ≡ index_of name seen → d ≡ get_or s.files at d → scheduled ≡ is_scheduled s.failing s.calls → scheduled ≡ false → file ≡ without_bytes d → calls ≡ one_more s.calls
    → record s { files = set s.files at file; calls = calls } ≡ create_after s name
held_create s name seen at calls d file scheduled e p g t unsaid w h =
    let f = change_there name without_bytes s.files seen at d file e p g w in
    let x : record s { files = set s.files at file; calls = calls } ≡ with_empty_file s name = λ i. record s { files = f i; calls = h i } in
    x ∙ choose_true (is_held s name) (with_empty_file s name) (with_new_file s name) (ap is_some (read_there name s.files seen at d e p g))
    ∙ choose_false (create_fails s name) (failed_write s name) (if is_held s name then with_empty_file s name else with_new_file s name) (sym (held_create_passes s name seen at d scheduled e p g t unsaid))

-- a create of a new name that is scheduled to fail, or for which no slot is left, fails
pub new_create_fails : (s : ShelfState) (name : List ℕ) (seen : List Held) → seen ≡ s.files → None ≡ index_of name seen → true ≡ (is_scheduled s.failing s.calls || s.slots == 0) → true ≡ create_fails s name
new_create_fails s name seen e p h =
    h ∙ ap (λ b. is_scheduled s.failing s.calls || b) (new_missing (held_under name s.files) (s.slots == 0) (read_nowhere name s.files seen e p))

-- .. and raises the shared count
pub new_create_failed : (s : ShelfState) (name : List ℕ) (seen : List Held) (shared calls : ℕ) → seen ≡ s.files → None ≡ index_of name seen → true ≡ (is_scheduled s.failing s.calls || s.slots == 0) → shared ≡ one_more s.shared_writes → calls ≡ one_more s.calls
    → record s { shared_writes = shared; calls = calls } ≡ create_after s name
new_create_failed s name seen shared calls e p f g h =
    let gone = read_nowhere name s.files seen e p in
    failed_is s name s.files shared calls (new_create_fails s name seen e p f)
    (sym (change_missing name with_failed_write s.files gone))
    (g ∙ missing_shared (held_under name s.files) s.shared_writes gone) h

-- a create of a new name for which a slot is left passes
pub new_create_passes : (s : ShelfState) (name : List ℕ) (seen : List Held) → seen ≡ s.files → None ≡ index_of name seen → false ≡ (is_scheduled s.failing s.calls || s.slots == 0) → false ≡ create_fails s name
new_create_passes s name seen e p h =
    h ∙ ap (λ b. is_scheduled s.failing s.calls || b) (new_missing (held_under name s.files) (s.slots == 0) (read_nowhere name s.files seen e p))

-- .. and puts a file with no bytes after the others
pub new_create : (s : ShelfState) (name : List ℕ) (seen files : List Held) (file : Held) (slots calls : ℕ) → seen ≡ s.files → None ≡ index_of name seen → false ≡ (is_scheduled s.failing s.calls || s.slots == 0) → files ≡ s.files ++ file ∷ []
    → file ≡ record { name = name; bytes = []; reserved = s.room; reads = s.shared_reads; writes = s.shared_writes; handed = 0 } → slots ≡ s.slots - 1 → calls ≡ one_more s.calls
    → record s { files = files; slots = slots; calls = calls } ≡ create_after s name
new_create s name seen files file slots calls e p passes f w q h =
    let pushed = f ∙ ap (λ x. s.files ++ x ∷ []) w in
    let x : record s { files = files; slots = slots; calls = calls } ≡ with_new_file s name = λ i. record s { files = pushed i; slots = q i; calls = h i } in
    x ∙ choose_false (is_held s name) (with_empty_file s name) (with_new_file s name) (ap is_some (read_nowhere name s.files seen e p))
    ∙ choose_false (create_fails s name) (failed_write s name) (if is_held s name then with_empty_file s name else with_new_file s name) (sym (new_create_passes s name seen e p passes))

-- with one more file that has memory for the room, each file still has memory for the room
pub room_pushed : (room : ℕ) (files pushed : List Held) (file : Held) → HaveRoom room files → length file.bytes + room ≤ file.reserved → pushed ≡ files ++ file ∷ [] → HaveRoom room pushed
room_pushed room files pushed file h k e =
    let P : List Held → Type 0 = λ xs. HaveRoom room xs in
    subst P (sym e) (All-push (λ (f : Held). length f.bytes + room ≤ f.reserved) files file h k)

pub slots_popped : (room n : ℕ) (slots popped : List ℕ) → SlotsHaveRoom room slots → popped ≡ take n slots → SlotsHaveRoom room popped
slots_popped room n slots popped h e =
    let P : List ℕ → Type 0 = λ xs. SlotsHaveRoom room xs in
    subst P (sym e) (All-take (λ (k : ℕ). room ≤ k) n slots h)

-- an append at the index of a held name
pub append_there : (s : ShelfState) (name piece : List ℕ) (seen : List Held) (at size room calls : ℕ) (d file : Held) (refused : Bool) → seen ≡ s.files → Some at ≡ index_of name seen → d ≡ get_or s.files at d → refused ≡ append_fails s piece → size ≡ append_size s piece → file ≡ with_piece refused (take size piece) d → room ≡ s.room - size → calls ≡ one_more s.calls
    → record s { files = set s.files at file; room = room; calls = calls } ≡ append_after s name piece
append_there s name piece seen at size room calls d file refused e p g r z w q h =
    let f = change_there name (with_piece refused (take size piece)) s.files seen at d file e p g w
    ∙ ap (λ b. change_under name (with_piece b (take size piece)) s.files) r
    ∙ ap (λ k. change_under name (with_piece (append_fails s piece) (take k piece)) s.files) z in
    let k = q ∙ ap (λ x. s.room - x) z in
    λ i. record s { files = f i; room = k i; calls = h i }

-- a new file has memory for the room
pub new_fits : (room reads writes : ℕ) (name : List ℕ) (file : Held) → file ≡ record { name = name; bytes = []; reserved = room; reads = reads; writes = writes; handed = 0 } → length file.bytes + room ≤ file.reserved
new_fits room reads writes name file e =
    let P : Held → Type 0 = λ f. length f.bytes + room ≤ f.reserved in
    let least : 0 + room ≤ room = omega arith in
    subst P (sym e) least

index_step : {A : Type 0} (bytes : Held → A) (b : Bool) (f : Held) (p : Option ℕ) (u : Option Held) → is_some p ≡ is_some (option_map bytes u) → is_some (if b then Some 0 else option_map (λ (k : ℕ). k + 1) p) ≡ is_some (option_map bytes (if b then Some f else u))
index_step bytes true f p u h = refl
index_step bytes false f None u h = h
index_step bytes false f (Some k) u h = h

index_same : (name : List ℕ) (files : List Held) → is_some (index_of name files) ≡ is_some (option_map (λ f. f.bytes) (held_under name files))
index_same name [] = refl
index_same name (f ∷ fs) = index_step (λ f. f.bytes) (bytes_eq f.name name) f (index_of name fs) (held_under name fs) (index_same name fs)

-- a held name has an index
pub index_exists : (name : List ℕ) (files seen : List Held) (index : Option ℕ) → seen ≡ files → index ≡ index_of name seen → IsSome (option_map (λ f. f.bytes) (held_under name files)) → IsSome index
index_exists name files seen index e p h =
    let P : Bool → Type 0 = λ b. b ≡ true in
    let same : is_some index ≡ is_some (option_map (λ f. f.bytes) (held_under name files)) = ap is_some p ∙ ap (λ fs. is_some (index_of name fs)) e ∙ index_same name files in
    subst P (sym same) h
