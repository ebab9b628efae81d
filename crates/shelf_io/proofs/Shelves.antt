-- What a change of a shelf in memory does to its contents and counts.
use Rattle.std.proofs.Common.{◌≡◌, ◌+◌, ℕ, Bool, true, false, Option, Some, None, List, [], ◌∷◌, ◌++◌, length, get_or, option_map, if◌then◌else◌, is_some, refl, sym, ap, ◌∙◌}
use Rattle.std.proofs.Math.ListN.{set}
use Rattle.std.proofs.lemmas.Bool.{false≢true}
use Rattle.std.specs.Str.{bytes_eq}
use Rattle.std.proofs.lemmas.Slice.Eq.{bytes_eq-Decides}
use Rattle.shelf_io.specs.Contents.{Contents, put_bytes}
use Rattle.shelf_io.specs.Held.{Held, held_under, index_of, change_under, with_bytes}
use Rattle.shelf_io.specs.MemShelf.{ShelfState, shelf_contents, shelf_with}
use Rattle.shelf_io.proofs.Files.{under_changed, under_pushed, change_at, read_there, read_nowhere}

-- contents with the same files and the same room are equal
pub same_contents : (a b : Contents) → ((n : List ℕ) → a.file n ≡ b.file n) → a.room ≡ b.room → a ≡ b
same_contents a b h r = λ i. record { file = λ n. h n i; room = r i }

-- a name that equals another has the same file
pub same_file : (name n : List ℕ) (files : List Held) → bytes_eq n name ≡ true → held_under n files ≡ held_under name files
same_file name n files h = ap (λ x. held_under x files) ((bytes_eq-Decides n name).0 h)

true_step : (b c : Bool) → (b ≡ true → c ≡ true) → (c ≡ true → b ≡ true) → b ≡ c
true_step true true h k = refl
true_step true false h k = sym (h refl)
true_step false true h k = k refl
true_step false false h k = refl

-- whether two names are equal does not depend on their order
pub bytes_eq_comm : (a b : List ℕ) → bytes_eq a b ≡ bytes_eq b a
bytes_eq_comm a b = true_step (bytes_eq a b) (bytes_eq b a) (λ h. (bytes_eq-Decides b a).1 (sym ((bytes_eq-Decides a b).0 h))) (λ h. (bytes_eq-Decides a b).1 (sym ((bytes_eq-Decides b a).0 h)))

pub under_choice : (b : Bool) (n : List ℕ) (xs ys : List Held) → held_under n (if b then xs else ys) ≡ (if b then held_under n xs else held_under n ys)
under_choice true n xs ys = refl
under_choice false n xs ys = refl

pub choice_both : (b : Bool) {x x' y y' : Option Held} → x ≡ x' → y ≡ y' → (if b then x else y) ≡ (if b then x' else y')
choice_both true h k = h
choice_both false h k = k

with_step : (h u : Option Held) (q r : Bool) (bytes : List ℕ) (room : ℕ) (new : Held) → (q ≡ true → u ≡ h) → r ≡ q → new.bytes ≡ bytes
    → option_map (λ f. f.bytes) (if is_some h then (if q then option_map (with_bytes bytes room) u else u) else (if is_some u then u else (if r then Some new else None))) ≡ (if q then Some bytes else option_map (λ f. f.bytes) u)
with_step (Some f) u true r bytes room new same e b = rw (same refl) refl
with_step (Some f) u false r bytes room new same e b = refl
with_step None None true r bytes room new same e b = rw e (ap (λ x. Some x) b)
with_step None (Some g) true r bytes room new same e b = let k = same refl in cc
with_step None None false r bytes room new same e b = rw e refl
with_step None (Some g) false r bytes room new same e b = refl

-- bytes put under a name are what the contents have there, and nothing else is changed
pub contents_with : (name bytes : List ℕ) (s : ShelfState) → shelf_contents (shelf_with name bytes s) ≡ put_bytes name bytes (shelf_contents s)
contents_with name bytes s =
    let new : Held = record { name = name; bytes = bytes; reserved = length bytes + s.room; reads = s.shared_reads; writes = s.shared_writes; handed = 0 } in
    let held : Bool = is_some (held_under name s.files) in
    same_contents (shelf_contents (shelf_with name bytes s)) (put_bytes name bytes (shelf_contents s))
    (λ n. let e : held_under n (if held then change_under name (with_bytes bytes s.room) s.files else s.files ++ new ∷ []) ≡ (if held then (if bytes_eq n name then option_map (with_bytes bytes s.room) (held_under n s.files) else held_under n s.files) else (if is_some (held_under n s.files) then held_under n s.files else (if bytes_eq name n then Some new else None)))
    = under_choice held n (change_under name (with_bytes bytes s.room) s.files) (s.files ++ new ∷ [])
    ∙ choice_both held (under_changed name n (with_bytes bytes s.room) s.files (λ _. refl)) (under_pushed n s.files new) in
    ap (option_map (λ f. f.bytes)) e ∙ with_step (held_under name s.files) (held_under n s.files) (bytes_eq n name) (bytes_eq name n) bytes s.room new (same_file name n s.files) (bytes_eq_comm name n) refl)
    refl

pub choose_true : {A : Type 0} (b : Bool) (x y : A) → b ≡ true → x ≡ (if b then x else y)
choose_true true x y h = refl
choose_true false x y h = absurd (false≢true h)

pub choose_false : {A : Type 0} (b : Bool) (x y : A) → b ≡ false → y ≡ (if b then x else y)
choose_false true x y h = absurd (false≢true (sym h))
choose_false false x y h = refl

-- bytes put at the index of a held name
pub with_held : (name bytes : List ℕ) (s : ShelfState) (at : ℕ) (d file : Held) (seen : List Held) → seen ≡ s.files → Some at ≡ index_of name seen → d ≡ get_or s.files at d → file ≡ with_bytes bytes s.room d
    → record s { files = set s.files at file } ≡ shelf_with name bytes s
with_held name bytes s at d file seen e p g w =
    let new : Held = record { name = name; bytes = bytes; reserved = length bytes + s.room; reads = s.shared_reads; writes = s.shared_writes; handed = 0 } in
    let found = read_there name s.files seen at d e p g in
    let changed : set s.files at file ≡ change_under name (with_bytes bytes s.room) s.files =
    ap (λ f. set s.files at f) (w ∙ ap (with_bytes bytes s.room) g) ∙ change_at name (with_bytes bytes s.room) s.files at d (ap (index_of name) (sym e) ∙ sym p) in
    ap (λ (fs : List Held). record s { files = fs }) (changed ∙ choose_true (is_some (held_under name s.files)) (change_under name (with_bytes bytes s.room) s.files) (s.files ++ new ∷ []) (ap is_some found))

-- bytes put under a name that was not held
pub with_new : (name bytes : List ℕ) (s : ShelfState) (seen files : List Held) (file : Held) → seen ≡ s.files → None ≡ index_of name seen → file ≡ record { name = name; bytes = bytes; reserved = length bytes + s.room; reads = s.shared_reads; writes = s.shared_writes; handed = 0 } → files ≡ s.files ++ file ∷ []
    → record s { files = files } ≡ shelf_with name bytes s
with_new name bytes s seen files file e p f g =
    let new : Held = record { name = name; bytes = bytes; reserved = length bytes + s.room; reads = s.shared_reads; writes = s.shared_writes; handed = 0 } in
    let missing = read_nowhere name s.files seen e p in
    ap (λ (fs : List Held). record s { files = fs }) (g ∙ ap (λ x. s.files ++ x ∷ []) f ∙ choose_false (is_some (held_under name s.files)) (change_under name (with_bytes bytes s.room) s.files) (s.files ++ new ∷ []) (ap is_some missing))
