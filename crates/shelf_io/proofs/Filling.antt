-- A shelf in memory while it is filled, and what it promises.
use Rattle.std.proofs.Common.{◌≡◌, ◌+◌, ◌<◌, ◌≤◌, ◌||◌, ◌⊎◌, inl, inr, length, map, take, get_or, ℕ, Bool, true, false, Option, Some, None, List, [], ◌∷◌, ◌++◌, IsSome, option_map, is_some, nat_lt, refl, sym, ap, ◌∙◌, subst, arith}
use Rattle.std.proofs.lemmas.List.{map-append, take_more}
use Rattle.std.proofs.lemmas.Bool.Decides.{nat_tests}
use Rattle.shelf_io.specs.Calls.{none_scheduled}
use Rattle.shelf_io.specs.Contents.{Contents, put_bytes}
use Rattle.shelf_io.specs.Filling.{IsFilled, no_files, put_files}
use Rattle.shelf_io.specs.Held.{Held, held_under}
use Rattle.shelf_io.specs.MemShelf.{ShelfState, fresh_shelf, is_held, shelf_contents, shelf_with}
use Rattle.shelf_io.proofs.Promises.{reads_promise, writes_promise}
use Rattle.shelf_io.proofs.Shelves.{contents_with}

-- the shelf was made with these slots, has these contents, and no call of it is scheduled to fail
pub record Fills (spare : ℕ) (holds : Contents) (s : ShelfState) : Type 0 where
  pub quiet : none_scheduled s.failing ≡ true
  pub slots : s.slots ≡ spare
  pub contents : shelf_contents s ≡ holds

pub fills_fresh : (room slots : ℕ) → Fills slots (no_files room) (fresh_shelf room slots)
fills_fresh room slots = record { quiet = refl; slots = refl; contents = refl }

pub fills_more : (slots : ℕ) (c : Contents) (s : ShelfState) (name bytes : List ℕ) → Fills slots c s → Fills slots (put_bytes name bytes c) (shelf_with name bytes s)
fills_more slots c s name bytes f =
    record { quiet = f.quiet; slots = f.slots; contents = contents_with name bytes s ∙ ap (put_bytes name bytes) f.contents }

-- a file more is put after those before it
pub put_last : (files : List (List ℕ × List ℕ)) (name bytes : List ℕ) (c : Contents) → put_files (files ++ (name, bytes) ∷ []) c ≡ put_bytes name bytes (put_files files c)
put_last [] name bytes c = refl
put_last (f ∷ fs) name bytes c = put_last fs name bytes (put_bytes f.0 f.1 c)

-- the next file of a slice is put
pub fills_next : {A : Type 0} (spell : A → List ℕ × List ℕ) (files : List A) (i : ℕ) (d : A) (spare : ℕ) (c : Contents) (s t : ShelfState) → i < length files
    → Fills spare (put_files (map spell (take i files)) c) s → t ≡ shelf_with (spell (get_or files i d)).0 (spell (get_or files i d)).1 s
    → Fills spare (put_files (map spell (take (i + 1) files)) c) t
fills_next spell files i d spare c s t h f e =
    let file : List ℕ × List ℕ = spell (get_or files i d) in
    let P : List (List ℕ × List ℕ) → Type 0 = λ xs. Fills spare (put_files xs c) t in
    let Q : Contents → Type 0 = λ b. Fills spare b t in
    let R : ShelfState → Type 0 = λ b. Fills spare (put_bytes file.0 file.1 (put_files (map spell (take i files)) c)) b in
    let parts : map spell (take (i + 1) files) ≡ (map spell (take i files) ++ file ∷ []) = ap (map spell) (take_more files i d h) ∙ map-append spell (take i files) (get_or files i d ∷ []) in
    subst P (sym parts) (subst Q (sym (put_last (map spell (take i files)) file.0 file.1 c))
    (subst R (sym e) (fills_more spare (put_files (map spell (take i files)) c) s file.0 file.1 f)))

held_file : (h : Option Held) → IsSome (option_map (λ f. f.bytes) h) → is_some h ≡ true
held_file (Some f) s = refl
held_file None s = cc

held_of : (c : Contents) (s : ShelfState) (name : List ℕ) → shelf_contents s ≡ c → IsSome (c.file name) → is_held s name ≡ true
held_of c s name e h =
    let P : Contents → Type 0 = λ d. IsSome (d.file name) in
    held_file (held_under name s.files) (subst P (sym e) h)

some_slot : (n : ℕ) → 1 ≤ n → nat_lt 0 n ≡ true
some_slot n h = grind (arith, nat_tests)

either_left : (a b : Bool) → a ≡ true → (a || b) ≡ true
either_left true b h = refl
either_left false b h = cc

either_right : (a b : Bool) → b ≡ true → (a || b) ≡ true
either_right true b h = refl
either_right false b h = h

slot_or_held : (slots : ℕ) (c : Contents) (s : ShelfState) (name : List ℕ) → Fills slots c s → (1 ≤ slots) ⊎ IsSome (c.file name) → (is_held s name || nat_lt 0 s.slots) ≡ true
slot_or_held slots c s name f (inl h) =
    let P : ℕ → Type 0 = λ n. 1 ≤ n in
    either_right (is_held s name) (nat_lt 0 s.slots) (some_slot s.slots (subst P (sym f.slots) h))
slot_or_held slots c s name f (inr h) = either_left (is_held s name) (nat_lt 0 s.slots) (held_of c s name f.contents h)

pub is_filled : (room slots : ℕ) (files : List (List ℕ × List ℕ)) (s : ShelfState) → Fills slots (put_files files (no_files room)) s → s.room ≡ room → IsFilled room slots files s
is_filled room slots files s f r = let c : Contents = put_files files (no_files room) in record {
  contents = f.contents;
  reads = λ name h. reads_promise s name record { none = f.quiet; held = held_of c s name f.contents h };
  writes = λ name bytes h k. let P : ℕ → Type 0 = λ n. bytes ≤ n in
      writes_promise s name bytes record { none = f.quiet; slot = slot_or_held slots c s name f h; room = subst P (sym r) k };
}
