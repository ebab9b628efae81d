-- A create followed by appends, as one change of the contents, for callers that write a file in
-- pieces.
use Rattle.std.proofs.Common.{◌≡◌, ◌-◌, ◌≤◌, ℕ, Bool, true, false, Option, Some, None, List, [], ◌++◌, length, option_map, if◌then◌else◌, IsSome, IfSome, refl, sym, ap, ◌∙◌, subst, arith, length-append}
use Rattle.std.specs.Option.{ForSome}
use Rattle.std.specs.Str.{bytes_eq}
use Rattle.std.proofs.lemmas.Bool.{false≢true}
use Rattle.std.proofs.lemmas.Option.{none-some}
use Rattle.shelf_io.specs.Contents.{Contents, AddsTo, add_piece, put_bytes, write_bytes}
use Rattle.shelf_io.proofs.Changes.{same_name}
use Rattle.shelf_io.proofs.Shelves.{same_contents}

-- to create a name is to write no bytes under it
written_none_of : (name : List ℕ) (c : Contents) → put_bytes name [] c ≡ write_bytes name [] c
written_none_of name c = same_contents (put_bytes name [] c) (write_bytes name [] c) (λ _. refl) (omega arith)

piece_step : (q : Bool) (bytes piece : List ℕ) (u : Option (List ℕ)) → (if q then option_map (λ b. b ++ piece) (if q then Some bytes else u) else (if q then Some bytes else u)) ≡ (if q then Some (bytes ++ piece) else u)
piece_step true bytes piece u = refl
piece_step false bytes piece u = refl

-- to append a piece to written bytes is to write the bytes and the piece
written_more_of : (name bytes piece : List ℕ) (c : Contents) → add_piece name piece (write_bytes name bytes c) ≡ write_bytes name (bytes ++ piece) c
written_more_of name bytes piece c =
    same_contents (add_piece name piece (write_bytes name bytes c)) (write_bytes name (bytes ++ piece) c)
    (λ n. piece_step (bytes_eq n name) bytes piece (c.file n))
    (simp length-append (omega arith))

-- after a create, the known contents are the old ones with no bytes under the name
pub written_none : (name : List ℕ) (old now : Option Contents) → now ≡ option_map (put_bytes name []) old → now ≡ option_map (write_bytes name []) old
written_none name None now h = h
written_none name (Some c) now h = h ∙ ap (λ x. Some x) (written_none_of name c)

more_of : (name bytes piece : List ℕ) (old : Option Contents) → option_map (add_piece name piece) (option_map (write_bytes name bytes) old) ≡ option_map (write_bytes name (bytes ++ piece)) old
more_of name bytes piece None = refl
more_of name bytes piece (Some c) = ap (λ x. Some x) (written_more_of name bytes piece c)

-- after an append of a piece, the written bytes are those before with the piece
pub written_more : (name bytes piece : List ℕ) (old between now : Option Contents) → between ≡ option_map (write_bytes name bytes) old → AddsTo name piece between now → now ≡ option_map (write_bytes name (bytes ++ piece)) old
written_more name bytes piece old between now b a = a.0 ∙ ap (option_map (add_piece name piece)) b ∙ more_of name bytes piece old

-- the written bytes fit the room
pub written_fits : (name bytes piece : List ℕ) (old between now : Option Contents) → between ≡ option_map (write_bytes name bytes) old → IfSome old (λ c. length bytes ≤ c.room) → AddsTo name piece between now → IfSome old (λ c. length (bytes ++ piece) ≤ c.room)
written_fits name bytes piece None between now b f a = tt
written_fits name bytes piece (Some c) between now b f a =
    let P : Option Contents → Type 0 = λ x. IfSome x (λ k. length piece ≤ k.room) in
    let h : length piece ≤ c.room - length bytes = subst P b a.1 in
    simp length-append (omega arith)

some_there : (q : Bool) (bytes : List ℕ) (u : Option (List ℕ)) → q ≡ true → IsSome (if q then Some bytes else u)
some_there true bytes u h = refl
some_there false bytes u h = absurd (false≢true h)

-- a written name is held, as an append requires
pub written_held : (name bytes : List ℕ) (old now : Option Contents) → now ≡ option_map (write_bytes name bytes) old → ForSome now (λ c. IsSome (c.file name))
written_held name bytes None now h = λ c e. absurd (none-some c (sym h ∙ e))
written_held name bytes (Some d) now h = λ c e.
    let P : Option Contents → Type 0 = λ x. IfSome x (λ k. IsSome (k.file name)) in
    let there : IfSome (Some (write_bytes name bytes d)) (λ k. IsSome (k.file name)) = some_there (bytes_eq name name) bytes (d.file name) (same_name name) in
    subst P (sym h ∙ e) there
