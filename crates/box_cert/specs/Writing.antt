-- Writing a file in pieces: each piece is put after the waiting bytes, and these are appended to
-- the file now and then.
use Rattle.std.specs.Prelude.{◌≡◌, ◌+◌, ◌⊎◌, ℕ, List, ◌++◌, length, Option, option_map, Result, Ok, Err, IsSome, IsOk, IsTrue, is_err, true}
use Rattle.std.specs.Option.{ForSome}
use Rattle.shelf_io.specs.Changes.{OnlyWrites}
use Rattle.shelf_io.specs.Contents.{Contents, write_bytes}
use Rattle.shelf_io.specs.Counts.{CountsFailure}
use Rattle.shelf_io.specs.View.{ShelfView}

-- a prefix of the text is written under the name
pub record WritesPrefix (name text : List ℕ) (old new : Option Contents) : Type 0 where
  pub done : List ℕ
  pub rest : List ℕ
  pub is : done ++ rest ≡ text
  pub contents : new ≡ option_map (write_bytes name done) old

-- nothing changed, or a prefix of the text is written under the name
abbrev pub IsCutOff : (name text : List ℕ) (old new : Option Contents) → Type 0
IsCutOff name text old new = (new ≡ old) ⊎ WritesPrefix name text old new

-- the text is written under the name; after a failure nothing changed, or a prefix of it is
abbrev pub WritesText : {T E : Type 0} → List ℕ → List ℕ → Result T E → (old new : Option Contents) → Type 0
WritesText name text (Ok _) old new = new ≡ option_map (write_bytes name text) old
WritesText name text (Err _) old new = IsCutOff name text old new

-- what a call that writes a file does
pub record Writes {T E : Type 0} (name text : List ℕ) (result : Result T E) (old new : ShelfView) : Type 0 where
  pub contents : WritesText name text result old.contents new.contents
  pub effect : OnlyWrites name (length text) old new
  pub counted : CountsFailure (is_err result) (old.write_faults name) (new.write_faults name)
  pub promised : (more : ℕ) → IsTrue (old.writes_promised name (length text + more)) → IsOk result

-- since the start the text was put: a prefix of it is written, and the rest waits
pub record Holds (name waiting text : List ℕ) (start now : ShelfView) : Type 0 where
  pub done : List ℕ
  pub is : done ++ waiting ≡ text
  pub contents : now.contents ≡ option_map (write_bytes name done) start.contents
  pub effect : OnlyWrites name (length done) start now
  pub counted : now.write_faults name ≡ start.write_faults name

-- since the start a prefix of the text was written, and then an append failed
pub record Fails (name text : List ℕ) (start now : ShelfView) : Type 0 where
  pub prefix : WritesPrefix name text start.contents now.contents
  pub effect : OnlyWrites name (length text) start now
  pub counted : CountsFailure true (start.write_faults name) (now.write_faults name)
  pub unpromised : (more : ℕ) → IsTrue (start.writes_promised name (length text + more)) → ⊥

-- the piece was put after the text, whatever text was put before
abbrev pub GoesOn : (name piece waiting : List ℕ) → ShelfView → List ℕ → ShelfView → Type 0
GoesOn name piece waiting old still new =
    (start : ShelfView) (text : List ℕ) → Holds name waiting text start old → Holds name still (text ++ piece) start new

-- an append failed while the piece was put after the text, whatever text was put before
abbrev pub GoesWrong : (name piece waiting : List ℕ) (old new : ShelfView) → Type 0
GoesWrong name piece waiting old new =
    (start : ShelfView) (text : List ℕ) → Holds name waiting text start old → Fails name (text ++ piece) start new

abbrev pub Goes : {T E : Type 0} → List ℕ → List ℕ → Result T E → List ℕ → ShelfView → List ℕ → ShelfView → Type 0
Goes name piece (Ok _) waiting old still new = GoesOn name piece waiting old still new
Goes name piece (Err _) waiting old still new = GoesWrong name piece waiting old new

-- a file has this name, where the files are known
abbrev pub IsHeld : List ℕ → ShelfView → Type 0
IsHeld name view = ForSome view.contents (λ c. IsSome (c.file name))
