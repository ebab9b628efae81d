-- What a sink does with a piece.
use Rattle.std.specs.Prelude.{◌≡◌, ◌+◌, ℕ, Option, Result, Ok, Err, IsOk, IsTrue, List, length, take, is_err}
use Rattle.std.specs.Io.KnownBytes.{append_known}
use Rattle.shelf_io.specs.Counts.{CountsFailure}
use Rattle.shelf_io.specs.View.{SinkView}

-- the bytes taken have grown by a prefix of the piece, where they are known
abbrev pub AddsPrefix : (old new : Option (List ℕ)) → List ℕ → Type 0
AddsPrefix old new piece = (k : ℕ) × (new ≡ append_known old (take k piece))

-- the bytes taken have grown by the whole piece, or by a prefix of it where the call failed
abbrev pub Takes : {T E : Type 0} → List ℕ → Result T E → (old new : Option (List ℕ)) → Type 0
Takes piece (Ok _) old new = new ≡ append_known old piece
Takes piece (Err _) old new = AddsPrefix old new piece

-- where a promise covered the piece and `more` further bytes, the call did not fail, and the
-- promise still covers those further bytes
abbrev pub KeepsPromise : {T E : Type 0} → List ℕ → Result T E → (old new : SinkView) → Type 0
KeepsPromise piece result old new =
    (more : ℕ) → IsTrue (old.puts_promised (length piece + more)) → IsOk result × IsTrue (new.puts_promised more)

-- a put of one piece, or of the pieces of one text: the bytes taken, the count of failures, and the
-- promise
pub record Puts {T E : Type 0} (piece : List ℕ) (result : Result T E) (old new : SinkView) : Type 0 where
  pub taken : Takes piece result old.taken new.taken
  pub counted : CountsFailure (is_err result) old.faults new.faults
  pub promised : KeepsPromise piece result old new
