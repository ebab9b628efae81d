-- The outcome of a command over a shelf in memory that was filled with its files, and a sink in
-- memory.
use Rattle.std.specs.Prelude.{◌≡◌, ◌⊎◌, ◌≤◌, ◌++◌, ℕ, List, Option, Some, IfSome, Ok, IsTrue, length}
use Rattle.shelf_io.specs.Calls.{none_scheduled}
use Rattle.shelf_io.specs.Filling.{no_files, put_files}
use Rattle.shelf_io.specs.MemShelf.{ShelfState, shelf_contents}
use Rattle.shelf_io.specs.MemSink.{SinkState}
use Rattle.run_core.specs.Plan.{Plan, asking_for}
use Rattle.run_core.specs.Endings.{out_of_memory_status, with_written}
use Rattle.run_core.specs.Outcome.{Outcome, status_of, text_of, written_of}
use Rattle.run_core.specs.Reading.{result_of}

-- the outcome was written and printed, after the bytes that the sink had taken before
pub record IsDone (room : ℕ) (files : List (List ℕ × List ℕ)) (o : Outcome) (before after : SinkState) (returned : ℕ) (shelf : ShelfState) : Type 0 where
  pub status : returned ≡ status_of o
  pub text : after.taken ≡ before.taken ++ text_of o
  pub file : Some (shelf_contents shelf) ≡ with_written (written_of o) (Some (put_files files (no_files room)))

-- Where the files hold all that the command asks for, there is a slot and room for the file that
-- it writes, if it writes one, and the sink has room for its text and no call scheduled to fail:
-- the outcome over the files is written and printed, or memory ran out
abbrev pub IsReliable : Option Plan → (room slots : ℕ) → List (List ℕ × List ℕ) → (before after : SinkState) → ℕ → ShelfState → Type 0
IsReliable plan room slots files before after status shelf =
    (o : Outcome) → result_of (put_files files (no_files room)).file (asking_for plan) ≡ Ok o
    → IfSome (written_of o) (λ file. (1 ≤ slots) × (length file.1 ≤ room))
    → IsTrue (none_scheduled before.failing) → length (text_of o) ≤ before.room
    → (status ≡ out_of_memory_status) ⊎ IsDone room files o before after status shelf
