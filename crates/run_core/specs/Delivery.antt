-- How a report is delivered: its file first, and then its text.
use Rattle.std.specs.Prelude.{◌≡◌, ℕ, List, Option, Some, None, IsTrue, length, option_map, true}
use Rattle.std.specs.Io.KnownBytes.{append_known}
use Rattle.shelf_io.specs.Changes.{OnlyWrites}
use Rattle.shelf_io.specs.Contents.{write_bytes}
use Rattle.shelf_io.specs.Counts.{CountsFailure}
use Rattle.shelf_io.specs.Taking.{AddsPrefix}
use Rattle.shelf_io.specs.View.{ShelfView, SinkView}
use Rattle.run_core.specs.Endings.{FailsToWrite, World, not_written_status}
use Rattle.run_core.specs.Outcome.{not_written, text_of}

-- A text was put, and the result is its status. Or the put, which was not promised to succeed,
-- failed, and the result is the status of a failed put
pub data Prints (text : List ℕ) (status : ℕ) (before after : SinkView) (result : ℕ) : Type 0 where
  whole : after.taken ≡ append_known before.taken text
      → after.faults ≡ before.faults
      → result ≡ status
      → Prints text status before after result
  cut : AddsPrefix before.taken after.taken text
      → CountsFailure true before.faults after.faults
      → result ≡ not_written_status
      → (IsTrue (before.puts_promised (length text)) → ⊥)
      → Prints text status before after result

-- the file was written whole, and no other file was written
pub record WritesFile (name bytes : List ℕ) (before after : ShelfView) : Type 0 where
  pub contents : after.contents ≡ option_map (write_bytes name bytes) before.contents
  pub effect : OnlyWrites name (length bytes) before after

abbrev pub IsWritten : Option (List ℕ × List ℕ) → (before after : ShelfView) → Type 0
IsWritten None before after = after ≡ before
IsWritten (Some file) before after = WritesFile file.0 file.1 before after

-- The file, if there is one, was written, and then the text was put; or the file could not be
-- written, and a text that says so was put. The put may have failed
pub data Delivers (file : Option (List ℕ × List ℕ)) (text : List ℕ) (status : ℕ) (before after : World) (result : ℕ) : Type 0 where
  printed : IsWritten file before.shelf after.shelf
      → Prints text status before.sink after.sink result
      → Delivers file text status before after result
  spoiled : (name bytes : List ℕ)
      → file ≡ Some (name, bytes)
      → FailsToWrite before.shelf after.shelf name bytes
      → OnlyWrites name (length bytes) before.shelf after.shelf
      → Prints (text_of (not_written name)) not_written_status before.sink after.sink result
      → Delivers file text status before after result
