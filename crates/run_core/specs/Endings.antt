-- How a call of the program ends.
use Rattle.std.specs.Prelude.{◌≡◌, ◌⊎◌, ◌-◌, ℕ, ◌≤◌, List, [], Option, Some, None, IfSome, IsSome, IsTrue, length, option_map, true}
use Rattle.box_cert.specs.Writing.{IsCutOff}
use Rattle.box_specs.specs.Landscape.{IsLawful}
use Rattle.job_file.specs.Resolve.{ResolvedJob}
use Rattle.recipe_judge.specs.Recipes.{recipe_land}
use Rattle.std.specs.Io.KnownBytes.{append_known}
use Rattle.shelf_io.specs.Changes.{OnlyReads, OnlyWrites}
use Rattle.shelf_io.specs.Contents.{Contents, write_bytes}
use Rattle.shelf_io.specs.Counts.{CountsFailure, IsRaised}
use Rattle.shelf_io.specs.Taking.{AddsPrefix}
use Rattle.shelf_io.specs.View.{ShelfView, SinkView}
use Rattle.run_core.specs.Answers.{Report}
use Rattle.run_core.specs.Asking.{Asking}
use Rattle.run_core.specs.Plan.{Plan, asking_for, written_by}
use Rattle.run_core.specs.Due.{FailsToRead}
use Rattle.run_core.specs.Outcome.{Outcome, not_written, refused, reported, status_of, text_of, unreadable, usage, written_of}
use Rattle.run_core.specs.Reading.{Gets, IsDue, MayTake, Reading}

-- what is known of the shelf and of the sink at one moment
pub record World : Type 0 where
  pub shelf : ShelfView
  pub sink : SinkView

-- both of them, as one world
abbrev pub world : ShelfView → SinkView → World
world shelf sink = record { shelf = shelf; sink = sink }

-- the files after one of them was written, if one was: the free room shrinks by its bytes
abbrev pub with_written : Option (List ℕ × List ℕ) → Option Contents → Option Contents
with_written None contents = contents
with_written (Some file) contents = option_map (write_bytes file.0 file.1) contents

-- the sink took exactly this text and counted no failure, and only this file was written, or none
-- where there is none
pub record Leaves (before after : World) (text : List ℕ) (written : Option (List ℕ × List ℕ)) : Type 0 where
  pub taken : after.sink.taken ≡ append_known before.sink.taken text
  pub counted : after.sink.faults ≡ before.sink.faults
  pub contents : after.shelf.contents ≡ with_written written before.shelf.contents

-- a put failed: the sink took only a prefix of the text, and the files are as in `Leaves`
pub record LeavesPrefix (before after : World) (text : List ℕ) (written : Option (List ℕ × List ℕ)) : Type 0 where
  pub taken : AddsPrefix before.sink.taken after.sink.taken text
  pub counted : CountsFailure true before.sink.faults after.sink.faults
  pub contents : after.shelf.contents ≡ with_written written before.shelf.contents

-- a job whose recipes can be searched: they are a lawful landscape, and the budget is at most
-- 1,000,000
pub record IsSearchable (r : ResolvedJob) : Type 0 where
  pub lawful : IsLawful (recipe_land r)
  pub budget : r.job.head.budget ≤ 1000000

-- the job whose recipes an outcome reports on, if there is one, can be searched
abbrev pub IsSearched : Outcome → Type 0
IsSearched usage = Unit {0}
IsSearched (unreadable name) = Unit {0}
IsSearched (refused fault) = Unit {0}
IsSearched (reported report) = IfSome report.recipes IsSearchable
IsSearched (not_written name) = Unit {0}

-- the sink took exactly this text and counted no failure; or a put failed, and it took only a
-- prefix of the text
pub data IsPut (text : List ℕ) (before after : SinkView) : Type 0 where
  whole : after.taken ≡ append_known before.taken text → after.faults ≡ before.faults → IsPut text before after
  cut : AddsPrefix before.taken after.taken text → CountsFailure true before.faults after.faults → IsPut text before after

-- a write of the name failed, and it had not been promised that these bytes can be written: nothing
-- changed, or the name holds a prefix of them
pub record FailsToWrite (before after : ShelfView) (name bytes : List ℕ) : Type 0 where
  pub rose : IsRaised (before.write_faults name) (after.write_faults name)
  pub unpromised : IsTrue (before.writes_promised name (length bytes)) → ⊥
  pub contents : IsCutOff name bytes before.contents after.contents

-- the file of this name was due and could not be read
pub record IsUnreadable {X : Type 0} (reading : Reading X) (before after : ShelfView) (name : List ℕ) : Type 0 where
  pub due : IsDue before.contents reading name
  pub failed : FailsToRead before after name

-- the outcome of the call: the one over the bytes that were read, or that a due file could not be
-- read
abbrev pub Reaches : Asking → (before after : ShelfView) → Outcome → Type 0
Reaches asking before after o =
    Gets before.contents asking o
    ⊎ ((name : List ℕ) × IsUnreadable asking before after name × (o ≡ unreadable name))

-- the status where a put or a write failed
abbrev pub not_written_status : ℕ
not_written_status = 4

-- the status where memory ran out
abbrev pub out_of_memory_status : ℕ
out_of_memory_status = 10

-- How a call ends: it wrote its file, if it has one, and printed the whole outcome; or a put, which
-- was not promised to succeed, failed, and the sink took a prefix of the outcome's text; or the
-- file could not be written, and only a text that says so was to be printed; or memory ran out for
-- a command, and nothing was written or printed
pub data Ended (plan : Option Plan) (before after : World) (status : ℕ) : Type 0 where
  spoke : (o : Outcome)
      → Reaches (asking_for plan) before.shelf after.shelf o
      → status ≡ status_of o
      → Leaves before after (text_of o) (written_of o)
      → IsSearched o
      → Ended plan before after status
  cut_off : (o : Outcome)
      → Reaches (asking_for plan) before.shelf after.shelf o
      → status ≡ not_written_status
      → LeavesPrefix before after (text_of o) (written_of o)
      → (IsTrue (before.sink.puts_promised (length (text_of o))) → ⊥)
      → Ended plan before after status
  spoiled : (r : Report) (name bytes : List ℕ)
      → Gets before.shelf.contents (asking_for plan) (reported r)
      → r.written ≡ Some (name, bytes)
      → status ≡ not_written_status
      → FailsToWrite before.shelf after.shelf name bytes
      → IsPut (text_of (not_written name)) before.sink after.sink
      → Ended plan before after status
  out_of_memory : status ≡ out_of_memory_status
      → IsSome plan
      → Leaves before after [] None
      → Ended plan before after status

-- only due files were read; or they were, and then only the file of the outcome was written, and of
-- as many bytes as the outcome writes
pub data ChangesFiles (plan : Option Plan) (before after : ShelfView) : Type 0 where
  reads_alone : OnlyReads (IsDue before.contents (asking_for plan)) before after → ChangesFiles plan before after
  writes_too : (mid : ShelfView) (r : Report) (name bytes : List ℕ)
      → OnlyReads (IsDue before.contents (asking_for plan)) before mid
      → Gets before.contents (asking_for plan) (reported r)
      → r.written ≡ Some (name, bytes)
      → written_by plan ≡ Some name
      → OnlyWrites name (length bytes) mid after
      → ChangesFiles plan before after

-- the file of every possible outcome can be written under the name, as is promised
abbrev pub ArePromised : Option Plan → ShelfView → List ℕ → Type 0
ArePromised plan before name =
    (r : Report) (bytes : List ℕ) → Gets before.contents (asking_for plan) (reported r) → r.written ≡ Some (name, bytes) → IsTrue (before.writes_promised name (length bytes))

-- What a call changes: the shelf by reads of due files, of each at most one byte more than its
-- limit each time that it is due, and by writes of the file that the command writes, of which none
-- fails that was promised; and the sink's count of failures does not fall
pub record Changes (plan : Option Plan) (before after : World) : Type 0 where
  pub effect : ChangesFiles plan before.shelf after.shelf
  pub unfailed : (name : List ℕ) → written_by plan ≡ Some name → ArePromised plan before.shelf name → after.shelf.write_faults name ≡ before.shelf.write_faults name
  pub taken : (n : List ℕ) → MayTake before.shelf.contents (asking_for plan) n (after.shelf.handed n - before.shelf.handed n)
  pub puts : before.sink.faults ≤ after.sink.faults
