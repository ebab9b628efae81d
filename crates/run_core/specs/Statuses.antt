-- What each status of the program means for the call.
use Rattle.std.specs.Prelude.{◌≡◌, ◌⊎◌, ◌==◌, ◌||◌, ℕ, List, [], Option, Some, None, All, IfSome, IsSome, IsTrue, Ok, length, if◌then◌else◌}
use Rattle.shade_report.specs.Refusals.{unreadable_text, usage_text}
use Rattle.shelf_io.specs.Contents.{Contents}
use Rattle.shelf_io.specs.Counts.{IsRaised}
use Rattle.run_core.specs.Answers.{Report, StandsFiner}
use Rattle.run_core.specs.Plan.{Plan, asking_for}
use Rattle.run_core.specs.Endings.{FailsToWrite, IsPut, IsSearchable, IsUnreadable, Leaves, LeavesPrefix, Reaches, World, out_of_memory_status}
use Rattle.run_core.specs.Outcome as outcome
use Rattle.run_core.specs.Outcome.{Fault, Outcome, conclusion_status, fault_status, refused, reported, status_of, text_of, written_of}
use Rattle.run_core.specs.Reading.{Gets, IsDue, result_of}

-- the kinds of statuses
pub data Kind : Type 0 where
  report : Kind
  usage : Kind
  unreadable : Kind
  refusal : Kind
  not_written : Kind
  out_of_memory : Kind
  nothing : Kind

-- 0, 5, 6, 8 and 9 belong to a report, 3, 7 and 11 to a refusal, and 1, 2, 4 and 10 are each of a
-- kind of their own; every other number is of the kind `nothing`
abbrev pub kind_of : ℕ → Kind
kind_of status =
    if (status == 0) || (status == 5) || (status == 6) || (status == 8) || (status == 9) then report
    else (if status == 1 then usage
    else (if status == 2 then unreadable
    else (if (status == 3) || (status == 7) || (status == 11) then refusal
    else (if status == 4 then not_written
    else (if status == 10 then out_of_memory
    else nothing)))))

module _ (plan : Option Plan) (before after : World) where
  -- the report of the command. At every finer scale m * 10^12 each enclosure is within the printed
  -- one, and a difference that passes or fails still does; one that is undecided may be decided
  -- there
  pub record IsReport (result : ℕ) : Type 0 where
    pub report : Report
    pub answers : Gets before.shelf.contents (asking_for plan) (reported report)
    pub status : conclusion_status report.conclusion ≡ result
    pub leaves : Leaves before after report.text report.written
    pub finer : All StandsFiner report.evaluations
    pub searched : IfSome report.recipes IsSearchable

  -- the words have no listed form
  pub record IsUsage : Type 0 where
    pub no_plan : plan ≡ None
    pub leaves : Leaves before after usage_text None

  -- a due file could not be read
  pub record NamesUnreadable : Type 0 where
    pub name : List ℕ
    pub fault : IsUnreadable (asking_for plan) before.shelf after.shelf name
    pub leaves : Leaves before after (unreadable_text name) None

  -- all due files were read, and this is the first fault
  pub record IsRefused (result : ℕ) : Type 0 where
    pub fault : Fault
    pub status : fault_status fault ≡ result
    pub answers : Gets before.shelf.contents (asking_for plan) (refused fault)
    pub leaves : Leaves before after (text_of (refused fault)) None

  -- a put failed, and the sink took a prefix of what was to be printed; or the file of the report
  -- could not be written, and a text that says so was to be printed
  pub data IsNotWritten : Type 0 where
    put_failed : (o : Outcome) → Reaches (asking_for plan) before.shelf after.shelf o → LeavesPrefix before after (text_of o) (written_of o) → IsNotWritten
    file_failed : (r : Report) (name bytes : List ℕ)
        → Gets before.shelf.contents (asking_for plan) (reported r)
        → r.written ≡ Some (name, bytes)
        → FailsToWrite before.shelf after.shelf name bytes
        → IsPut (text_of (outcome.not_written name)) before.sink after.sink
        → IsNotWritten

  -- memory ran out for a command, and nothing was printed
  pub record IsOutOfMemory : Type 0 where
    pub has_plan : IsSome plan
    pub leaves : Leaves before after [] None

  -- what each kind means for the call; a status of the kind `nothing` is never returned
  abbrev pub Tells : Kind → ℕ → Type 0
  Tells report status = IsReport status
  Tells usage status = IsUsage
  Tells unreadable status = NamesUnreadable
  Tells refusal status = IsRefused status
  Tells not_written status = IsNotWritten
  Tells out_of_memory status = IsOutOfMemory
  Tells nothing status = ⊥

  -- what a status means, and that words without a form end with 1 or 4
  pub record StatusTells (status : ℕ) : Type 0 where
    pub tells : Tells (kind_of status) status
    pub no_plan : plan ≡ None → (status ≡ 1) ⊎ (status ≡ 4)

  -- the call wrote and printed the whole outcome, or ran out of memory
  abbrev pub IsPrinted : Outcome → ℕ → Type 0
  IsPrinted o status = (status ≡ out_of_memory_status) ⊎ ((status ≡ status_of o) × Leaves before after (text_of o) (written_of o))

  -- Where the files are known and determine an outcome, and no failure of a due read, of the write
  -- or of a put was counted in the call, the call writes and prints the outcome, or ends with 10
  abbrev pub IsComplete : ℕ → Type 0
  IsComplete status =
      (c : Contents) (o : Outcome) → before.shelf.contents ≡ Some c
      → result_of c.file (asking_for plan) ≡ Ok o
      → ((n : List ℕ) → IsDue before.shelf.contents (asking_for plan) n → IsRaised (before.shelf.read_faults n) (after.shelf.read_faults n) → ⊥)
      → IfSome (written_of o) (λ file. IsRaised (before.shelf.write_faults file.0) (after.shelf.write_faults file.0) → ⊥)
      → (IsRaised before.sink.faults after.sink.faults → ⊥)
      → IsPrinted o status

  -- Where the files are known and determine an outcome, and reads of the due names, writes of its
  -- file and puts of its text are promised to succeed, the call writes and prints the outcome, or
  -- ends with 10; and the sink counts no failure
  abbrev pub IsReliable : ℕ → Type 0
  IsReliable status =
      (c : Contents) (o : Outcome) → before.shelf.contents ≡ Some c
      → result_of c.file (asking_for plan) ≡ Ok o
      → ((n : List ℕ) → IsDue before.shelf.contents (asking_for plan) n → IsTrue (before.shelf.reads_promised n))
      → IfSome (written_of o) (λ file. IsTrue (before.shelf.writes_promised file.0 (length file.1)))
      → IsTrue (before.sink.puts_promised (length (text_of o)))
      → IsPrinted o status × (after.sink.faults ≡ before.sink.faults)
