-- The results of the steps of a command in code, compared with their definitions.
use Rattle.std.specs.Prelude.{◌≡◌, ◌⊎◌, ℕ, List, Option, Some, None, IfSome, Result, Ok, Err, option_map}
use Rattle.box_cert.specs.Spelling.{cert_text, content}
use Rattle.shelf_io.specs.View.{ShelfView}
use Rattle.run_core.specs.Answers as spec
use Rattle.run_core.specs.Asking.{Asking}
use Rattle.run_core.specs.Due.{FailsToRead}
use Rattle.run_core.specs.Endings.{IsSearchable, IsUnreadable, Reaches}
use Rattle.run_core.specs.Outcome.{Fault, Outcome, grammar, invalid, job, no_column, not_written, outcome_of, refusal_outcome, refused, reported, steps, table, too_long, unreadable, usage}
use Rattle.run_core.specs.Reading.{Gets, Reading, ReadsDue}
use Rattle.run_core.specs.declared.report.Report.{Report}
use Rattle.run_core.specs.declared.report.Written.{Written}
use Rattle.run_core.specs.declared.stop.OwnedRefusal.{OwnedRefusal}
use Rattle.run_core.specs.declared.stop.OwnedRefusal.TheVariants as owned
use Rattle.run_core.specs.declared.stop.Stop.{Stop}
use Rattle.run_core.specs.declared.stop.Stop.TheVariants as stop

-- the outcome that a refusal which owns its texts stands for
abbrev pub owned_outcome : OwnedRefusal → Outcome
owned_outcome owned.Usage = usage
owned_outcome (owned.Unreadable name) = unreadable name
owned_outcome (owned.TooLong name) = refused (too_long name)
owned_outcome (owned.Table name fault) = refused (table name fault)
owned_outcome (owned.Job name fault) = refused (job name fault)
owned_outcome (owned.NoColumn name column) = refused (no_column name column)
owned_outcome (owned.Steps limit) = refused (steps limit)
owned_outcome (owned.CertGrammar fault) = refused (grammar fault)
owned_outcome (owned.CertWrong line reason) = refused (invalid line reason)
owned_outcome (owned.NotWritten name) = not_written name

-- the outcome of a command that stopped, unless memory ran out
abbrev pub stop_outcome : Stop → Option Outcome
stop_outcome (stop.Refused refusal) = Some (refusal_outcome refusal)
stop_outcome (stop.Owned refusal) = Some (owned_outcome refusal)
stop_outcome stop.Memory = None

-- the step refuses its input as its definition does, unless memory ran out
abbrev pub Refuses : {Y : Type 0} → Stop → Result Y Fault → Type 0
Refuses why step = IfSome (stop_outcome why) (λ o. (fault : Fault) × (o ≡ refused fault) × (step ≡ Err fault))

-- the value of a step, through `view`, is that of its definition, or the step refuses as its
-- definition does, unless memory ran out
abbrev pub Gives : {X Y : Type 0} → (X → Y) → Result X Stop → Result Y Fault → Type 0
Gives view (Ok x) step = step ≡ Ok (view x)
Gives view (Err why) step = Refuses why step

-- the name and the bytes of the file that a report writes
abbrev pub file_view : Option Written → Option (List ℕ × List ℕ)
file_view written = option_map (λ file. (file.name.text.now, cert_text (content file.cert))) written

-- the report has the conclusion, the text and the file of its definition, and the recipes that it
-- reports on, if any, can be searched
pub record Matches (report : Report) (defined : spec.Report) : Type 0 where
  pub conclusion : report.conclusion ≡ defined.conclusion
  pub text : report.text.items ≡ defined.text
  pub written : file_view report.written ≡ defined.written
  pub searched : IfSome defined.recipes IsSearchable

-- the same, for a step that reports
abbrev pub Reports : Result Report Stop → Result spec.Report Fault → Type 0
Reports (Ok report) step = (r : spec.Report) × (step ≡ Ok r) × Matches report r
Reports (Err why) step = Refuses why step

-- a read of this name failed, or memory ran out
abbrev pub StopsAt : List ℕ → (before after : ShelfView) → Stop → Type 0
StopsAt name before after why = IfSome (stop_outcome why) (λ o. (o ≡ unreadable name) × FailsToRead before after name)

-- the refusal is the outcome of the command, or memory ran out
abbrev pub Stops : Asking → (before after : ShelfView) → Stop → Type 0
Stops asking before after why = IfSome (stop_outcome why) (λ o. Reaches asking before after o)

-- a due file could not be read, or memory ran out
abbrev pub IsUnread : {X : Type 0} → Reading X → (before after : ShelfView) → Stop → Type 0
IsUnread reading before after why = IfSome (stop_outcome why) (λ o. (name : List ℕ) × IsUnreadable reading before after name × (o ≡ unreadable name))

-- a reading was broken off, after only due files had been read
pub record Breaks {X : Type 0} (reading : Reading X) (before after : ShelfView) (why : Stop) : Type 0 where
  pub unread : IsUnread reading before after why
  pub reads : ReadsDue reading before after

-- the outcome of a reading that makes no value: its fault, or that a due file could not be read
abbrev pub StopsAs : {Y : Type 0} → Reading (Result Y Fault) → (before after : ShelfView) → Outcome → Type 0
StopsAs reading before after o =
    ((fault : Fault) × Gets before.contents reading (Err fault) × (o ≡ refused fault))
    ⊎ ((name : List ℕ) × IsUnreadable reading before after name × (o ≡ unreadable name))

-- the value that the code made, through `view`, is that of the reading, or it stopped
abbrev pub IsMade : {X Y : Type 0} → (X → Y) → Reading (Result Y Fault) → (before after : ShelfView) → Result X Stop → Type 0
IsMade view reading before after (Ok x) = Gets before.contents reading (Ok (view x))
IsMade view reading before after (Err why) = IfSome (stop_outcome why) (λ o. StopsAs reading before after o)

-- the input was made from the due reads, so that its judgement is the outcome; or the command
-- stopped
abbrev pub IsInput : {X : Type 0} → Asking → (X → Result spec.Report Fault) → (before after : ShelfView) → Result X Stop → Type 0
IsInput asking judged before after (Ok x) = Gets before.contents asking (outcome_of (judged x))
IsInput asking judged before after (Err why) = Stops asking before after why

-- the report is that of the command's outcome, or the command stopped
abbrev pub IsJudged : Asking → (before after : ShelfView) → Result Report Stop → Type 0
IsJudged asking before after (Ok report) = (r : spec.Report) × Reaches asking before after (reported r) × Matches report r
IsJudged asking before after (Err why) = Stops asking before after why
