-- A sink in memory, and how its calls change it.
use Rattle.std.specs.Prelude.{◌-◌, ◌&&◌, ℕ, Bool, List, [], ◌∷◌, ◌++◌, length, take, if◌then◌else◌, Some, nat_le}
use Rattle.shelf_io.specs.View.{SinkView}
use Rattle.shelf_io.specs.Calls.{one_more, is_scheduled, none_scheduled, is_refused, fitting}

-- the bytes taken, how many more it can take, its count of faults, how many calls of put there have
-- been, and the numbers of the calls that fail
pub record SinkState : Type 0 where
  pub taken : List ℕ
  pub room : ℕ
  pub faults : ℕ
  pub calls : ℕ
  pub failing : List ℕ

-- a sink that has taken nothing yet, with this room
abbrev pub fresh_sink : ℕ → SinkState
fresh_sink room = record { taken = []; room = room; faults = 0; calls = 0; failing = [] }

-- the next call is scheduled to fail, or the piece is longer than the room
abbrev pub put_fails : SinkState → List ℕ → Bool
put_fails s piece = is_refused (is_scheduled s.failing s.calls) s.room (length piece)

-- how many bytes of the piece the next call takes
abbrev pub put_size : SinkState → List ℕ → ℕ
put_size s piece = fitting (is_scheduled s.failing s.calls) s.room (length piece)

-- the sink after the next call
abbrev pub put_after : SinkState → List ℕ → SinkState
put_after s piece = record {
  taken = s.taken ++ take (put_size s piece) piece;
  room = s.room - put_size s piece;
  faults = if put_fails s piece then one_more s.faults else s.faults;
  calls = one_more s.calls;
  failing = s.failing;
}

-- the sink with one more call that fails
abbrev pub failing_sink : ℕ → SinkState → SinkState
failing_sink call s = record s { failing = s.failing ++ call ∷ [] }

-- no call is scheduled to fail, and there is room for this many bytes
abbrev pub promises_puts : SinkState → ℕ → Bool
promises_puts s bytes = none_scheduled s.failing && nat_le bytes s.room

-- all that callers know of the sink
abbrev pub sink_view : SinkState → SinkView
sink_view s = record { taken = Some s.taken; faults = s.faults; puts_promised = promises_puts s }
