-- Calls of a shelf or a sink in memory: which of them fail, and how much of its piece a call takes.
use Rattle.std.specs.Prelude.{◌==◌, ◌||◌, ◌+◌, ◌-◌, ◌/◌, ◌^◌, ℕ, Bool, true, false, List, [], ◌∷◌, min, nat_lt, if◌then◌else◌}
use Rattle.std.specs.List.{list_any}

-- a count plus one, which stays at 2^64 - 1 once it has reached it
abbrev pub one_more : ℕ → ℕ
one_more count = if nat_lt count (2 ^ 64 - 1) then count + 1 else count

-- a count of failures after a call that failed or not
abbrev pub count_after : Bool → ℕ → ℕ
count_after fails count = if fails then one_more count else count

-- a count plus `more`, which stays at 2^64 - 1 once it has reached it
abbrev pub count_more : ℕ → ℕ → ℕ
count_more more count = min (count + more) (2 ^ 64 - 1)

-- the next call is scheduled to fail: calls are numbered from 1, and these are the numbers of those
-- that fail
abbrev pub is_scheduled : List ℕ → ℕ → Bool
is_scheduled failing calls = list_any (λ number. number == calls + 1) failing

-- no call is scheduled to fail
abbrev pub none_scheduled : List ℕ → Bool
none_scheduled [] = true
none_scheduled (number ∷ numbers) = false

-- a piece is refused where its call is scheduled to fail, or where it is longer than the room
abbrev pub is_refused : Bool → ℕ → ℕ → Bool
is_refused scheduled room size = scheduled || nat_lt room size

-- how many bytes of the piece are taken: all that fit, and at most half of it where the call is
-- scheduled to fail
abbrev pub fitting : Bool → ℕ → ℕ → ℕ
fitting scheduled room size = min room (if scheduled then size / 2 else size)
