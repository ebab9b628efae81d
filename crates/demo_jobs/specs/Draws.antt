-- The pseudo-random numbers that a job is made from: a linear congruential generator of 64 bits.
use Rattle.std.specs.Prelude.{ℕ, zero, suc, ◌+◌, ◌*◌, ◌/◌, ◌%◌, ◌^◌, List, [], ◌∷◌, slice_index}

-- the next state of the generator
unfoldable pub next_state : ℕ → ℕ
next_state x = (x * 6364136223846793005 + 1442695040888963407) % 2 ^ 64

-- the number drawn from a state: its upper 31 bits
unfoldable pub drawn : ℕ → ℕ
drawn x = x / 2 ^ 33

-- the first draws after a state, as many as the first argument says
unfoldable pub draws_after : ℕ → ℕ → List ℕ
draws_after zero x = []
draws_after (suc k) x = drawn (next_state x) ∷ draws_after k (next_state x)

-- the draws for the job with this number, which is the first state; four draws are for each of the
-- six dyes, and two for each of the three dyes of the hidden recipe
unfoldable pub draws : ℕ → List ℕ
draws number = draws_after 30 number

-- the draw at an index, reduced to a number below n
abbrev pub draw : List ℕ → ℕ → ℕ → ℕ
draw list index n = slice_index list index % n
