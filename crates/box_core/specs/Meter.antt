-- Counts of judgements.
use Rattle.std.specs.Prelude.{◌≡◌, ◌+◌, ◌-◌, ◌^◌, ℕ, min}

-- a count with one more, which stays at its greatest value
abbrev pub one_more : ℕ → ℕ
one_more count = min (count + 1) (2 ^ 64 - 1)

abbrev pub CountsOne : (before now : ℕ) → Type 0
CountsOne before now = now ≡ one_more before
