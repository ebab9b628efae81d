-- What a call does to its own count of failures.
use Rattle.std.specs.Prelude.{◌≡◌, ◌+◌, ◌-◌, ◌^◌, ◌≤◌, ℕ, min, Bool, true, false}

-- the count has risen by at least one, or is at 2^64 - 1
abbrev pub IsRaised : ℕ → ℕ → Type 0
IsRaised before now = min (before + 1) (2 ^ 64 - 1) ≤ now

-- a call that failed has raised its count, and one that did not fail has left it unchanged
abbrev pub CountsFailure : Bool → (before now : ℕ) → Type 0
CountsFailure true before now = (before ≤ now) × IsRaised before now
CountsFailure false before now = now ≡ before
