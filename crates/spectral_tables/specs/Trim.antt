-- A field without the spaces and tabs around it.
use Rattle.std.specs.Prelude.{ℕ, Bool, ◌||◌, ◌==◌, if◌then◌else◌, List, [], ◌∷◌, reverse}

-- a space or a tab
abbrev pub is_blank : ℕ → Bool
is_blank b = (b == 32) || (b == 9)

-- the field without the blanks at its start
unfoldable pub trim_start : List ℕ → List ℕ
trim_start [] = []
trim_start (b ∷ bs) = if is_blank b then trim_start bs else b ∷ bs

-- the field without the blanks at its end
unfoldable pub trim_end : List ℕ → List ℕ
trim_end field = reverse (trim_start (reverse field))

-- the field without the blanks at either end
abbrev pub trimmed : List ℕ → List ℕ
trimmed field = trim_end (trim_start field)
