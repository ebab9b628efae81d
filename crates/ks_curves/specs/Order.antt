-- Items in rising order of a number that each has.
use Rattle.std.specs.Prelude.{ℕ, ◌+◌, List, [], ◌∷◌, nat_le, nat_lt, if◌then◌else◌}

-- items in rising order, with x in its place, if none has its number
unfoldable pub put_by : {T : Type 0} → (T → ℕ) → T → List T → List T
put_by number x [] = x ∷ []
put_by number x (y ∷ ys) =
    if nat_lt (number x) (number y) then x ∷ y ∷ ys
    else (if nat_lt (number y) (number x) then y ∷ put_by number x ys else y ∷ ys)

-- how many items stand before the first whose number is at least `least`
unfoldable pub place_by : {T : Type 0} → (T → ℕ) → ℕ → List T → ℕ
place_by number least [] = 0
place_by number least (y ∷ ys) = if nat_le least (number y) then 0 else (1 + place_by number least ys)
