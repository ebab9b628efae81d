-- Rules of columns.
use Rattle.std.specs.Prelude.{◌≡◌, ◌<◌, ◌≤◌, ℕ, Bool, List, [], length, get_or}
use Rattle.spectral_tables.specs.declared.column_range.ColumnRange.{ColumnRange}

-- which names columns may have, and the range of the numbers under each name
pub record Rule : Type 0 where
  pub is_column : List ℕ → Bool
  pub range_of : List ℕ → ColumnRange

-- a number in a range
abbrev pub IsInRange : ColumnRange → ℕ → Type 0
IsInRange range number = (range.least ≤ number) × (number ≤ range.most)

-- a row has a number under each name, in the range of that name
pub record IsRow (rule : Rule) (names : List (List ℕ)) (row : List ℕ) : Type 0 where
  pub count : length row ≡ length names
  pub range : (k : ℕ) → k < length row → IsInRange (rule.range_of (get_or names k [])) (get_or row k 0)
