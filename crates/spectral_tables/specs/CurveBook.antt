-- Curves by name.
use Rattle.std.specs.Prelude.{◌≡◌, ◌≤◌, ◌∷◌, ℕ, List, [], All, Option, length, map}
use Rattle.std.specs.List.{IsDistinct}
use Rattle.std.specs.Map.{keys_of, lookup}
use Rattle.std.specs.Str.{bytes_eq}
use Rattle.std.specs.Global.{Vec}
use Rattle.spectral_tables.specs.Curve.{IsCurve}

-- names and the reflectances under each, in the order of the columns
abbrev pub Book : Type 0
Book = List (List ℕ × List ℕ)

-- the curve under a name, if there is one
abbrev pub curve_named : List ℕ → Book → Option (List ℕ)
curve_named name book = lookup (bytes_eq name) book

-- how many wavelengths each curve has
abbrev pub wave_count : Book → ℕ
wave_count [] = 0
wave_count (first ∷ _) = length first.1

-- the invariant of a book of curves
pub record IsBook (book : Book) : Type 0 where
  pub some : 1 ≤ length book
  pub distinct : IsDistinct bytes_eq (keys_of book)
  pub curves : All (λ e. IsCurve e.1) book
  pub equal : All (λ e. length e.1 ≡ wave_count book) book

-- the book of a list with owned names
abbrev pub book_of : List (Vec ℕ × List ℕ) → Book
book_of entries = map (λ e. (e.0.items, e.1)) entries
