-- The lines of a tree and of the listed recipes, as they are read. Each has one spelling.
use Rattle.std.specs.Prelude.{◌==◌, ℕ, Bool, zero, suc, if◌then◌else◌, List, [], ◌∷◌, Option, Some, None, option_map, option_and_then}
use Rattle.box_specs.specs.declared.certificate.CertLine.{CertLine}
use Rattle.box_specs.specs.declared.certificate.CertLine.TheVariants.{Dear, Fail, Limit, Pass, Split, Undecided}
use Rattle.box_cert.specs.Numbers.{number_of}

abbrev pub is_mark : ℕ → ℕ → Bool
is_mark mark b = b == mark

-- the bytes before the first byte `mark`, and those after it; none where there is no such byte
abbrev pub cut_at : ℕ → List ℕ → Option (List ℕ × List ℕ)
cut_at mark [] = None
cut_at mark (b ∷ bs) = if b == mark then Some ([], bs) else option_map (λ r. (b ∷ r.0, r.1)) (cut_at mark bs)

-- a number before other numbers, if there are both
abbrev pub number_before : Option ℕ → Option (List ℕ) → Option (List ℕ)
number_before None more = None
number_before (Some n) more = option_map (λ ns. n ∷ ns) more

-- k + 1 numbers of up to 4,000, with one space between
abbrev pub numbers_at : ℕ → List ℕ → Option (List ℕ)
numbers_at zero text = option_map (λ n. n ∷ []) (number_of 0 4000 text)
numbers_at (suc k) text = option_and_then (λ r. number_before (number_of 0 4000 r.0) (numbers_at k r.1)) (cut_at 32 text)

-- a recipe of dims dyes
abbrev pub recipe_of : ℕ → List ℕ → Option (List ℕ)
recipe_of zero line = None
recipe_of (suc k) line = numbers_at k line

-- a dye from 1 to 12, and the most steps of it in the lower half
abbrev pub split_of : List ℕ → Option CertLine
split_of text = option_and_then (λ r. option_and_then (λ dye. option_map (λ mid. Split dye mid) (number_of 0 4000 r.1)) (number_of 1 12 r.0)) (cut_at 32 text)

-- a line of a letter, a space and a text
abbrev pub lettered_line : ℕ → List ℕ → Option CertLine
lettered_line letter text =
    if letter == 115 then split_of text
    else (if letter == 120 then option_map (λ k. Limit k) (number_of 1 5 text)
    else (if letter == 102 then option_map (λ j. Fail j) (number_of 1 4 text) else None))

-- a line of one letter
abbrev pub letter_of : ℕ → Option CertLine
letter_of letter =
    if letter == 100 then Some Dear
    else (if letter == 117 then Some Undecided
    else (if letter == 112 then Some Pass else None))

-- the line of a tree that a text spells
abbrev pub line_of : List ℕ → Option CertLine
line_of [] = None
line_of (letter ∷ []) = letter_of letter
line_of (letter ∷ (space ∷ text)) = if space == 32 then lettered_line letter text else None
