-- Texts that are read line by line up to their first fault: lines, listed recipes and trees.
use Rattle.std.specs.Prelude.{◌≡◌, ◌==◌, ◌+◌, ◌≤◌, ◌++◌, ℕ, zero, suc, true, All, if◌then◌else◌, List, [], ◌∷◌, length, Option, Some, None, Result, Ok, Err}
use Rattle.box_specs.specs.declared.certificate.CertFault.{CertFault}
use Rattle.box_specs.specs.declared.certificate.CertLine.{CertLine}
use Rattle.box_specs.specs.declared.certificate.CertLine.TheVariants.{Dear, Fail, Limit, Pass, Split, Undecided}
use Rattle.box_specs.specs.declared.certificate.CertRule.{CertRule}
use Rattle.box_specs.specs.declared.certificate.CertRule.TheVariants.{BadLine, Left, Missing}
use Rattle.box_core.specs.Ranges.{LineFits, StepsFit}
use Rattle.box_specs.specs.Validity.{are_trees}
use Rattle.box_cert.specs.declared.fault.CertError.{CertError}
use Rattle.box_cert.specs.declared.fault.CertError.TheVariants as errors
use Rattle.box_cert.specs.Lines.{line_of, recipe_of}

-- a call that failed agrees with what the definition reads: the same fault, or memory ran out
abbrev pub FailsAs : {Y : Type 0} → CertError → Result Y CertFault → Type 0
FailsAs errors.Memory read = Unit {0}
FailsAs (errors.Fault f) read = read ≡ Err f

-- the result of a call, mapped by view, is what the definition reads, unless memory ran out
abbrev pub Gives : {X Y : Type 0} → (X → Y) → Result X CertError → Result Y CertFault → Type 0
Gives view (Ok x) read = read ≡ Ok (view x)
Gives view (Err e) read = FailsAs e read

infixl 10 ◌>>=◌
abbrev pub ◌>>=◌ : {A B : Type 0} → Result A CertFault → (A → Result B CertFault) → Result B CertFault
(Ok x) >>= f = f x
(Err e) >>= f = Err e

-- the rest of a text while it is read: the number of the next line, the lines to come, and the
-- bytes after the last line feed
pub record Cursor : Type 0 where
  pub number : ℕ
  pub lines : List (List ℕ)
  pub left : List ℕ

-- a text in lines, with one more byte before it
abbrev pub byte_first : ℕ → List (List ℕ) × List ℕ → List (List ℕ) × List ℕ
byte_first b ([], left) = ([], b ∷ left)
byte_first b ((line ∷ lines), left) = ((b ∷ line) ∷ lines, left)

-- the lines of a text that end with a line feed, and the bytes after the last of them
abbrev pub lines_of : List ℕ → List (List ℕ) × List ℕ
lines_of [] = ([], [])
lines_of (b ∷ bs) = if b == 10 then ([] ∷ (lines_of bs).0, (lines_of bs).1) else byte_first b (lines_of bs)

abbrev pub cursor_of : ℕ → List ℕ → Cursor
cursor_of number text = record { number = number; lines = (lines_of text).0; left = (lines_of text).1 }

abbrev pub fault : {A : Type 0} → ℕ → CertRule → Result A CertFault
fault line rule = Err (record { line = line; rule = rule })

-- the next line
abbrev pub line_from : ℕ → List (List ℕ) → List ℕ → Result (List ℕ × Cursor) CertFault
line_from number [] left = fault number Missing
line_from number (line ∷ lines) left = Ok (line, record { number = number + 1; lines = lines; left = left })

abbrev pub next_line : Cursor → Result (List ℕ × Cursor) CertFault
next_line p = line_from p.number p.lines p.left

-- the value that was read from a line, or the fault of the rule that it breaks
abbrev pub line_result : {A : Type 0} → ℕ → CertRule → Option A → Cursor → Result (A × Cursor) CertFault
line_result number rule None next = fault number rule
line_result number rule (Some x) next = Ok (x, next)

abbrev pub next_of : {A : Type 0} → CertRule → (List ℕ → Option A) → Cursor → Result (A × Cursor) CertFault
next_of rule kind p = next_line p >>= λ r. line_result p.number rule (kind r.0) r.1

-- the given number of recipes of dims dyes
abbrev pub recipes_at : ℕ → ℕ → Cursor → Result (List (List ℕ) × Cursor) CertFault
recipes_at dims zero p = Ok ([], p)
recipes_at dims (suc k) p = next_of BadLine (recipe_of dims) p >>= λ r. recipes_at dims k r.1 >>= λ rs. Ok (r.0 ∷ rs.0, rs.1)

-- count recipes, each of dims dyes
pub record AreRecipes (dims count : ℕ) (listed : List (List ℕ)) : Type 0 where
  pub many : length listed ≡ count
  pub each : All (λ steps. length steps ≡ dims) listed
  pub fits : All StepsFit listed

-- the lines of one tree, each in its ranges
pub record IsTree (lines : List CertLine) : Type 0 where
  pub whole : are_trees 1 lines ≡ true
  pub short : length lines ≤ 32000000
  pub fits : All LineFits lines

-- how many subtrees follow a line
abbrev pub parts_of : CertLine → ℕ
parts_of (Split dye mid) = 2
parts_of (Limit k) = 0
parts_of (Fail j) = 0
parts_of Dear = 0
parts_of Undecided = 0
parts_of Pass = 0

abbrev pub line_then : ℕ → Option CertLine → (CertLine → Result (List CertLine × Cursor) CertFault) → Result (List CertLine × Cursor) CertFault
line_then number None rest = fault number BadLine
line_then number (Some line) rest = rest line >>= λ r. Ok (line ∷ r.0, r.1)

-- the given number of trees, one after the other
abbrev pub trees_from : ℕ → ℕ → List (List ℕ) → List ℕ → Result (List CertLine × Cursor) CertFault
trees_from zero number lines left = Ok ([], record { number = number; lines = lines; left = left })
trees_from (suc k) number [] left = fault number Missing
trees_from (suc k) number (text ∷ lines) left = line_then number (line_of text) (λ line. trees_from (parts_of line + k) (number + 1) lines left)

abbrev pub trees_at : ℕ → Cursor → Result (List CertLine × Cursor) CertFault
trees_at trees p = trees_from trees p.number p.lines p.left

-- nothing follows the tree
abbrev pub nothing_left : {A : Type 0} → A → ℕ → List (List ℕ) → List ℕ → Result A CertFault
nothing_left c number [] [] = Ok c
nothing_left c number [] (b ∷ bs) = fault number Left
nothing_left c number (line ∷ lines) left = fault number Left

-- what was read of a list, before the rest of it
abbrev pub with_prefix : {A : Type 0} → List A → Result (List A × Cursor) CertFault → Result (List A × Cursor) CertFault
with_prefix prefix read = read >>= λ r. Ok (prefix ++ r.0, r.1)
