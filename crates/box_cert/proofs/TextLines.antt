-- The lines of a text.
use Rattle.std.proofs.Common.{◌≡◌, ◌==◌, ℕ, Bool, true, false, List, [], ◌∷◌, refl, ap, ◌∙◌, if◌then◌else◌}
use Rattle.std.specs.Prelude.{Option, Some, None, option_map}
use Rattle.box_cert.specs.Lines.{cut_at}
use Rattle.box_cert.specs.Reading.{byte_first, lines_of}
use Rattle.box_cert.proofs.Cuts.{onto}

abbrev pub split_at : List ℕ → Option (List ℕ × List ℕ) → List (List ℕ) × List ℕ
split_at text None = ([], text)
split_at text (Some r) = (r.0 ∷ (lines_of r.1).0, (lines_of r.1).1)

later : (b : ℕ) (bs : List ℕ) (o : Option (List ℕ × List ℕ)) → byte_first b (split_at bs o) ≡ split_at (b ∷ bs) (option_map (onto b) o)
later b bs None = refl
later b bs (Some r) = refl

-- the first line is what comes before the first line feed
pub lines_cut : (text : List ℕ) → lines_of text ≡ split_at text (cut_at 10 text)
lines_cut [] = refl
lines_cut (b ∷ bs) = go (b == 10) (lines_cut bs) where
  go : (q : Bool) → lines_of bs ≡ split_at bs (cut_at 10 bs)
      → (if q then ([] ∷ (lines_of bs).0, (lines_of bs).1) else byte_first b (lines_of bs)) ≡ split_at (b ∷ bs) (if q then Some ([], bs) else option_map (onto b) (cut_at 10 bs))
  go true h = refl
  go false h = ap (byte_first b) h ∙ later b bs (cut_at 10 bs)

-- the lines after the first are those of the text after it
pub line_first : (text line tail : List ℕ) → cut_at 10 text ≡ Some (line, tail) → lines_of text ≡ (line ∷ (lines_of tail).0, (lines_of tail).1)
line_first text line tail e = lines_cut text ∙ ap (split_at text) e

pub no_line : (text : List ℕ) → cut_at 10 text ≡ None → lines_of text ≡ ([], text)
no_line text e = lines_cut text ∙ ap (split_at text) e
