-- How a box that is not single is split.
use Rattle.std.specs.Prelude.{◌≡◌, ◌⊎◌, true, false, ◌+◌, ◌-◌, ◌/◌, ◌==◌, ◌&&◌, ℕ, Bool, nat_le, nat_lt, Option, Some, None, List, [], ◌∷◌, length, slice_index, if◌then◌else◌}
use Rattle.std.specs.List.{slice_set}
use Rattle.box_specs.specs.Span.{IsBox, IsWithin, Span, is_single}

-- where a box is split: the index of a dye, and the last number of steps of it in the lower half
pub record CutAt : Type 0 where
  pub dye : ℕ
  pub mid : ℕ

-- the index of the first dye of which a box has recipes with none and recipes with some; the lists
-- begin at the index i
abbrev pub first_optional : ℕ → (low high : List ℕ) → Option ℕ
first_optional i [] high = None
first_optional i (l ∷ low) [] = None
first_optional i (l ∷ low) (h ∷ high) = if (l == 0) && nat_lt 0 h then Some i else first_optional (i + 1) low high

-- the index of the first dye with the widest range: `best` is that so far, with this width, and the
-- lists begin at the index i
abbrev pub widest : (best width i : ℕ) → (low high : List ℕ) → ℕ
widest best width i [] high = best
widest best width i (l ∷ low) [] = best
widest best width i (l ∷ low) (h ∷ high) =
    if nat_lt width (h - l) then widest i (h - l) (i + 1) low high else widest best width (i + 1) low high

-- the middle of the range of a dye, rounded down
abbrev pub middle_of : Span → ℕ → ℕ
middle_of b dye = (slice_index b.lo dye + slice_index b.hi dye) / 2

abbrev pub cut_at : Span → Option ℕ → ℕ → CutAt
cut_at b (Some dye) wide = record { dye = dye; mid = 0 }
cut_at b None wide = record { dye = wide; mid = middle_of b wide }

-- Where a box has recipes with none and recipes with some of a dye, the first such dye is split
-- into none and some. Else the dye with the widest range, the first on a tie, is split in the
-- middle
abbrev pub cut_of : Span → CutAt
cut_of b = cut_at b (first_optional 0 b.lo b.hi) (widest 0 0 0 b.lo b.hi)

-- the recipes of the box up to the cut, and those above it
abbrev pub lower_half : Span → CutAt → Span
lower_half b cut = record { lo = b.lo; hi = slice_set b.hi cut.dye cut.mid }

abbrev pub upper_half : Span → CutAt → Span
upper_half b cut = record { lo = slice_set b.lo cut.dye (cut.mid + 1); hi = b.hi }

-- a box can be split at the cut: the dye exists, and both halves have recipes
abbrev pub is_cut : Span → CutAt → Bool
is_cut b cut = nat_lt cut.dye (length b.lo) && nat_le (slice_index b.lo cut.dye) cut.mid && nat_lt cut.mid (slice_index b.hi cut.dye)

-- each recipe of a box lies in one of its halves, and none in both; and the halves have no other
-- recipes
pub record Partitions (b lower upper : Span) (steps : List ℕ) : Type 0 where
  pub in_one : IsWithin steps b → IsWithin steps lower ⊎ IsWithin steps upper
  pub from_one : IsWithin steps lower ⊎ IsWithin steps upper → IsWithin steps b
  pub not_both : IsWithin steps lower → IsWithin steps upper → ⊥

abbrev pub HalvesPartition : Type 0
HalvesPartition =
    (b : Span) (cut : CutAt) (steps : List ℕ) → IsBox b → is_cut b cut ≡ true → Partitions b (lower_half b cut) (upper_half b cut) steps

-- each box of more than one recipe can be split at the cut that the rule chooses
abbrev pub RuleFits : Type 0
RuleFits = (b : Span) → IsBox b → is_single b ≡ false → is_cut b (cut_of b) ≡ true
