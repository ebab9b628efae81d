-- The laws of the parts: each encloses that of narrower inputs where the scale grows from n to
-- m * n. The inputs may be of any magnitude.
use Rattle.std.specs.Prelude.{ℕ, pos, ◌*◌, ◌<◌, ◌≤ℤ◌}
use Rattle.interval_specs.specs.Ends.{Ends}
use Rattle.interval_specs.specs.Encloses.{Encloses}
use Rattle.cielab_bounds.specs.Cielab.{LabEnds}
use Rattle.cielab_bounds.specs.Laws.{EnclosesLab}
use Rattle.lab_parts.specs.Parts.{chroma_at, chroma_difference, hue_difference_square, length_at}

-- of the chroma
abbrev pub ChromaEncloses : Type 0
ChromaEncloses = (n m : ℕ) (a b a' b' : Ends) → 0 < n → 0 < m → Encloses m a a' → Encloses m b b' → Encloses m (chroma_at n a b) (chroma_at (m * n) a' b')

-- of the difference of chroma
abbrev pub ChromaDifferenceEncloses : Type 0
ChromaDifferenceEncloses =
    (n m : ℕ) (c1 c1' : Ends) (q q' : LabEnds) → 0 < n → 0 < m → Encloses m c1 c1' → EnclosesLab m q q'
    → Encloses m (chroma_difference n c1 q) (chroma_difference (m * n) c1' q')

-- of the square of the difference of hue, from those of chroma
abbrev pub HueDifferenceEncloses : Type 0
HueDifferenceEncloses =
    (n m : ℕ) (a1 b1 dc a1' b1' dc' : Ends) (q q' : LabEnds) → 0 < n → 0 < m → Encloses m a1 a1' → Encloses m b1 b1' → Encloses m dc dc' → EnclosesLab m q q'
    → Encloses m (hue_difference_square n a1 b1 dc q) (hue_difference_square (m * n) a1' b1' dc' q')

-- of the root of the terms
abbrev pub LengthEncloses : Type 0
LengthEncloses =
    (n m : ℕ) (x y z x' y' z' : Ends) → 0 < n → 0 < m → pos 0 ≤ℤ z.lo → Encloses m x x' → Encloses m y y' → Encloses m z z'
    → Encloses m (length_at n x y z) (length_at (m * n) x' y' z')
