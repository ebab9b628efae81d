-- What the colour differences of CIELAB have in common (CIE 15), at every scale n: the chroma, the
-- differences of lightness, chroma and hue, and the root of the terms that a formula makes of them.
-- The standard, with index 1, is given by the values that a formula keeps of it, and the sample q
-- by L, a and b. The definitions fix the order in which each formula is evaluated.
use Rattle.std.specs.Prelude.{ℕ, pos}
use Rattle.interval_specs.specs.Ends.{Ends}
use Rattle.interval_specs.specs.Operations.{cut_low_at, difference_of, square_at, sum_of}
use Rattle.interval_specs.specs.Roots.{sqrt_at}
use Rattle.cielab_bounds.specs.Cielab.{LabEnds}

-- ---- chroma

-- C^2 = a^2 + b^2
unfoldable pub chroma_square : ℕ → Ends → Ends → Ends
chroma_square n a b = sum_of (square_at n a) (square_at n b)

-- C, the square root of C^2
unfoldable pub chroma_at : ℕ → Ends → Ends → Ends
chroma_at n a b = sqrt_at n (chroma_square n a b)

-- ---- the differences

-- dL = L2 - L1
abbrev pub lightness_difference : (l1 : Ends) → LabEnds → Ends
lightness_difference l1 q = difference_of q.l l1

-- dC = C2 - C1
abbrev pub chroma_difference : ℕ → (c1 : Ends) → LabEnds → Ends
chroma_difference n c1 q = difference_of (chroma_at n q.a q.b) c1

-- dH^2 = da^2 + db^2 - dC^2, which is not below 0
unfoldable pub hue_difference_square : ℕ → (a1 b1 dc : Ends) → LabEnds → Ends
hue_difference_square n a1 b1 dc q =
    cut_low_at n (pos 0) (difference_of (chroma_square n (difference_of q.a a1) (difference_of q.b b1)) (square_at n dc))

-- ---- the difference

-- dE, from the term of the lightness, the term of the chroma and the square of the term of the hue
unfoldable pub length_at : ℕ → (lightness chroma hue_square : Ends) → Ends
length_at n lightness chroma hue_square = sqrt_at n (sum_of (sum_of (square_at n lightness) (square_at n chroma)) hue_square)
