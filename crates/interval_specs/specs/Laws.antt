-- The laws of the operations: each keeps enclosing where the scale grows from n to m * n and its
-- inputs narrow. The inputs are plain ends, and n and m any numbers, but for what a law asks of
-- them.
use Rattle.std.specs.Prelude.{ℕ, ℤ, pos, ◌*◌, ◌<◌, ◌<ℤ◌, ◌≤ℤ◌}
use Rattle.interval_specs.specs.Ends.{Ends}
use Rattle.interval_specs.specs.Encloses.{Encloses}
use Rattle.interval_specs.specs.Roots.{sqrt_at, cbrt_at}
use Rattle.interval_specs.specs.Operations.{ratio_at, sum_of, difference_of, product_at, quotient_at, square_at, multiple_of, fraction_of, absolute_of, cut_low_at, cut_high_at, hull_of}

-- of a ratio by any divisor; by 0 its ends depend only on the sign of p
abbrev pub RatioEncloses : Type 0
RatioEncloses = (n m : ℕ) (p : ℤ) (q : ℕ) → Encloses m (ratio_at n p q) (ratio_at (m * n) p q)

-- of a sum
abbrev pub SumEncloses : Type 0
SumEncloses = (m : ℕ) (a b a' b' : Ends) → Encloses m a a' → Encloses m b b' → Encloses m (sum_of a b) (sum_of a' b')

-- of a difference
abbrev pub DifferenceEncloses : Type 0
DifferenceEncloses = (m : ℕ) (a b a' b' : Ends) → Encloses m a a' → Encloses m b b' → Encloses m (difference_of a b) (difference_of a' b')

-- of a product
abbrev pub ProductEncloses : Type 0
ProductEncloses = (n m : ℕ) (a b a' b' : Ends) → 0 < n → 0 < m → Encloses m a a' → Encloses m b b' → Encloses m (product_at n a b) (product_at (m * n) a' b')

-- of a quotient by an interval above 0
abbrev pub QuotientEncloses : Type 0
QuotientEncloses =
    (n m : ℕ) (a b a' b' : Ends) → 0 < m → pos 0 <ℤ b.lo → Encloses m a a' → Encloses m b b' → Encloses m (quotient_at n a b) (quotient_at (m * n) a' b')

-- of a square
abbrev pub SquareEncloses : Type 0
SquareEncloses = (n m : ℕ) (a a' : Ends) → 0 < n → 0 < m → Encloses m a a' → Encloses m (square_at n a) (square_at (m * n) a')

-- of a whole multiple
abbrev pub MultipleEncloses : Type 0
MultipleEncloses = (m : ℕ) (k : ℤ) (a a' : Ends) → Encloses m a a' → Encloses m (multiple_of k a) (multiple_of k a')

-- of the multiple by num / den, for any den, 0 included
abbrev pub FractionEncloses : Type 0
FractionEncloses = (m num den : ℕ) (a a' : Ends) → Encloses m a a' → Encloses m (fraction_of num den a) (fraction_of num den a')

-- of the absolute value
abbrev pub AbsoluteEncloses : Type 0
AbsoluteEncloses = (m : ℕ) (a a' : Ends) → 0 < m → Encloses m a a' → Encloses m (absolute_of a) (absolute_of a')

-- of a cut from below, that is, of raising an interval to a lower limit
abbrev pub CutLowEncloses : Type 0
CutLowEncloses = (n m : ℕ) (k : ℤ) (a a' : Ends) → Encloses m a a' → Encloses m (cut_low_at n k a) (cut_low_at (m * n) k a')

-- of a cut from above, that is, of lowering an interval to an upper limit
abbrev pub CutHighEncloses : Type 0
CutHighEncloses = (n m : ℕ) (k : ℤ) (a a' : Ends) → Encloses m a a' → Encloses m (cut_high_at n k a) (cut_high_at (m * n) k a')

-- of the hull of two intervals
abbrev pub HullEncloses : Type 0
HullEncloses = (m : ℕ) (a b a' b' : Ends) → Encloses m a a' → Encloses m b b' → Encloses m (hull_of a b) (hull_of a' b')

-- of a square root of an interval that is not below 0
abbrev pub SqrtEncloses : Type 0
SqrtEncloses = (n m : ℕ) (a a' : Ends) → pos 0 ≤ℤ a.lo → Encloses m a a' → Encloses m (sqrt_at n a) (sqrt_at (m * n) a')

-- of a cube root of an interval that is not below 0
abbrev pub CbrtEncloses : Type 0
CbrtEncloses = (n m : ℕ) (a a' : Ends) → pos 0 ≤ℤ a.lo → Encloses m a a' → Encloses m (cbrt_at n a) (cbrt_at (m * n) a')
