-- The laws of the parts, and which of their values are not below 0.
use Rattle.std.proofs.Common.{ℕ, pos, ◌*◌, ◌<◌, ◌≤ℤ◌}
use Rattle.interval_specs.specs.Ends.{Ends}
use Rattle.interval_specs.specs.Encloses.{Encloses}
use Rattle.interval_specs.specs.Operations.{square_at}
use Rattle.interval_specs.proofs.Laws.{cut_low_encloses, difference_encloses, square_encloses, sum_encloses, sqrt_encloses}
use Rattle.interval_specs.proofs.Ranges.{cut_low_not_negative, square_not_negative, sum_not_negative, sqrt_not_negative}
use Rattle.cielab_bounds.specs.Cielab.{LabEnds}
use Rattle.lab_parts.specs.Laws.{ChromaDifferenceEncloses, ChromaEncloses, HueDifferenceEncloses, LengthEncloses}
use Rattle.lab_parts.specs.Parts.{chroma_at, chroma_square, hue_difference_square, length_at}

-- ---- chroma

pub chroma_square_not_negative : (n : ℕ) (a b : Ends) → 0 < n → pos 0 ≤ℤ (chroma_square n a b).lo
unfolding chroma_square
chroma_square_not_negative n a b some = sum_not_negative (square_at n a) (square_at n b) (square_not_negative n a some) (square_not_negative n b some)

pub chroma_square_encloses : (n m : ℕ) (a b a' b' : Ends) → 0 < n → 0 < m → Encloses m a a' → Encloses m b b' → Encloses m (chroma_square n a b) (chroma_square (m * n) a' b')
unfolding chroma_square
chroma_square_encloses n m a b a' b' some finer p q = sum_encloses m _ _ _ _ (square_encloses n m a a' some finer p) (square_encloses n m b b' some finer q)

pub chroma_not_negative : (n : ℕ) (a b : Ends) → pos 0 ≤ℤ (chroma_at n a b).lo
unfolding chroma_at
chroma_not_negative n a b = sqrt_not_negative n (chroma_square n a b)

pub chroma_encloses : ChromaEncloses
unfolding chroma_at
chroma_encloses n m a b a' b' some finer p q = sqrt_encloses n m _ _ (chroma_square_not_negative n a b some) (chroma_square_encloses n m a b a' b' some finer p q)

-- ---- the differences

pub chroma_difference_encloses : ChromaDifferenceEncloses
chroma_difference_encloses n m c1 c1' q q' some finer h k = difference_encloses m _ _ _ _ (chroma_encloses n m q.a q.b q'.a q'.b some finer k.a k.b) h

pub hue_difference_encloses : HueDifferenceEncloses
unfolding hue_difference_square
hue_difference_encloses n m a1 b1 dc a1' b1' dc' q q' some finer ha hb hc k =
    let all = chroma_square_encloses n m _ _ _ _ some finer (difference_encloses m _ _ _ _ k.a ha) (difference_encloses m _ _ _ _ k.b hb) in
    cut_low_encloses n m (pos 0) _ _ (difference_encloses m _ _ _ _ all (square_encloses n m dc dc' some finer hc))

pub hue_difference_not_negative : (n : ℕ) (a1 b1 dc : Ends) (q : LabEnds) → pos 0 ≤ℤ (hue_difference_square n a1 b1 dc q).lo
unfolding hue_difference_square
hue_difference_not_negative n a1 b1 dc q = cut_low_not_negative n 0 _

-- ---- the difference

pub length_encloses : LengthEncloses
unfolding length_at
length_encloses n m x y z x' y' z' some finer above p q r =
    let squares = sum_not_negative _ _ (square_not_negative n x some) (square_not_negative n y some) in
    sqrt_encloses n m _ _ (sum_not_negative _ _ squares above)
    (sum_encloses m _ _ _ _ (sum_encloses m _ _ _ _ (square_encloses n m x x' some finer p) (square_encloses n m y y' some finer q)) r)
