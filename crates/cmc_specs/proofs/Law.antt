-- The laws of the difference and of a standard: a chain of the laws of their values.
use Rattle.std.proofs.Common.{ℕ, zero, suc, pos, ◌*◌, ◌^◌, ◌≤◌, ◌<◌, ◌≤ℤ◌, ◌<ℤ◌, arith}
use Rattle.interval_specs.specs.Ends.{Ends, IsOrdered}
use Rattle.interval_specs.specs.Encloses.{Encloses}
use Rattle.interval_specs.specs.Operations.{fraction_of, quotient_at, square_at}
use Rattle.interval_specs.proofs.Laws.{none_of, quotient_by_nothing_encloses, difference_encloses, fraction_encloses, outer_ordered, quotient_encloses, square_encloses}
use Rattle.interval_specs.proofs.Ranges.{quotient_not_negative, positive}
use Rattle.cielab_bounds.specs.Cielab.{LabEnds}
use Rattle.cielab_bounds.specs.Formula.{KeepsEnclosing}
use Rattle.cielab_bounds.specs.Laws.{EnclosesLab}
use Rattle.interval_specs.specs.Ranges.{AtLeast}
use Rattle.lab_parts.specs.Parts.{chroma_difference, hue_difference_square}
use Rattle.lab_parts.proofs.Law.{chroma_difference_encloses, hue_difference_encloses, hue_difference_not_negative, length_encloses}
use Rattle.cmc_specs.specs.Cmc.{chroma_term, cmc_at, hue_term, kept_difference, lightness_term, StandardEnds, standard_at}
use Rattle.cmc_specs.specs.Laws.{CmcEncloses, EnclosesStandard}
use Rattle.cmc_specs.proofs.LeastValues.{chroma_divisor_at_least, hue_weight_square_at_least, lightness_divisor_at_least}
use Rattle.cmc_specs.proofs.StandardLaw.{standard_weighted, Weighted}
pub use Rattle.cmc_specs.proofs.StandardLaw.{standard_encloses}

-- ---- the three terms

-- a quotient by k tenths of an interval, which is a quotient by 0 where k is 0
weighted_encloses : (n m k : ℕ) (a a' b b' : Ends) → 0 < m → (0 < k → pos 0 <ℤ (fraction_of k 10 b).lo) → Encloses m a a' → Encloses m b b' → Encloses m (quotient_at n a (fraction_of k 10 b)) (quotient_at (m * n) a' (fraction_of k 10 b'))
weighted_encloses n m zero a a' b b' finer low p q = rw (none_of 10 b, none_of 10 b') (quotient_by_nothing_encloses n m a a' finer p)
weighted_encloses n m (suc k) a a' b b' finer low p q = quotient_encloses n m _ _ _ _ finer (low (omega arith)) p (fraction_encloses m (suc k) 10 _ _ q)

lightness_term_encloses : (n m l10 : ℕ) (s s' : StandardEnds) (q q' : LabEnds) → 10 ^ 6 ≤ n → 0 < m → AtLeast 51 100 n s.sl → EnclosesStandard m s s' → EnclosesLab m q q' → Encloses m (lightness_term n l10 s q) (lightness_term (m * n) l10 s' q')
unfolding lightness_term
lightness_term_encloses n m l10 s s' q q' few finer low h k =
    weighted_encloses n m l10 _ _ _ _ finer
    (λ some. positive 509 10000 n (fraction_of l10 10 s.sl) (omega arith) (lightness_divisor_at_least n l10 s.sl few some low))
    (difference_encloses m _ _ _ _ k.l h.l1) h.sl

chroma_term_encloses : (n m c10 : ℕ) (s s' : StandardEnds) (q q' : LabEnds) → 10 ^ 6 ≤ n → 0 < m → AtLeast 637 1000 n s.sc → EnclosesStandard m s s' → EnclosesLab m q q' → Encloses m (chroma_term n c10 s q) (chroma_term (m * n) c10 s' q')
unfolding chroma_term
chroma_term_encloses n m c10 s s' q q' few finer low h k =
    weighted_encloses n m c10 _ _ _ _ finer
    (λ some. positive 636 10000 n (fraction_of c10 10 s.sc) (omega arith) (chroma_divisor_at_least n c10 s.sc few some low))
    (chroma_difference_encloses n m s.c1 s'.c1 q q' (omega arith) finer h.c1 k) h.sc

hue_divisor_positive : (n : ℕ) (sh : Ends) → 10 ^ 6 ≤ n → IsOrdered sh → AtLeast 22 100 n sh → pos 0 <ℤ (square_at n sh).lo
hue_divisor_positive n sh few o low = positive 48 1000 n (square_at n sh) (omega arith) (hue_weight_square_at_least n sh few o low)

-- dH^2
hue_square_encloses : (n m : ℕ) (s s' : StandardEnds) (q q' : LabEnds) → 0 < n → 0 < m → EnclosesStandard m s s' → EnclosesLab m q q'
    → Encloses m (hue_difference_square n s.a1 s.b1 (chroma_difference n s.c1 q) q) (hue_difference_square (m * n) s'.a1 s'.b1 (chroma_difference (m * n) s'.c1 q') q')
hue_square_encloses n m s s' q q' some finer h k = hue_difference_encloses n m _ _ _ _ _ _ q q' some finer h.a1 h.b1 (chroma_difference_encloses n m s.c1 s'.c1 q q' some finer h.c1 k) k

hue_term_encloses : (n m : ℕ) (s s' : StandardEnds) (q q' : LabEnds) → 10 ^ 6 ≤ n → 0 < m → AtLeast 22 100 n s.sh → EnclosesStandard m s s' → EnclosesLab m q q' → Encloses m (hue_term n s q) (hue_term (m * n) s' q')
unfolding hue_term
hue_term_encloses n m s s' q q' few finer low h k =
    let some : 0 < n = omega arith in
    quotient_encloses n m _ _ _ _ finer (hue_divisor_positive n s.sh few (outer_ordered m s.sh s'.sh finer h.sh) low) (hue_square_encloses n m s s' q q' some finer h k) (square_encloses n m _ _ some finer h.sh)

hue_term_not_negative : (n m : ℕ) (s s' : StandardEnds) (q q' : LabEnds) → 10 ^ 6 ≤ n → 0 < m → AtLeast 22 100 n s.sh → EnclosesStandard m s s' → EnclosesLab m q q' → pos 0 ≤ℤ (hue_term n s q).lo
unfolding hue_term
hue_term_not_negative n m s s' q q' few finer low h k =
    let some : 0 < n = omega arith in
    quotient_not_negative n _ (square_at n s.sh)
    (hue_divisor_positive n s.sh few (outer_ordered m s.sh s'.sh finer h.sh) low)
    (outer_ordered m _ _ finer (square_encloses n m s.sh s'.sh some finer h.sh))
    (hue_difference_not_negative n s.a1 s.b1 _ q)
    (outer_ordered m _ _ finer (hue_square_encloses n m s s' q q' some finer h k))

-- ---- the difference

kept_encloses : (n m l10 c10 : ℕ) (s s' : StandardEnds) (q q' : LabEnds) → 10 ^ 6 ≤ n → 0 < m → Weighted n s → EnclosesStandard m s s' → EnclosesLab m q q' → Encloses m (kept_difference n l10 c10 s q) (kept_difference (m * n) l10 c10 s' q')
unfolding kept_difference
kept_encloses n m l10 c10 s s' q q' few finer w h k =
    length_encloses n m _ _ _ _ _ _ (omega arith) finer (hue_term_not_negative n m s s' q q' few finer w.sh h k)
    (lightness_term_encloses n m l10 s s' q q' few finer w.sl h k) (chroma_term_encloses n m c10 s s' q q' few finer w.sc h k) (hue_term_encloses n m s s' q q' few finer w.sh h k)

-- the law for colours of any magnitude and any two weights l and c
pub any_colours_enclose : (l10 c10 : ℕ) → CmcEncloses l10 c10
any_colours_enclose l10 c10 n m p q p' q' few finer h k =
    let w = standard_weighted n p few (outer_ordered m p.a p'.a finer h.a) (outer_ordered m p.b p'.b finer h.b) in
    kept_encloses n m l10 c10 (standard_at n p) (standard_at (m * n) p') q q' few finer w (standard_encloses n m p p' few finer h) k

-- the law that every colour difference must obey
pub cmc_encloses : (l10 c10 : ℕ) → KeepsEnclosing (cmc_at l10 c10)
cmc_encloses l10 c10 n m p q p' q' few finer ip iq ip' iq' h k = any_colours_enclose l10 c10 n m p q p' q' few finer h k
