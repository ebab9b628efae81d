-- The laws of CIE94, and that of either formula.
use Rattle.std.proofs.Common.{ℕ, pos, Bool, true, false, ◌*◌, ◌^◌, ◌≤◌, ◌<◌, ◌≤ℤ◌, arith}
use Rattle.interval_specs.specs.Ends.{Ends}
use Rattle.interval_specs.specs.Encloses.{Encloses}
use Rattle.interval_specs.specs.Ranges.{AtLeast}
use Rattle.interval_specs.proofs.Laws.{difference_encloses, fraction_encloses, one_encloses, outer_ordered, quotient_encloses, square_encloses, sum_encloses}
use Rattle.interval_specs.proofs.Ranges.{positive, quotient_not_negative}
use Rattle.cielab_bounds.specs.Cielab.{LabEnds}
use Rattle.cielab_bounds.specs.Formula.{KeepsEnclosing}
use Rattle.cielab_bounds.specs.Laws.{EnclosesLab}
use Rattle.lab_parts.specs.Parts.{chroma_difference, hue_difference_square}
use Rattle.lab_parts.proofs.Law.{chroma_difference_encloses, chroma_encloses, chroma_not_negative, hue_difference_encloses, hue_difference_not_negative, length_encloses}
use Rattle.cmc_specs.proofs.Law.{cmc_encloses}
use Rattle.delta_specs.specs.Cie94.{Application, Standard94Ends, chroma_term, cie94_at, hue_term, kept_difference, lightness_term, standard_at, weight_at}
use Rattle.delta_specs.specs.DeltaFormula.{DeltaFormula, by_cie94, by_cmc, delta_at}
use Rattle.delta_specs.specs.Laws.{Cie94Encloses, EnclosesStandard94, Standard94Encloses}
use Rattle.delta_specs.proofs.Ranges.{weight_at_least, weight_square_at_least}

-- ---- the standard

weight_encloses : (n m k : ℕ) (c c' : Ends) → Encloses m c c' → Encloses m (weight_at n k c) (weight_at (m * n) k c')
unfolding weight_at
weight_encloses n m k c c' h = sum_encloses m _ _ _ _ (one_encloses n m) (fraction_encloses m k 1000 c c' h)

pub standard_encloses : (x : Application) → Standard94Encloses x
unfolding standard_at
standard_encloses x n m p p' some finer h =
    let c = chroma_encloses n m p.a p.b p'.a p'.b some finer h.a h.b in
    let sh = weight_encloses n m x.k2 _ _ c in
    record { l1 = h.l; a1 = h.a; b1 = h.b; c1 = c; sc = weight_encloses n m x.k1 _ _ c; sh = sh; sh_square = square_encloses n m _ _ some finer sh }

-- lower bounds of the divisors S_C and S_H^2
record Weighted (n : ℕ) (s : Standard94Ends) : Type 0 where
  sc : AtLeast 1 1 n s.sc
  sh_square : AtLeast 1 2 n s.sh_square

standard_weighted : (x : Application) (n m : ℕ) (p : LabEnds) (s' : Standard94Ends) → 10 ^ 6 ≤ n → 0 < m → EnclosesStandard94 m (standard_at x n p) s' → Weighted n (standard_at x n p)
unfolding standard_at
standard_weighted x n m p s' large finer h =
    let z = chroma_not_negative n p.a p.b in
    record { sc = weight_at_least n x.k1 _ z; sh_square = weight_square_at_least n _ large (outer_ordered m _ _ finer h.sh) (weight_at_least n x.k2 _ z) }

-- ---- the terms

lightness_term_encloses : (m : ℕ) (halved : Bool) (d d' : Ends) → Encloses m d d' → Encloses m (lightness_term halved d) (lightness_term halved d')
unfolding lightness_term
lightness_term_encloses m true d d' h = fraction_encloses m 1 2 d d' h
lightness_term_encloses m false d d' h = h

chroma_term_encloses : (n m : ℕ) (s s' : Standard94Ends) (q q' : LabEnds) → 0 < n → 0 < m → AtLeast 1 1 n s.sc → EnclosesStandard94 m s s' → EnclosesLab m q q' → Encloses m (chroma_term n s q) (chroma_term (m * n) s' q')
unfolding chroma_term
chroma_term_encloses n m s s' q q' some finer low h k =
    quotient_encloses n m _ _ _ _ finer (positive 1 1 n s.sc (omega arith) low) (chroma_difference_encloses n m s.c1 s'.c1 q q' some finer h.c1 k) h.sc

-- dH^2
hue_square_encloses : (n m : ℕ) (s s' : Standard94Ends) (q q' : LabEnds) → 0 < n → 0 < m → EnclosesStandard94 m s s' → EnclosesLab m q q'
    → Encloses m (hue_difference_square n s.a1 s.b1 (chroma_difference n s.c1 q) q) (hue_difference_square (m * n) s'.a1 s'.b1 (chroma_difference (m * n) s'.c1 q') q')
hue_square_encloses n m s s' q q' some finer h k = hue_difference_encloses n m _ _ _ _ _ _ q q' some finer h.a1 h.b1 (chroma_difference_encloses n m s.c1 s'.c1 q q' some finer h.c1 k) k

hue_term_encloses : (n m : ℕ) (s s' : Standard94Ends) (q q' : LabEnds) → 0 < n → 0 < m → AtLeast 1 2 n s.sh_square → EnclosesStandard94 m s s' → EnclosesLab m q q' → Encloses m (hue_term n s q) (hue_term (m * n) s' q')
unfolding hue_term
hue_term_encloses n m s s' q q' some finer low h k =
    quotient_encloses n m _ _ _ _ finer (positive 1 2 n s.sh_square (omega arith) low) (hue_square_encloses n m s s' q q' some finer h k) h.sh_square

hue_term_not_negative : (n m : ℕ) (s s' : Standard94Ends) (q q' : LabEnds) → 0 < n → 0 < m → AtLeast 1 2 n s.sh_square → EnclosesStandard94 m s s' → EnclosesLab m q q' → pos 0 ≤ℤ (hue_term n s q).lo
unfolding hue_term
hue_term_not_negative n m s s' q q' some finer low h k =
    quotient_not_negative n _ s.sh_square (positive 1 2 n s.sh_square (omega arith) low) (outer_ordered m _ _ finer h.sh_square)
    (hue_difference_not_negative n s.a1 s.b1 _ q) (outer_ordered m _ _ finer (hue_square_encloses n m s s' q q' some finer h k))

-- ---- the difference

kept_encloses : (x : Application) (n m : ℕ) (s s' : Standard94Ends) (q q' : LabEnds) → 0 < n → 0 < m → Weighted n s → EnclosesStandard94 m s s' → EnclosesLab m q q' → Encloses m (kept_difference x n s q) (kept_difference x (m * n) s' q')
unfolding kept_difference
kept_encloses x n m s s' q q' some finer w h k =
    length_encloses n m _ _ _ _ _ _ some finer (hue_term_not_negative n m s s' q q' some finer w.sh_square h k)
    (lightness_term_encloses m x.halved _ _ (difference_encloses m _ _ _ _ k.l h.l1)) (chroma_term_encloses n m s s' q q' some finer w.sc h k) (hue_term_encloses n m s s' q q' some finer w.sh_square h k)

-- the law for colours of any magnitude and any constants
pub any_colours_enclose : (x : Application) → Cie94Encloses x
any_colours_enclose x n m p q p' q' large finer h k =
    let some : 0 < n = omega arith in
    let s = standard_encloses x n m p p' some finer h in
    kept_encloses x n m (standard_at x n p) (standard_at x (m * n) p') q q' some finer (standard_weighted x n m p (standard_at x (m * n) p') large finer s) s k

-- the law that every colour difference must obey
pub cie94_encloses : (x : Application) → KeepsEnclosing (cie94_at x)
cie94_encloses x n m p q p' q' large finer ip iq ip' iq' h k = any_colours_enclose x n m p q p' q' large finer h k

pub delta_encloses : (formula : DeltaFormula) → KeepsEnclosing (delta_at formula)
delta_encloses (by_cmc l10 c10) = cmc_encloses l10 c10
delta_encloses (by_cie94 x) = cie94_encloses x
