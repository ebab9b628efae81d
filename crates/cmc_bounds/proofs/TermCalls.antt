-- The values of a standard together, and the difference from its terms, over plain intervals.
use Rattle.std.proofs.Common.{ℕ, ◌≡◌, ◌∙◌, ap}
use Rattle.interval_specs.specs.Ends.{Ends}
use Rattle.interval_specs.specs.Operations.{fraction_of, quotient_at, square_at}
use Rattle.cielab_bounds.specs.Cielab.{LabEnds}
use Rattle.lab_parts.specs.Parts.{chroma_at, chroma_difference, chroma_square, hue_difference_square, length_at, lightness_difference}
use Rattle.cmc_specs.specs.Cmc.{chroma_term, chroma_weight, hue_factor, hue_share, hue_term, hue_weight, kept_difference, lightness_term, lightness_weight, standard_at, StandardEnds}

abbrev pub standard_ends : (l1 a1 b1 c1 sl sc sh : Ends) → StandardEnds
standard_ends l1 a1 b1 c1 sl sc sh = record { l1 = l1; a1 = a1; b1 = b1; c1 = c1; sl = sl; sc = sc; sh = sh }

pub standard_is : (n : ℕ) (p : LabEnds) (q c sl sc f t sh : Ends) → q ≡ chroma_square n p.a p.b → c ≡ chroma_at n p.a p.b → sl ≡ lightness_weight n p.l → sc ≡ chroma_weight n c → f ≡ hue_share n q → t ≡ hue_factor n p.a p.b c → sh ≡ hue_weight n sc f t → standard_ends p.l p.a p.b c sl sc sh ≡ standard_at n p
unfolding standard_at
standard_is n p q c sl sc f t sh qe ce le se fe te he =
    let sc' : sc ≡ chroma_weight n (chroma_at n p.a p.b) = se ∙ ap (λ x. chroma_weight n x) ce in
    let f' : f ≡ hue_share n (chroma_square n p.a p.b) = fe ∙ ap (λ x. hue_share n x) qe in
    let t' : t ≡ hue_factor n p.a p.b (chroma_at n p.a p.b) = te ∙ ap (λ x. hue_factor n p.a p.b x) ce in
    let sh' : sh ≡ hue_weight n (chroma_weight n (chroma_at n p.a p.b)) (hue_share n (chroma_square n p.a p.b)) (hue_factor n p.a p.b (chroma_at n p.a p.b)) = he ∙ (λ i. hue_weight n (sc' i) (f' i) (t' i)) in
    λ i. standard_ends p.l p.a p.b (ce i) (le i) (sc' i) (sh' i)

pub kept_is : (n l10 c10 : ℕ) (s : StandardEnds) (q : LabEnds) (l d h x y z r : Ends) → l ≡ lightness_difference s.l1 q → d ≡ chroma_difference n s.c1 q → h ≡ hue_difference_square n s.a1 s.b1 d q → x ≡ quotient_at n l (fraction_of l10 10 s.sl) → y ≡ quotient_at n d (fraction_of c10 10 s.sc) → z ≡ quotient_at n h (square_at n s.sh) → r ≡ length_at n x y z → r ≡ kept_difference n l10 c10 s q
unfolding kept_difference lightness_term chroma_term hue_term
kept_is n l10 c10 s q l d h x y z r le de he xe ye ze re =
    let x' : x ≡ lightness_term n l10 s q = xe ∙ ap (λ t. quotient_at n t (fraction_of l10 10 s.sl)) le in
    let y' : y ≡ chroma_term n c10 s q = ye ∙ ap (λ t. quotient_at n t (fraction_of c10 10 s.sc)) de in
    let h' : h ≡ hue_difference_square n s.a1 s.b1 (chroma_difference n s.c1 q) q = he ∙ ap (λ t. hue_difference_square n s.a1 s.b1 t q) de in
    let z' : z ≡ hue_term n s q = ze ∙ ap (λ t. quotient_at n t (square_at n s.sh)) h' in
    re ∙ (λ i. length_at n (x' i) (y' i) (z' i))
