-- The values of a standard together, and the difference from its terms, over plain intervals.
use Rattle.std.proofs.Common.{ℕ, ◌≡◌, ◌∙◌, ap}
use Rattle.interval_specs.specs.Ends.{Ends}
use Rattle.interval_specs.specs.Operations.{quotient_at, square_at}
use Rattle.cielab_bounds.specs.Cielab.{LabEnds}
use Rattle.lab_parts.specs.Parts.{chroma_at, chroma_difference, hue_difference_square, length_at, lightness_difference}
use Rattle.delta_specs.specs.Cie94.{Application, Standard94Ends, chroma_term, hue_term, kept_difference, lightness_term, standard_at, weight_at}

abbrev pub standard_of : (l1 a1 b1 c1 sc sh sh_square : Ends) → Standard94Ends
standard_of l1 a1 b1 c1 sc sh sh_square = record { l1 = l1; a1 = a1; b1 = b1; c1 = c1; sc = sc; sh = sh; sh_square = sh_square }

pub standard_is : (x : Application) (n k1 k2 : ℕ) (p : LabEnds) (c sc sh sq : Ends) → k1 ≡ x.k1 → k2 ≡ x.k2 → c ≡ chroma_at n p.a p.b → sc ≡ weight_at n k1 c → sh ≡ weight_at n k2 c → sq ≡ square_at n sh → standard_of p.l p.a p.b c sc sh sq ≡ standard_at x n p
unfolding standard_at
standard_is x n k1 k2 p c sc sh sq e1 e2 ce se he qe =
    let sc' : sc ≡ weight_at n x.k1 (chroma_at n p.a p.b) = se ∙ (λ i. weight_at n (e1 i) (ce i)) in
    let sh' : sh ≡ weight_at n x.k2 (chroma_at n p.a p.b) = he ∙ (λ i. weight_at n (e2 i) (ce i)) in
    let sq' : sq ≡ square_at n (weight_at n x.k2 (chroma_at n p.a p.b)) = qe ∙ ap (λ t. square_at n t) sh' in
    λ i. standard_of p.l p.a p.b (ce i) (sc' i) (sh' i) (sq' i)

pub kept_is : (a : Application) (n : ℕ) (s : Standard94Ends) (q : LabEnds) (l d h x y z r : Ends) → l ≡ lightness_difference s.l1 q → d ≡ chroma_difference n s.c1 q → h ≡ hue_difference_square n s.a1 s.b1 d q → x ≡ lightness_term a.halved l → y ≡ quotient_at n d s.sc → z ≡ quotient_at n h s.sh_square → r ≡ length_at n x y z → r ≡ kept_difference a n s q
unfolding kept_difference chroma_term hue_term
kept_is a n s q l d h x y z r le de he xe ye ze re =
    let x' : x ≡ lightness_term a.halved (lightness_difference s.l1 q) = xe ∙ ap (λ t. lightness_term a.halved t) le in
    let y' : y ≡ chroma_term n s q = ye ∙ ap (λ t. quotient_at n t s.sc) de in
    let h' : h ≡ hue_difference_square n s.a1 s.b1 (chroma_difference n s.c1 q) q = he ∙ ap (λ t. hue_difference_square n s.a1 s.b1 t q) de in
    let z' : z ≡ hue_term n s q = ze ∙ ap (λ t. quotient_at n t s.sh_square) h' in
    re ∙ (λ i. length_at n (x' i) (y' i) (z' i))
