-- The halves of a box.
use Rattle.std.proofs.Common.{◌≡◌, ◌+◌, ℕ, suc, true, false, add-one, sym, subst, ◌∙◌, arith}
use Rattle.std.proofs.lemmas.List.{length-set}
use Rattle.box_specs.specs.Span.{HasDyes, IsBox, Span, is_single}
use Rattle.box_specs.specs.Splits.{CutAt, cut_of, is_cut, lower_half, upper_half}
use Rattle.box_specs.specs.Validity.{splits}
use Rattle.box_specs.proofs.Cuts.{cut_fits, cuts, is_cut_from, lower_is_box, upper_is_box}

pub lower_keeps : (b : Span) (cut : CutAt) → IsBox b × HasDyes b → is_cut b cut ≡ true → IsBox (lower_half b cut) × HasDyes (lower_half b cut)
lower_keeps b cut h e = (lower_is_box b cut h.0 (cuts b cut e), h.1)

pub upper_keeps : (b : Span) (cut : CutAt) → IsBox b × HasDyes b → is_cut b cut ≡ true → IsBox (upper_half b cut) × HasDyes (upper_half b cut)
upper_keeps b cut h e =
    let same = length-set b.lo cut.dye (cut.mid + 1) in
    (upper_is_box b cut h.0 (cuts b cut e), (omega (arith, same, h.1.0), omega (arith, same, h.1.1)))

-- a box of several recipes can be split at the cut of the rule, whose dye is counted from 1
pub splits_at : (b : Span) (dye mid : ℕ) → IsBox b → is_single b ≡ false → dye ≡ (cut_of b).dye + 1 → mid ≡ (cut_of b).mid → splits b dye mid ≡ true
splits_at b dye mid box several e f =
    subst (λ n. splits b n mid ≡ true) (sym (e ∙ add-one (cut_of b).dye)) (subst (λ m. splits b (suc (cut_of b).dye) m ≡ true) (sym f) (is_cut_from b (cut_of b) (cut_fits b box several)))
