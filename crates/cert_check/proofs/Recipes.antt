-- How a box of one recipe is judged, and what a line says of it.
use Rattle.std.proofs.Common.{◌≡◌, ◌↔◌, ◌&&◌, ℕ, List, Bool, true, false, refl, sym, ap, ◌∙◌}
use Rattle.std.specs.Prelude.{Option, Some, None, is_none, is_some}
use Rattle.std.proofs.lemmas.Bool.{false≢true}
use Rattle.box_specs.specs.declared.certificate.CertLine.TheVariants.{Pass, Undecided}
use Rattle.box_specs.specs.declared.certificate.Cutoff.{Cutoff}
use Rattle.box_specs.specs.declared.certificate.Why.{Why}
use Rattle.box_specs.specs.declared.certificate.Why.TheVariants.{NotPassing, NotPoint, NotUndecided, WrongList}
use Rattle.box_specs.specs.Answer.{is_match, is_pass}
use Rattle.box_specs.specs.Landscape.{Grade, IsLawful, IsSound, Land, fails, is_admitted, judged_by, judgement, light_of, limit_of, passes, unsure}
use Rattle.box_specs.specs.Span.{Span, is_single, single}
use Rattle.box_specs.specs.Validity.{is_listed, is_unsure, line_fault, unless}
use Rattle.cert_check.specs.Walk.{is_judged_as, recipe_fault}
use Rattle.cert_check.proofs.Order.{same_is}
use Rattle.cert_check.proofs.Parts.{corner_within}

module _ (l : Land) where
  undecided_by : (x y : Option ℕ) (g : Grade) → (is_none x ≡ true → (is_some y ≡ true) ↔ (g ≡ fails)) → is_judged_as Undecided (judged_by l x y true g) ≡ is_none x && is_unsure g
  undecided_by (Some k) y g own = refl
  undecided_by None (Some j) g own = sym (ap is_unsure ((own refl).0 refl))
  undecided_by None None passes own = refl
  undecided_by None None fails own = absurd (false≢true ((own refl).1 refl))
  undecided_by None None unsure own = refl

  passing_by : (x y : Option ℕ) (g : Grade) → (is_none x ≡ true → (is_some y ≡ true) ↔ (g ≡ fails)) → is_judged_as Pass (judged_by l x y true g) ≡ is_none x && is_pass g
  passing_by (Some k) y g own = refl
  passing_by None (Some j) g own = sym (ap is_pass ((own refl).0 refl))
  passing_by None None passes own = refl
  passing_by None None fails own = absurd (false≢true ((own refl).1 refl))
  passing_by None None unsure own = refl

  -- a box of one recipe is judged as the box of its corner
  judged_alone : (b : Span) → is_single b ≡ true → judgement l b ≡ judged_by l (limit_of l (single b.lo)) (light_of l (single b.lo)) true (l.grade b.lo)
  judged_alone b e =
      let one = same_is b.lo b.hi e in
      let whole : b ≡ single b.lo = λ i. record { lo = b.lo; hi = sym one i } in
      λ i. judged_by l (limit_of l (whole i)) (light_of l (whole i)) (e i) (l.grade b.lo)

  -- two tests that agree on a box of one recipe have the same faults
  same_fault : (b : Span) (p q : Bool) (otherwise : Why) (listed : List (List ℕ)) → (is_single b ≡ true → p ≡ q) → recipe_fault p otherwise listed b ≡ recipe_fault q otherwise listed b
  same_fault b p q otherwise listed same = go (is_single b) same where
    go : (t : Bool) → (t ≡ true → p ≡ q) → unless t NotPoint (unless p otherwise (unless (is_listed listed b.lo) WrongList None))
        ≡ unless t NotPoint (unless q otherwise (unless (is_listed listed b.lo) WrongList None))
    go true k = ap (λ r. unless r otherwise (unless (is_listed listed b.lo) WrongList None)) (k refl)
    go false k = refl

  module _ (lawful : IsLawful l) (cutoff : Cutoff) (matched listed : List (List ℕ)) (b : Span) (sound : IsSound l b) where
    pub undecided_is : recipe_fault (is_judged_as Undecided (judgement l b)) NotUndecided listed b ≡ line_fault l cutoff matched listed b Undecided
    undecided_is = same_fault b (is_judged_as Undecided (judgement l b)) (is_admitted l b.lo && is_unsure (l.grade b.lo)) NotUndecided listed
        (λ e. ap (is_judged_as Undecided) (judged_alone b e) ∙ undecided_by (limit_of l (single b.lo)) (light_of l (single b.lo)) (l.grade b.lo) (lawful.own b.lo (corner_within l b sound)))

    pub pass_is : recipe_fault (is_judged_as Pass (judgement l b)) NotPassing matched b ≡ line_fault l cutoff matched listed b Pass
    pass_is = same_fault b (is_judged_as Pass (judgement l b)) (is_match l b.lo) NotPassing matched
        (λ e. ap (is_judged_as Pass) (judged_alone b e) ∙ passing_by (limit_of l (single b.lo)) (light_of l (single b.lo)) (l.grade b.lo) (lawful.own b.lo (corner_within l b sound)))
