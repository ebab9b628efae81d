-- A line holds exactly where it has no fault.
use Rattle.std.proofs.Common.{◌≡◌, ◌+◌, ◌&&◌, ℕ, List, [], ◌∷◌, Bool, true, false, refl, ap, ◌∙◌}
use Rattle.std.specs.Prelude.{Option, Some, None}
use Rattle.std.proofs.lemmas.Bool.{and_parts}
use Rattle.box_specs.specs.declared.certificate.CertLine.{CertLine}
use Rattle.box_specs.specs.declared.certificate.CertLine.TheVariants.{Dear, Fail, Limit, Pass, Split, Undecided}
use Rattle.box_specs.specs.declared.certificate.Cutoff.{Cutoff}
use Rattle.box_specs.specs.declared.certificate.Why.{Why}
use Rattle.box_specs.specs.declared.certificate.Why.TheVariants.{BadSplit, NotDear, NotFailing, NotLimit, NotPassing, NotPoint, NotUndecided, WrongList}
use Rattle.box_specs.specs.Answer.{is_match}
use Rattle.box_specs.specs.Landscape.{Land, is_admitted}
use Rattle.box_specs.specs.Span.{Span, is_single}
use Rattle.box_specs.specs.Validity.{AllHold, after, at_line, holds, is_dear, is_listed, is_unsure, line_failure, line_fault, or_next, splits, unless}

pub or_none : (f g : Option (ℕ × Why)) → or_next f g ≡ None → (f ≡ None) × (g ≡ None)
or_none None g h = (refl, h)
or_none (Some f) g h = cc

pub at_none : (n : ℕ) (w : Option Why) → at_line n w ≡ None → w ≡ None
at_none n None h = refl
at_none n (Some w) h = cc

unless_none : (t : Bool) (w : Why) (next : Option Why) → unless t w next ≡ None → (t ≡ true) × (next ≡ None)
unless_none true w next h = (refl, h)
unless_none false w next h = cc

module _ (l : Land) (cutoff : Cutoff) (matched listed : List (List ℕ)) where
  pub holds_if : (b : Span) (x : CertLine) → line_fault l cutoff matched listed b x ≡ None → holds l cutoff matched listed b x ≡ true
  holds_if b (Split dye mid) h = (unless_none (splits b dye mid) BadSplit None h).0
  holds_if b (Limit k) h = (unless_none (l.excluded k b) NotLimit None h).0
  holds_if b (Fail j) h = (unless_none (l.failing j b) NotFailing None h).0
  holds_if b Dear h = (unless_none (is_dear l cutoff b) NotDear None h).0
  holds_if b Undecided h =
      let open_ = is_admitted l b.lo && is_unsure (l.grade b.lo) in
      let last = unless (is_listed listed b.lo) WrongList None in
      let one = unless_none (is_single b) NotPoint (unless open_ NotUndecided last) h in
      let two = unless_none open_ NotUndecided last one.1 in
      let three = unless_none (is_listed listed b.lo) WrongList None two.1 in
      λ i. one.0 i && two.0 i && three.0 i
  holds_if b Pass h =
      let last = unless (is_listed matched b.lo) WrongList None in
      let one = unless_none (is_single b) NotPoint (unless (is_match l b.lo) NotPassing last) h in
      let two = unless_none (is_match l b.lo) NotPassing last one.1 in
      let three = unless_none (is_listed matched b.lo) WrongList None two.1 in
      λ i. one.0 i && two.0 i && three.0 i

  pub no_fault : (b : Span) (x : CertLine) → holds l cutoff matched listed b x ≡ true → line_fault l cutoff matched listed b x ≡ None
  no_fault b (Split dye mid) h = ap (λ t. unless t BadSplit None) h
  no_fault b (Limit k) h = ap (λ t. unless t NotLimit None) h
  no_fault b (Fail j) h = ap (λ t. unless t NotFailing None) h
  no_fault b Dear h = ap (λ t. unless t NotDear None) h
  no_fault b Undecided h =
      let outer = and_parts (is_single b && (is_admitted l b.lo && is_unsure (l.grade b.lo))) (is_listed listed b.lo) h in
      let inner = and_parts (is_single b) (is_admitted l b.lo && is_unsure (l.grade b.lo)) outer.0 in
      λ i. unless (inner.0 i) NotPoint (unless (inner.1 i) NotUndecided (unless (outer.1 i) WrongList None))
  no_fault b Pass h =
      let outer = and_parts (is_single b && is_match l b.lo) (is_listed matched b.lo) h in
      let inner = and_parts (is_single b) (is_match l b.lo) outer.0 in
      λ i. unless (inner.0 i) NotPoint (unless (inner.1 i) NotPassing (unless (outer.1 i) WrongList None))

  -- all lines hold exactly where none fails
  pub hold_if : (n : ℕ) (bs : List Span) (xs : List CertLine) → line_failure l cutoff matched listed n bs xs ≡ None → AllHold l cutoff matched listed bs xs
  hold_if n bs [] h = tt
  hold_if n [] (x ∷ xs) h = tt
  hold_if n (b ∷ bs) (x ∷ xs) h =
      let both = or_none (at_line n (line_fault l cutoff matched listed b x)) (line_failure l cutoff matched listed (n + 1) (after b bs x) xs) h in
      (holds_if b x (at_none n (line_fault l cutoff matched listed b x) both.0), hold_if (n + 1) (after b bs x) xs both.1)

  pub no_failure : (n : ℕ) (bs : List Span) (xs : List CertLine) → AllHold l cutoff matched listed bs xs → line_failure l cutoff matched listed n bs xs ≡ None
  no_failure n bs [] h = refl
  no_failure n [] (x ∷ xs) h = refl
  no_failure n (b ∷ bs) (x ∷ xs) h =
      ap (λ w. or_next (at_line n w) (line_failure l cutoff matched listed (n + 1) (after b bs x) xs)) (no_fault b x h.0)
      ∙ no_failure (n + 1) (after b bs x) xs h.1
