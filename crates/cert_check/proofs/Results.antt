-- The steps of a check, put together.
use Rattle.std.proofs.Common.{◌≡◌, ◌+◌, ◌∷◌, ℕ, List, [], Bool, true, false, length, refl, sym, ap, ◌∙◌}
use Rattle.std.specs.Prelude.{Option, Some, None, is_some}
use Rattle.std.proofs.lemmas.Bool.{false≢true}
use Rattle.box_specs.specs.declared.certificate.CertLine.{CertLine}
use Rattle.box_specs.specs.declared.certificate.Checked.TheVariants.{Accepted}
use Rattle.box_specs.specs.declared.certificate.Cutoff.{Cutoff}
use Rattle.box_specs.specs.declared.certificate.Why.{Why}
use Rattle.box_specs.specs.Landscape.{Land}
use Rattle.box_specs.specs.Validity.{corners, is_pass_line, is_undecided_line, line_failure, or_next, unmarked_failure}
use Rattle.cert_check.specs.Marks.{HasMarks, first_unmarked}
use Rattle.cert_check.specs.Result.{checked_of, tree_failure}
use Rattle.cert_check.proofs.Marking.{unmarked_is}

pub is_none : {X : Type 0} (o : Option X) (b : Bool) → b ≡ is_some o → b ≡ false → o ≡ None
is_none None b e h = refl
is_none (Some x) b e h = absurd (false≢true (sym h ∙ e))

first_of : (f g : Option (ℕ × Why)) (b : Bool) → b ≡ is_some f → b ≡ true → or_next f g ≡ f
first_of None g b e h = absurd (false≢true (sym e ∙ h))
first_of (Some f) g b e h = refl

module _ (l : Land) (cutoff : Cutoff) (matched listed : List (List ℕ)) (lines : List CertLine) (w r : Option (ℕ × Why)) (b c : Bool) (unsure : List Bool) where
  -- the undecided recipes fail, where the lines hold
  pub tree_unsure : w ≡ line_failure l cutoff matched listed (4 + length listed) (l.top ∷ []) lines → b ≡ is_some w → b ≡ false
      → (w ≡ None → HasMarks unsure [] listed (corners is_undecided_line (l.top ∷ []) lines))
      → r ≡ first_unmarked 4 unsure → c ≡ is_some r → c ≡ true → r ≡ tree_failure l cutoff matched listed lines
  tree_unsure walk e none marked found d some =
      let empty = is_none w b e none in
      let unmarked = found ∙ unmarked_is l unsure listed (corners is_undecided_line (l.top ∷ []) lines) 4 (marked empty) in
      let rest : Option (ℕ × Why) = unmarked_failure l (corners is_pass_line (l.top ∷ []) lines) 2 matched in
      sym (ap (λ f. or_next f (or_next (unmarked_failure l (corners is_undecided_line (l.top ∷ []) lines) 4 listed) rest)) (sym walk ∙ empty)
      ∙ ap (λ f. or_next f rest) (sym unmarked)
      ∙ first_of r rest c d some)

  -- those that pass fail or nothing does, where the lines and the undecided recipes hold
  pub tree_passed : (u : Option (ℕ × Why)) (passed : List Bool)
      → w ≡ line_failure l cutoff matched listed (4 + length listed) (l.top ∷ []) lines → b ≡ is_some w → b ≡ false
      → (w ≡ None → HasMarks unsure [] listed (corners is_undecided_line (l.top ∷ []) lines))
      → (w ≡ None → HasMarks passed [] matched (corners is_pass_line (l.top ∷ []) lines))
      → r ≡ first_unmarked 4 unsure → c ≡ is_some r → c ≡ false → u ≡ first_unmarked 2 passed → u ≡ tree_failure l cutoff matched listed lines
  tree_passed u passed walk e none marked lined found d gone last =
      let empty = is_none w b e none in
      let unmarked = found ∙ unmarked_is l unsure listed (corners is_undecided_line (l.top ∷ []) lines) 4 (marked empty) in
      let unpassed = last ∙ unmarked_is l passed matched (corners is_pass_line (l.top ∷ []) lines) 2 (lined empty) in
      let rest : Option (ℕ × Why) = unmarked_failure l (corners is_pass_line (l.top ∷ []) lines) 2 matched in
      sym (ap (λ f. or_next f (or_next (unmarked_failure l (corners is_undecided_line (l.top ∷ []) lines) 4 listed) rest)) (sym walk ∙ empty)
      ∙ ap (λ f. or_next f rest) (sym unmarked ∙ is_none r c d gone)
      ∙ sym unpassed)

pub accepted : (f : Option (ℕ × Why)) → checked_of f ≡ Accepted → f ≡ None
accepted None h = refl
accepted (Some f) h = cc
