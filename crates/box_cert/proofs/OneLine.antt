-- A text is read as a line or as a recipe exactly where it spells one with its numbers in range.
use Rattle.std.proofs.Common.{◌≡◌, ◌≤◌, ℕ, List, length, sym, ap, ◌∙◌, IfSome}
use Rattle.std.specs.Prelude.{Option, Some, None, IsNone, option_map}
use Rattle.std.proofs.lemmas.Bool.{false≢true}
use Rattle.arrayvec.specs.ArrayVec.{ArrayVec}
use Rattle.box_core.specs.Ranges.{LineFits, StepsFit}
use Rattle.std.proofs.lemmas.Option.{none-some}
use Rattle.box_specs.specs.declared.certificate.CertLine.{CertLine}
use Rattle.box_cert.specs.Lines.{line_of, recipe_of}
use Rattle.box_cert.specs.LineTexts.{line_text, numbers_text}
use Rattle.box_cert.proofs.Again.{line_again, recipe_again}
use Rattle.box_cert.proofs.Takes.{line_takes, recipe_takes}

pub line_found : (text : List ℕ) (o : Option CertLine) → o ≡ line_of text → IfSome o (λ x. text ≡ line_text x)
line_found text None h = tt
line_found text (Some x) h = line_takes text x (sym h)

pub line_none : (text : List ℕ) (o : Option CertLine) → o ≡ line_of text → IsNone o → (x : CertLine) → LineFits x → text ≡ line_text x → ⊥
line_none text None h n x fits e = none-some x (h ∙ ap line_of e ∙ line_again x fits)
line_none text (Some y) h n x fits e = absurd (false≢true (sym n))

pub recipe_found : (dims : ℕ) (text : List ℕ) (o : Option (ArrayVec ℕ)) → option_map (λ s. s.items) o ≡ recipe_of dims text → IfSome o (λ s. text ≡ numbers_text s.items)
recipe_found dims text None h = tt
recipe_found dims text (Some s) h = recipe_takes dims text s.items (sym h)

pub recipe_none : (dims : ℕ) (text : List ℕ) (o : Option (ArrayVec ℕ)) → 1 ≤ dims → option_map (λ s. s.items) o ≡ recipe_of dims text
    → IsNone o → (steps : List ℕ) → length steps ≡ dims → StepsFit steps → text ≡ numbers_text steps → ⊥
recipe_none dims text None some h n steps len fits e = none-some steps (h ∙ ap (recipe_of dims) e ∙ recipe_again dims steps some len fits)
recipe_none dims text (Some s) some h n steps len fits e = absurd (false≢true (sym n))
