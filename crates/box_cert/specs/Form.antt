-- A form of certificate: its first line, the claim in its second line, lists of recipes, and a tree.
use Rattle.std.specs.Prelude.{◌≤◌, ◌++◌, ℕ, if◌then◌else◌, List, [], ◌∷◌, decimal, length, Option, Some, None, Result}
use Rattle.std.specs.Str.{bytes_eq}
use Rattle.box_specs.specs.declared.certificate.CertFault.{CertFault}
use Rattle.box_specs.specs.declared.certificate.CertLine.{CertLine}
use Rattle.box_specs.specs.declared.certificate.CertRule.TheVariants.{BadClaim, BadHeader}
use Rattle.box_cert.specs.LineTexts.{as_line, lines_text, recipes_text}
use Rattle.box_cert.specs.Lines.{cut_at}
use Rattle.box_cert.specs.Numbers.{number_of}
use Rattle.box_cert.specs.Reading.{◌>>=◌, AreRecipes, Cursor, cursor_of, next_of, nothing_left, recipes_at, trees_at}

-- the line before a list: a word, a space, and the number of its recipes, from least to most
pub record Head : Type 0 where
  pub word : List ℕ
  pub least : ℕ
  pub most : ℕ

-- the first line; the claim that a line spells for recipes of so many dyes, and the line that spells
-- a claim; and the heads of the lists that follow a claim
pub record Form (C : Type 0) : Type 0 where
  pub header : List ℕ
  pub claim_of : ℕ → List ℕ → Option C
  pub claim_text : C → List ℕ
  pub heads : C → List Head

abbrev pub header_of : List ℕ → List ℕ → Option (Unit {0})
header_of header line = if bytes_eq line header then Some tt else None

-- how many recipes are listed, from a line cut at its first space
abbrev pub count_in : Head → Option (List ℕ × List ℕ) → Option ℕ
count_in head None = None
count_in head (Some r) = if bytes_eq r.0 head.word then number_of head.least head.most r.1 else None

abbrev pub count_of : Head → List ℕ → Option ℕ
count_of head line = count_in head (cut_at 32 line)

abbrev pub count_text : Head → ℕ → List ℕ
count_text head count = head.word ++ (32 ∷ decimal count)

-- the lists of these heads, and then what is read with them
abbrev pub lists_then : {V : Type 0} → ℕ → List Head → (List (List (List ℕ)) → Cursor → Result V CertFault) → Cursor → Result V CertFault
lists_then dims [] next p = next [] p
lists_then dims (head ∷ heads) next p =
    next_of BadClaim (count_of head) p >>= λ count. recipes_at dims count.0 count.1 >>= λ listed. lists_then dims heads (λ more. next (listed.0 ∷ more)) listed.1

-- what is read after the lines of the tree, and after the lists
module _ {C V : Type 0} (made : C → List (List (List ℕ)) → List CertLine → V) (claim : C) (lists : List (List (List ℕ))) where
  abbrev pub then_end : List CertLine × Cursor → Result V CertFault
  then_end tree = nothing_left (made claim lists tree.0) tree.1.number tree.1.lines tree.1.left

  abbrev pub then_tree : Cursor → Result V CertFault
  then_tree p = trees_at 1 p >>= then_end

-- what a text of a form gives, made of its claim, its lists and its lines, or its first fault
module _ {C V : Type 0} (form : Form C) (made : C → List (List (List ℕ)) → List CertLine → V) (dims : ℕ) where
  abbrev pub then_lists : C × Cursor → Result V CertFault
  then_lists claim = lists_then dims (form.heads claim.0) (then_tree made claim.0) claim.1

  abbrev pub then_claim : Unit {0} × Cursor → Result V CertFault
  then_claim head = next_of BadClaim (form.claim_of dims) head.1 >>= then_lists

  abbrev pub read_by : List ℕ → Result V CertFault
  read_by text = next_of BadHeader (header_of form.header) (cursor_of 1 text) >>= then_claim

-- a text, and then lists with their heads
abbrev pub lists_onto : List ℕ → List Head → List (List (List ℕ)) → List ℕ
lists_onto text [] lists = text
lists_onto text (head ∷ heads) [] = text
lists_onto text (head ∷ heads) (listed ∷ lists) = lists_onto ((text ++ as_line (count_text head (length listed))) ++ recipes_text listed) heads lists

abbrev pub text_by : {C : Type 0} → Form C → C → List (List (List ℕ)) → List CertLine → List ℕ
text_by form claim lists lines = lists_onto (as_line form.header ++ as_line (form.claim_text claim)) (form.heads claim) lists ++ lines_text lines

-- a list for each head, of as many recipes as the head allows
abbrev pub ListsFit : ℕ → List Head → List (List (List ℕ)) → Type 0
ListsFit dims [] [] = Unit {0}
ListsFit dims [] (listed ∷ lists) = ⊥
ListsFit dims (head ∷ heads) [] = ⊥
ListsFit dims (head ∷ heads) (listed ∷ lists) = (head.least ≤ length listed) × (length listed ≤ head.most) × AreRecipes dims (length listed) listed × ListsFit dims heads lists
