-- A draft that takes a line, and one that is finished.
use Rattle.std.proofs.Common.{◌≡◌, ◌+◌, ◌-◌, ◌<◌, ◌≤◌, ℕ, zero, suc, true, All, List, [], ◌∷◌, ◌++◌, length, refl, sym, ap, ◌∙◌, arith}
use Rattle.std.specs.Prelude.{Option, Some, None, Ok}
use Rattle.std.proofs.lemmas.Bool.{false≢true}
use Rattle.std.proofs.lemmas.Bool.Decides.{nat_tests}
use Rattle.std.proofs.lemmas.List.{append-nil}
use Rattle.std.proofs.lemmas.List.Elements.{All-push}
use Rattle.box_core.specs.Ranges.{LineFits, StepsFit}
use Rattle.box_specs.specs.Validity.{are_trees}
use Rattle.box_specs.specs.declared.certificate.CertLine.{CertLine}
use Rattle.box_specs.specs.declared.certificate.CertRule.TheVariants.{BadHeader, BadLine, Left}
use Rattle.box_specs.specs.declared.certificate.Claim.{Claim}
use Rattle.box_cert.specs.declared.draft.Draft.{Draft}
use Rattle.box_cert.specs.declared.draft.Part.{Part}
use Rattle.box_cert.specs.declared.draft.Part.TheVariants as parts
use Rattle.box_cert.specs.declared.fault.CertError.TheVariants as errors
use Rattle.box_cert.specs.Drafts.{IsBegun, is_whole, part_before, recipes, still, still_at, then_list, to_come, trees_of}
use Rattle.box_cert.specs.Spelling.{cert_form, made}
use Rattle.box_cert.specs.Lines.{line_of, recipe_of}
use Rattle.box_cert.specs.Numbers.{number_of}
use Rattle.box_cert.specs.Form.{header_of, then_claim, then_end}
use Rattle.box_cert.specs.Reading.{◌>>=◌, AreRecipes, Cursor, IsTree, cursor_of, fault, line_result, lines_of, next_of, parts_of, recipes_at, trees_at, with_prefix}
use Rattle.box_cert.specs.Text.{cert_of}
use Rattle.box_cert.proofs.Prefixes.{prefix_more, prefix_none}
use Rattle.box_cert.proofs.Steps.{tree_fails, tree_step}

-- before the tree the recipes to come are read on
pub before : (dims : ℕ) (claim : Claim) (listed : List (List ℕ)) (k : ℕ) (p : Cursor) → still_at dims claim listed [] (part_before k) p ≡ (with_prefix listed (recipes_at dims k p) >>= then_list claim)
before dims claim listed zero p = ap (λ r. r >>= then_end made claim (listed ∷ [])) (prefix_none (trees_at 1 p)) ∙ sym (ap (λ xs. then_list claim (xs, p)) (append-nil listed))
before dims claim listed (suc k) p = refl

pub before_begun : (k : ℕ) (listed : List (List ℕ)) → IsBegun (part_before k) listed []
before_begun zero listed = λ more. refl
before_begun (suc k) listed = refl

pub before_come : (k : ℕ) → to_come (part_before k) ≡ k
before_come zero = refl
before_come (suc k) = refl

pub before_trees : (k : ℕ) → trees_of (part_before k) ≡ 1
before_trees zero = refl
before_trees (suc k) = refl

module _ (dims : ℕ) (claim : Claim) (listed : List (List ℕ)) (number : ℕ) (line : List ℕ) (lines : List (List ℕ)) (left : List ℕ) where
  -- the line is no recipe
  pub no_recipe : (tree : List CertLine) (more : ℕ) → recipe_of dims line ≡ None
      → still_at dims claim listed tree (parts.Recipe more) (record { number = number; lines = line ∷ lines; left = left }) ≡ fault number BadLine
  no_recipe tree more e =
      ap (λ o. with_prefix listed (line_result number BadLine o (record { number = number + 1; lines = lines; left = left }) >>= λ r. recipes_at dims more r.1 >>= λ rs. Ok (r.0 ∷ rs.0, rs.1)) >>= then_list claim) e

  -- the line is a recipe
  pub one_recipe : (tree : List CertLine) (more : ℕ) (x : List ℕ) → recipe_of dims line ≡ Some x → tree ≡ []
      → still_at dims claim (listed ++ x ∷ []) tree (part_before more) (record { number = number + 1; lines = lines; left = left })
      ≡ still_at dims claim listed tree (parts.Recipe more) (record { number = number; lines = line ∷ lines; left = left })
  one_recipe tree more x e none =
      let p : Cursor = record { number = number + 1; lines = lines; left = left } in
      ap (λ t. still_at dims claim (listed ++ x ∷ []) t (part_before more) p) none
      ∙ before dims claim (listed ++ x ∷ []) more p
      ∙ ap (λ r. r >>= then_list claim) (prefix_more listed x (recipes_at dims more p))
      ∙ sym (ap (λ o. with_prefix listed (line_result number BadLine o p >>= λ r. recipes_at dims more r.1 >>= λ rs. Ok (r.0 ∷ rs.0, rs.1)) >>= then_list claim) e)

  -- the line is no line of a tree
  pub no_tree_line : (tree : List CertLine) (wanted : ℕ) → 0 < wanted → line_of line ≡ None
      → still_at dims claim listed tree (parts.Tree wanted) (record { number = number; lines = line ∷ lines; left = left }) ≡ fault number BadLine
  no_tree_line tree wanted some e =
      let p : Cursor = record { number = number; lines = line ∷ lines; left = left } in
      ap (λ r. r >>= then_end made claim (listed ∷ []))
      (tree_fails wanted tree p (with_prefix tree (trees_at wanted p)) some refl (errors.Fault (record { line = number; rule = BadLine }))
      (ap (λ o. line_result number BadLine o (record { number = number + 1; lines = lines; left = left })) e))

  -- the line is a line of a tree
  pub one_tree_line : (tree : List CertLine) (wanted : ℕ) (x : CertLine) → 0 < wanted → line_of line ≡ Some x
      → still_at dims claim listed (tree ++ x ∷ []) (parts.Tree (parts_of x + (wanted - 1))) (record { number = number + 1; lines = lines; left = left })
      ≡ still_at dims claim listed tree (parts.Tree wanted) (record { number = number; lines = line ∷ lines; left = left })
  one_tree_line tree wanted x some e =
      let p : Cursor = record { number = number; lines = line ∷ lines; left = left } in
      let q : Cursor = record { number = number + 1; lines = lines; left = left } in
      ap (λ r. r >>= then_end made claim (listed ∷ []))
      (tree_step wanted tree p (with_prefix tree (trees_at wanted p)) some refl x (parts_of x) q (ap (λ o. line_result number BadLine o q) e) refl)

  -- a line follows the whole tree
  pub line_left : (tree : List CertLine) → still_at dims claim listed tree (parts.Tree 0) (record { number = number; lines = line ∷ lines; left = left }) ≡ fault number Left
  line_left tree = refl

-- one more recipe is listed
pub recipes_more : (dims : ℕ) (xs : List (List ℕ)) (x : List ℕ) → length x ≡ dims → StepsFit x → AreRecipes dims (length xs) xs → AreRecipes dims (length (xs ++ x ∷ [])) (xs ++ x ∷ [])
recipes_more dims xs x len fits r = record {
  many = refl;
  each = All-push (λ s. length s ≡ dims) xs x r.each len;
  fits = All-push StepsFit xs x r.fits fits;
}

-- a line that something is read from is not empty
pub some_line : {A : Type 0} (kind : List ℕ → Option A) (line : List ℕ) (x : A) → kind [] ≡ None → kind line ≡ Some x → 1 ≤ length line
some_line kind [] x none e = absurd (let h : None ≡ Some x = sym none ∙ e in cc)
some_line kind (b ∷ bs) x none e = omega arith

pub recipe_needs : (dims : ℕ) → recipe_of dims [] ≡ None
unfolding number_of
recipe_needs zero = refl
recipe_needs (suc zero) = refl
recipe_needs (suc (suc k)) = refl

-- where no tree is to come, the lines are one tree
pub whole_part : (q : Part) → is_whole q ≡ true → q ≡ parts.Tree 0
whole_part parts.Header h = absurd (false≢true h)
whole_part parts.Claim h = absurd (false≢true h)
whole_part parts.Count h = absurd (false≢true h)
whole_part (parts.Recipe more) h = absurd (false≢true h)
whole_part (parts.Tree wanted) h = let none : wanted ≡ 0 = grind (arith, nat_tests) in ap (λ w. parts.Tree w) none

pub whole_tree : (lines : List CertLine) → ((more : List CertLine) → are_trees 1 (lines ++ more) ≡ are_trees 0 more) → length lines ≤ 32000000 → All LineFits lines → IsTree lines
whole_tree lines shape short fits = record { whole = sym (ap (are_trees 1) (append-nil lines)) ∙ shape []; short = short; fits = fits }

-- a draft of which no line is read
pub begins : (d : Draft) (dims : ℕ) (text : List ℕ) → d.part ≡ parts.Header → d.dims ≡ dims → d.number ≡ 1 → still d (lines_of text).0 (lines_of text).1 ≡ cert_of dims text
unfolding cert_of
begins d dims text part same number =
    ap (λ q. still_at d.dims d.claim (recipes d) d.lines.items q (record { number = d.number; lines = (lines_of text).0; left = (lines_of text).1 })) part
    ∙ ap (λ k. next_of BadHeader (header_of cert_form.header) (record { number = d.number; lines = (lines_of text).0; left = (lines_of text).1 }) >>= then_claim cert_form made k) same
    ∙ ap (λ n. next_of BadHeader (header_of cert_form.header) (cursor_of n text) >>= then_claim cert_form made dims) number
