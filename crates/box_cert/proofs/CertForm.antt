-- The form of a certificate of a search: each text has one certificate, and each certificate one text.
use Rattle.std.proofs.Common.{◌≡◌, sym, ℕ, ◌≤◌, ◌^◌, Bool, true, false, List, [], ◌∷◌, ◌++◌, length, refl, ap, ◌∙◌, arith, if◌then◌else◌}
use Rattle.std.specs.Prelude.{Option, Some, None, Ok, option_map, codes}
use Rattle.std.specs.Str.{bytes_eq}
use Rattle.std.proofs.lemmas.Option.{none-some}
use Rattle.box_core.specs.Ranges.{ClaimFits}
use Rattle.box_specs.specs.Validity.{are_trees}
use Rattle.box_specs.specs.declared.certificate.CertLine.{CertLine}
use Rattle.box_specs.specs.declared.certificate.Claim.{Claim}
use Rattle.box_specs.specs.declared.certificate.Claim.TheVariants.{Floor, Match, NoMatch}
use Rattle.box_cert.specs.Claims.{HasDims, claim_in, claim_of, claim_text}
use Rattle.box_cert.specs.Form.{text_by}
use Rattle.box_cert.specs.Lines.{cut_at, recipe_of}
use Rattle.box_cert.specs.Numbers.{number_of}
use Rattle.box_cert.specs.Spelling.{Content, cert_form, cert_text, made, undecided}
use Rattle.box_cert.specs.Text.{IsCertFor, cert_of}
use Rattle.box_cert.proofs.Again.{numbers_free, recipe_again}
use Rattle.box_cert.proofs.Cuts.{cut_takes, some_same}
use Rattle.box_cert.proofs.Forms.{IsForm, IsHead, form_again, form_takes}
use Rattle.box_cert.proofs.Numerals.{decimal_free, has_no, number_again, number_takes}
use Rattle.box_cert.proofs.Takes.{map_some, recipe_takes, same_bytes}

-- the spelling of a claim is read as that claim
claim_again : (dims : ℕ) (claim : Claim) → 1 ≤ dims → HasDims dims claim → ClaimFits claim → claim_of dims (claim_text claim) ≡ Some claim
claim_again dims (Match recipe) some e h = ap (option_map (λ ns. Match (record { items = ns }))) (recipe_again dims recipe.items some e h)
claim_again dims NoMatch some e h = refl
claim_again dims (Floor cost) some e h = ap (option_map (λ n. Floor n)) (number_again 0 (10 ^ 15) cost (omega arith) h (omega (arith, h)))

claim_free : (claim : Claim) → ClaimFits claim → has_no 10 (claim_text claim) ≡ true
claim_free (Match recipe) h = numbers_free recipe.items h
claim_free NoMatch h = refl
claim_free (Floor cost) h = decimal_free 10 cost (omega arith) (omega (arith, h))

-- a line that is read as a claim is its spelling
claim_takes : (dims : ℕ) (line : List ℕ) (claim : Claim) → claim_of dims line ≡ Some claim → line ≡ claim_text claim
claim_takes dims line claim h = go (cut_at 32 line) refl h where
  none : (b : Bool) → bytes_eq line (codes "none") ≡ b → (if b then Some NoMatch else None) ≡ Some claim → line ≡ claim_text claim
  none true p e = same_bytes line _ p ∙ ap claim_text (some_same NoMatch claim e)
  none false p e = absurd (none-some claim e)

  worded : (r : List ℕ × List ℕ) → line ≡ r.0 ++ (32 ∷ r.1) → (a b : Bool) → bytes_eq r.0 (codes "match") ≡ a → bytes_eq r.0 (codes "floor") ≡ b
      → (if a then option_map (λ ns. Match (record { items = ns })) (recipe_of dims r.1) else (if b then option_map (λ cost. Floor cost) (number_of 0 (10 ^ 15) r.1) else None)) ≡ Some claim
      → line ≡ claim_text claim
  worded r l true b p q e =
      let m = map_some (λ ns. Match (record { items = ns })) (recipe_of dims r.1) claim e in
      l ∙ ap (λ w. w ++ (32 ∷ r.1)) (same_bytes r.0 (codes "match") p) ∙ ap (λ t. codes "match" ++ (32 ∷ t)) (recipe_takes dims r.1 m.0 m.1) ∙ ap claim_text m.2
  worded r l false true p q e =
      let m = map_some (λ cost. Floor cost) (number_of 0 (10 ^ 15) r.1) claim e in
      l ∙ ap (λ w. w ++ (32 ∷ r.1)) (same_bytes r.0 (codes "floor") q) ∙ ap (λ t. codes "floor" ++ (32 ∷ t)) (number_takes 0 (10 ^ 15) r.1 m.0 (omega arith) m.1).is ∙ ap claim_text m.2
  worded r l false false p q e = absurd (none-some claim e)

  go : (o : Option (List ℕ × List ℕ)) → cut_at 32 line ≡ o → claim_in dims line o ≡ Some claim → line ≡ claim_text claim
  go None p e = none (bytes_eq line (codes "none")) refl e
  go (Some r) p e = worded r (cut_takes 32 line r p) (bytes_eq r.0 (codes "match")) (bytes_eq r.0 (codes "floor")) refl refl e

undecided_is : IsHead undecided
undecided_is = record { space = refl; line = refl; few = omega arith }

abbrev FitsForm : ℕ → Claim → Type 0
FitsForm dims claim = HasDims dims claim × ClaimFits claim

cert_is : IsForm cert_form FitsForm
cert_is = record {
  header = refl;
  heads = λ claim. (undecided_is, tt);
  again = λ dims claim some h. claim_again dims claim some h.0 h.1;
  line = λ dims claim h. claim_free claim h.1;
  takes = claim_takes;
}

-- the spelling of a certificate is read as that certificate
pub cert_again : (dims : ℕ) (c : Content) → 1 ≤ dims → IsCertFor dims c → cert_of dims (cert_text c) ≡ Ok c
unfolding cert_of cert_text
cert_again dims c some h = form_again cert_form FitsForm made dims c.claim (c.listed ∷ []) c.lines cert_is some (h.claim, h.numbers) (omega arith, h.few, h.listed, tt) h.tree

-- a text that is read is the spelling of what is read
pub cert_takes : (dims : ℕ) (text : List ℕ) (c : Content) → cert_of dims text ≡ Ok c → text ≡ cert_text c
unfolding cert_of cert_text
cert_takes dims text c h =
    let t = form_takes cert_form FitsForm made dims text c cert_is h in
    go t.claim t.lines t.lists t.many t.is t.same
  where
    go : (claim : Claim) (lines : List CertLine) (lists : List (List (List ℕ))) → length lists ≡ 1 → text ≡ text_by cert_form claim lists lines → made claim lists lines ≡ c → text ≡ cert_text c
    go claim lines [] many is same = absurd (omega arith)
    go claim lines (listed ∷ []) many is same = is ∙ ap cert_text same
    go claim lines (listed ∷ (other ∷ lists)) many is same = absurd (omega arith)

made_lines : (claim : Claim) (lists : List (List (List ℕ))) (lines : List CertLine) → (made claim lists lines).lines ≡ lines
made_lines claim [] lines = refl
made_lines claim (listed ∷ lists) lines = refl

-- the lines of a certificate that is read are one tree
pub cert_tree : (dims : ℕ) (text : List ℕ) (c : Content) → cert_of dims text ≡ Ok c → are_trees 1 c.lines ≡ true
unfolding cert_of
cert_tree dims text c h =
    let t = form_takes cert_form FitsForm made dims text c cert_is h in
    ap (are_trees 1) (sym (ap (λ (v : Content). v.lines) t.same) ∙ made_lines t.claim t.lists t.lines) ∙ t.tree
