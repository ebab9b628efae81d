-- Both laws of a form of certificate: what is written is read back, and what is read is what would be
-- written.
use Rattle.std.proofs.Common.{◌≡◌, ℕ, ◌+◌, ◌<◌, ◌≤◌, ◌^◌, Bool, true, false, List, [], ◌∷◌, ◌++◌, length, refl, sym, ap, ◌∙◌, arith, append_assoc, decimal, if◌then◌else◌}
use Rattle.std.specs.Prelude.{Option, Some, None, Result, Ok}
use Rattle.std.specs.Str.{bytes_eq}
use Rattle.std.proofs.lemmas.List.{append-nil}
use Rattle.std.proofs.lemmas.Option.{none-some}
use Rattle.std.proofs.lemmas.Slice.Eq.{bytes_eq-Decides}
use Rattle.box_specs.specs.Validity.{are_trees}
use Rattle.box_specs.specs.declared.certificate.CertFault.{CertFault}
use Rattle.box_specs.specs.declared.certificate.CertLine.{CertLine}
use Rattle.box_specs.specs.declared.certificate.CertRule.TheVariants.{BadClaim, BadHeader}
use Rattle.box_cert.specs.Form.{Form, Head, ListsFit, count_in, count_of, count_text, header_of, lists_onto, lists_then, read_by, text_by, then_claim, then_end, then_lists, then_tree}
use Rattle.box_cert.specs.LineTexts.{as_line, lines_text, recipes_text}
use Rattle.box_cert.specs.Lines.{cut_at}
use Rattle.box_cert.specs.Numbers.{number_of}
use Rattle.box_cert.specs.Reading.{◌>>=◌, Cursor, IsTree, cursor_of, next_of, recipes_at, trees_at}
use Rattle.box_cert.proofs.Again.{appended, cut_again, next_again, recipes_again, trees_again}
use Rattle.box_cert.proofs.Cuts.{cut_takes}
use Rattle.box_cert.proofs.Numerals.{decimal_free, has_no, number_again, number_takes}
use Rattle.box_cert.proofs.Takes.{bind_ok, end_takes, lines_joined, next_takes, recipes_takes, same_bytes, text_of, trees_take, trees_whole}

-- a word of one line without a space, before a number
pub record IsHead (head : Head) : Type 0 where
  pub space : has_no 32 head.word ≡ true
  pub line : has_no 10 head.word ≡ true
  pub few : head.most < 2 ^ 64

abbrev pub AreHeads : List Head → Type 0
AreHeads [] = Unit {0}
AreHeads (head ∷ heads) = IsHead head × AreHeads heads

-- the header and the words are of one line, and each claim that fits has one spelling of one line
pub record IsForm {C : Type 0} (form : Form C) (Fits : ℕ → C → Type 0) : Type 0 where
  pub header : has_no 10 form.header ≡ true
  pub heads : (claim : C) → AreHeads (form.heads claim)
  pub again : (dims : ℕ) (claim : C) → 1 ≤ dims → Fits dims claim → form.claim_of dims (form.claim_text claim) ≡ Some claim
  pub line : (dims : ℕ) (claim : C) → Fits dims claim → has_no 10 (form.claim_text claim) ≡ true
  pub takes : (dims : ℕ) (line : List ℕ) (claim : C) → form.claim_of dims line ≡ Some claim → line ≡ form.claim_text claim

equal_bytes : (a : List ℕ) → bytes_eq a a ≡ true
equal_bytes a = (bytes_eq-Decides a a).1 refl

header_again : (header : List ℕ) → header_of header header ≡ Some tt
header_again header = ap (λ b. if b then Some tt else None) (equal_bytes header)

header_takes : (header line : List ℕ) (x : Unit {0}) → header_of header line ≡ Some x → line ≡ header
header_takes header line x h = go (bytes_eq line header) refl h where
  go : (b : Bool) → bytes_eq line header ≡ b → (if b then Some tt else None) ≡ Some x → line ≡ header
  go true p e = same_bytes line header p
  go false p e = absurd (none-some x e)

module _ (head : Head) (is : IsHead head) where
  count_again : (n : ℕ) → head.least ≤ n → n ≤ head.most → count_of head (count_text head n) ≡ Some n
  count_again n low high =
      ap (count_in head) (cut_again 32 head.word (decimal n) is.space)
      ∙ ap (λ b. if b then number_of head.least head.most (decimal n) else None) (equal_bytes head.word)
      ∙ number_again head.least head.most n low high (omega (arith, high, is.few))

  count_free : (n : ℕ) → n ≤ head.most → has_no 10 (count_text head n) ≡ true
  count_free n high = appended 10 head.word (32 ∷ decimal n) is.line (decimal_free 10 n (omega arith) (omega (arith, high, is.few)))

  count_takes : (line : List ℕ) (n : ℕ) → count_of head line ≡ Some n → line ≡ count_text head n
  count_takes line n h = go (cut_at 32 line) refl h where
    worded : (r : List ℕ × List ℕ) → line ≡ r.0 ++ (32 ∷ r.1) → (b : Bool) → bytes_eq r.0 head.word ≡ b → (if b then number_of head.least head.most r.1 else None) ≡ Some n → line ≡ count_text head n
    worded r l true p e = l ∙ ap (λ w. w ++ (32 ∷ r.1)) (same_bytes r.0 head.word p) ∙ ap (λ t. head.word ++ (32 ∷ t)) (number_takes head.least head.most r.1 n is.few e).is
    worded r l false p e = absurd (none-some n e)

    go : (o : Option (List ℕ × List ℕ)) → cut_at 32 line ≡ o → count_in head o ≡ Some n → line ≡ count_text head n
    go None p e = absurd (none-some n e)
    go (Some r) p e = worded r (cut_takes 32 line r p) (bytes_eq r.0 head.word) refl e

-- lists with their heads
abbrev lists_text : List Head → List (List (List ℕ)) → List ℕ
lists_text [] lists = []
lists_text (head ∷ heads) [] = []
lists_text (head ∷ heads) (listed ∷ lists) = as_line (count_text head (length listed)) ++ (recipes_text listed ++ lists_text heads lists)

onto_is : (text : List ℕ) (heads : List Head) (lists : List (List (List ℕ))) → lists_onto text heads lists ≡ text ++ lists_text heads lists
onto_is text [] lists = sym (append-nil text)
onto_is text (head ∷ heads) [] = sym (append-nil text)
onto_is text (head ∷ heads) (listed ∷ lists) =
    let C = as_line (count_text head (length listed)) in
    let R = recipes_text listed in
    let M = lists_text heads lists in
    onto_is ((text ++ C) ++ R) heads lists ∙ append_assoc (text ++ C) R M ∙ append_assoc text C (R ++ M)

text_is : {C : Type 0} (form : Form C) (claim : C) (lists : List (List (List ℕ))) (lines : List CertLine)
    → text_by form claim lists lines ≡ as_line form.header ++ (as_line (form.claim_text claim) ++ (lists_text (form.heads claim) lists ++ lines_text lines))
text_is form claim lists lines =
    let A = as_line form.header in
    let B = as_line (form.claim_text claim) in
    let M = lists_text (form.heads claim) lists in
    let L = lines_text lines in
    ap (λ t. t ++ L) (onto_is (A ++ B) (form.heads claim) lists) ∙ append_assoc (A ++ B) M L ∙ append_assoc A B (M ++ L)

abbrev line_after : ℕ → List (List (List ℕ)) → ℕ
line_after n [] = n
line_after n (listed ∷ lists) = line_after ((n + 1) + length listed) lists

lists_again : {V : Type 0} (dims n : ℕ) (heads : List Head) (lists : List (List (List ℕ))) (text : List ℕ) (next : List (List (List ℕ)) → Cursor → Result V CertFault)
    → 1 ≤ dims → AreHeads heads → ListsFit dims heads lists
    → lists_then dims heads next (cursor_of n (lists_text heads lists ++ text)) ≡ next lists (cursor_of (line_after n lists) text)
lists_again dims n [] [] text next some are fits = refl
lists_again dims n [] (listed ∷ lists) text next some are fits = absurd fits
lists_again dims n (head ∷ heads) [] text next some are fits = absurd fits
lists_again dims n (head ∷ heads) (listed ∷ lists) text next some are fits =
    let C = as_line (count_text head (length listed)) in
    let R = recipes_text listed in
    let M = lists_text heads lists in
    let count = length listed in
    ap (λ t. lists_then dims (head ∷ heads) next (cursor_of n t)) (append_assoc C (R ++ M) text ∙ ap (λ t. C ++ t) (append_assoc R M text))
    ∙ ap (λ r. r >>= λ count. recipes_at dims count.0 count.1 >>= λ listed. lists_then dims heads (λ more. next (listed.0 ∷ more)) listed.1)
    (next_again BadClaim (count_of head) n (count_text head count) (R ++ (M ++ text)) count (count_free head are.0 count fits.1) (count_again head are.0 count fits.0 fits.1))
    ∙ ap (λ r. r >>= λ listed. lists_then dims heads (λ more. next (listed.0 ∷ more)) listed.1) (recipes_again dims (n + 1) listed (M ++ text) some fits.2.each fits.2.fits)
    ∙ lists_again dims ((n + 1) + count) heads lists text (λ more. next (listed ∷ more)) some are.1 fits.3

-- what is written is read back
pub form_again : {C V : Type 0} (form : Form C) (Fits : ℕ → C → Type 0) (made : C → List (List (List ℕ)) → List CertLine → V) (dims : ℕ) (claim : C) (lists : List (List (List ℕ))) (lines : List CertLine)
    → IsForm form Fits → 1 ≤ dims → Fits dims claim → ListsFit dims (form.heads claim) lists → IsTree lines
    → read_by form made dims (text_by form claim lists lines) ≡ Ok (made claim lists lines)
form_again form Fits made dims claim lists lines is some fit fits tree =
    let B = as_line (form.claim_text claim) in
    let M = lists_text (form.heads claim) lists in
    let L = lines_text lines in
    ap (read_by form made dims) (text_is form claim lists lines ∙ ap (λ t. as_line form.header ++ (B ++ (M ++ t))) (sym (append-nil L)))
    ∙ ap (λ r. r >>= then_claim form made dims) (next_again BadHeader (header_of form.header) 1 form.header (B ++ (M ++ (L ++ []))) tt is.header (header_again form.header))
    ∙ ap (λ r. r >>= then_lists form made dims)
    (next_again BadClaim (form.claim_of dims) 2 (form.claim_text claim) (M ++ (L ++ [])) claim (is.line dims claim fit) (is.again dims claim some fit))
    ∙ lists_again dims 3 (form.heads claim) lists (L ++ []) (then_tree made claim) some (is.heads claim) fits
    ∙ ap (λ r. r >>= then_end made claim lists) (trees_again 1 (line_after 3 lists) lines [] tree.whole tree.fits)

-- lists that were read, and what was read after them
record ListsTaken {V : Type 0} (heads : List Head) (text : List ℕ) (next : List (List (List ℕ)) → Cursor → Result V CertFault) (v : V) : Type 0 where
  pub lists : List (List (List ℕ))
  pub rest : Cursor
  pub many : length lists ≡ length heads
  pub joined : text ≡ lists_text heads lists ++ text_of rest
  pub after : next lists rest ≡ Ok v

lists_take : {V : Type 0} (dims : ℕ) (heads : List Head) (next : List (List (List ℕ)) → Cursor → Result V CertFault) (p : Cursor) (v : V)
    → AreHeads heads → lists_then dims heads next p ≡ Ok v → ListsTaken heads (text_of p) next v
lists_take dims [] next p v are h = record { lists = []; rest = p; many = refl; joined = refl; after = h }
lists_take dims (head ∷ heads) next p v are h =
    let a = bind_ok (next_of BadClaim (count_of head) p) (λ count. recipes_at dims count.0 count.1 >>= λ listed. lists_then dims heads (λ more. next (listed.0 ∷ more)) listed.1) v h in
    let t = next_takes BadClaim (count_of head) p a.0 a.1 in
    let b = bind_ok (recipes_at dims a.0.0 a.0.1) (λ listed. lists_then dims heads (λ more. next (listed.0 ∷ more)) listed.1) v a.2 in
    let l = recipes_takes dims a.0.0 a.0.1 b.0 b.1 in
    let listed = b.0.0 in
    let more = lists_take dims heads (λ more. next (listed ∷ more)) b.0.1 v are.1 b.2 in
    let C = as_line (count_text head (length listed)) in
    let R = recipes_text listed in
    let M = lists_text heads more.lists in
    let rest = text_of more.rest in
    record {
      lists = listed ∷ more.lists;
      rest = more.rest;
      many = omega (arith, more.many);
      joined = t.joined ∙ ap (λ x. as_line x ++ text_of a.0.1) (count_takes head are.0 t.line a.0.0 t.is ∙ ap (count_text head) (sym l.many))
          ∙ ap (λ x. C ++ x) (l.joined ∙ ap (λ x. R ++ x) more.joined ∙ sym (append_assoc R M rest)) ∙ sym (append_assoc C (R ++ M) rest);
      after = more.after;
    }

-- what was read, and its text
pub record FormTaken {C V : Type 0} (form : Form C) (made : C → List (List (List ℕ)) → List CertLine → V) (text : List ℕ) (v : V) : Type 0 where
  pub claim : C
  pub lists : List (List (List ℕ))
  pub lines : List CertLine
  pub many : length lists ≡ length (form.heads claim)
  pub is : text ≡ text_by form claim lists lines
  pub same : made claim lists lines ≡ v
  pub tree : are_trees 1 lines ≡ true

-- what is read is what would be written
pub form_takes : {C V : Type 0} (form : Form C) (Fits : ℕ → C → Type 0) (made : C → List (List (List ℕ)) → List CertLine → V) (dims : ℕ) (text : List ℕ) (v : V)
    → IsForm form Fits → read_by form made dims text ≡ Ok v → FormTaken form made text v
form_takes form Fits made dims text v is h =
    let p1 = cursor_of 1 text in
    let h1 = bind_ok (next_of BadHeader (header_of form.header) p1) (then_claim form made dims) v h in
    let t1 = next_takes BadHeader (header_of form.header) p1 h1.0 h1.1 in
    let h2 = bind_ok (next_of BadClaim (form.claim_of dims) h1.0.1) (then_lists form made dims) v h1.2 in
    let t2 = next_takes BadClaim (form.claim_of dims) h1.0.1 h2.0 h2.1 in
    let claim = h2.0.0 in
    let t3 = lists_take dims (form.heads claim) (then_tree made claim) h2.0.1 v (is.heads claim) h2.2 in
    let h4 = bind_ok (trees_at 1 t3.rest) (then_end made claim t3.lists) v t3.after in
    let t4 = trees_take 1 t3.rest.number t3.rest.lines t3.rest.left h4.0 h4.1 in
    let lines = h4.0.0 in
    let last = end_takes (made claim t3.lists lines) v h4.0.1.number h4.0.1.lines h4.0.1.left h4.2 in
    let A = as_line form.header in
    let B = as_line (form.claim_text claim) in
    let M = lists_text (form.heads claim) t3.lists in
    let L = lines_text lines in
    let e3 : text_of h2.0.1 ≡ M ++ L = t3.joined ∙ ap (λ t. M ++ t) (t4 ∙ ap (λ t. L ++ t) last.none ∙ append-nil L) in
    let e2 : text_of h1.0.1 ≡ B ++ (M ++ L) = t2.joined ∙ ap (λ l. as_line l ++ text_of h2.0.1) (is.takes dims t2.line claim t2.is) ∙ ap (λ t. B ++ t) e3 in
    let e1 : text_of p1 ≡ A ++ (B ++ (M ++ L)) = t1.joined ∙ ap (λ l. as_line l ++ text_of h1.0.1) (header_takes form.header t1.line h1.0.0 t1.is) ∙ ap (λ t. A ++ t) e2 in
    record {
      claim = claim;
      lists = t3.lists;
      lines = lines;
      many = t3.many;
      is = sym (lines_joined text) ∙ e1 ∙ sym (text_is form claim t3.lists lines);
      same = last.same;
      tree = trees_whole 1 t3.rest.number t3.rest.lines t3.rest.left h4.0 h4.1;
    }
