-- Writing the lines of a tree.
use Rattle.std.proofs.Common.{◌≡◌, ◌+◌, ◌<◌, ◌≤◌, ℕ, List, [], ◌∷◌, ◌++◌, Bool, true, false, length, if◌then◌else◌, append_assoc, append-nil, length-append, refl, sym, ap, subst, ◌∙◌, arith}
use Rattle.std.proofs.lemmas.Bool.{false≢true}
use Rattle.box_specs.specs.declared.certificate.CertLine.{CertLine}
use Rattle.box_specs.specs.declared.certificate.CertLine.TheVariants.{Dear, Fail, Limit, Pass, Split, Undecided}
use Rattle.box_specs.specs.Canonical.{canonical_lines, is_judged, line_of, lines}
use Rattle.box_specs.specs.Landscape.{IsLawful, Land}
use Rattle.box_specs.specs.Span.{Span}
use Rattle.box_specs.specs.Tree.{Tree, fork, leaf, tree_of}
use Rattle.box_search.specs.Nodes.{Owes, Shows, below, node_at}
use Rattle.box_search.specs.Trees.{IsSoundTree, is_split_line}
use Rattle.box_search.specs.declared.nodes.Node.{Node}
use Rattle.box_search.proofs.Ranks.{whole}
use Rattle.box_search.proofs.Walks.{is_end, leaf_line, open_line}

end_not_split : (x : CertLine) → is_end x ≡ true → is_split_line x ≡ false
end_not_split (Split dye mid) h = absurd (false≢true h)
end_not_split (Limit k) h = refl
end_not_split (Fail j) h = refl
end_not_split Dear h = refl
end_not_split Undecided h = refl
end_not_split Pass h = refl

-- what is written in one step: the line of the first node, which exists as do those of its halves
pub record Step (l : Land) (ns : List Node) (judged : ℕ → Span → Bool) (i : ℕ) (is : List ℕ) (xs : List CertLine) : Type 0 where
  pub there : i < length ns
  pub halves : is_split_line (node_at ns i).line ≡ true → (node_at ns i).next < length ns
  pub rest : List CertLine
  pub first : xs ≡ (node_at ns i).line ∷ rest
  pub owes : Owes l ns judged (below (node_at ns i) is) rest

module _ (l : Land) (ns : List Node) (judged : ℕ → Span → Bool) where
  first_there : (d : ℕ) (t : Tree) (i : ℕ) → Shows l ns judged d t i → i < length ns
  first_there d (leaf b) i h = h.0
  first_there d (fork b s t) i h = h.0

  -- a node whose tree has only its line
  ended : (i : ℕ) (is : List ℕ) (xs ys : List CertLine) (x : CertLine) → i < length ns → (node_at ns i).line ≡ x → is_split_line x ≡ false → xs ≡ x ∷ ys → Owes l ns judged is ys
      → Step l ns judged i is xs
  ended i is xs ys x there line plain e more =
      let none : is_split_line (node_at ns i).line ≡ false = ap is_split_line line ∙ plain in
      record {
        there = there;
        halves = λ h. absurd (false≢true (sym none ∙ h));
        rest = ys;
        first = e ∙ ap (λ y. y ∷ ys) (sym line);
        owes = subst (λ c. Owes l ns judged (if c then (node_at ns i).next ∷ ((node_at ns i).next + 1) ∷ is else is) ys) (sym none) more;
      }

  steps_of : (d : ℕ) (t : Tree) (ys : List CertLine) (i : ℕ) (is : List ℕ) (xs : List CertLine) → IsSoundTree l t → Shows l ns judged d t i → xs ≡ lines l judged d t ++ ys → Owes l ns judged is ys
      → Step l ns judged i is xs
  steps_of d (leaf b) ys i is xs s h e more = ended i is xs ys (if judged d b then line_of l b else Dear) h.0 h.1 (go (judged d b)) e more where
    go : (c : Bool) → is_split_line (if c then line_of l b else Dear) ≡ false
    go true = end_not_split (line_of l b) (leaf_line l b s.1)
    go false = refl
  steps_of d (fork b low high) ys i is xs s h e more = go (judged d b) refl h.1 e where
    go : (c : Bool) → judged d b ≡ c → (node_at ns i).line ≡ (if c then line_of l b else Dear)
        → xs ≡ (if c then line_of l b ∷ lines l judged (d + 1) low ++ lines l judged (d + 1) high else Dear ∷ []) ++ ys → Step l ns judged i is xs
    go false j line k = ended i is xs ys Dear h.0 line refl k more
    go true j line k =
        let shown = h.2 j in
        let split : is_split_line (node_at ns i).line ≡ true = ap is_split_line (line ∙ open_line l b s.1) in
        let xs1 = lines l judged (d + 1) low in
        let xs2 = lines l judged (d + 1) high in
        record {
          there = h.0;
          halves = λ _. first_there (d + 1) low (node_at ns i).next shown.0;
          rest = xs1 ++ (xs2 ++ ys);
          first = k ∙ ap (λ zs. line_of l b ∷ zs) (append_assoc xs1 xs2 ys) ∙ ap (λ y. y ∷ (xs1 ++ (xs2 ++ ys))) (sym line);
          owes = subst (λ c. Owes l ns judged (if c then (node_at ns i).next ∷ ((node_at ns i).next + 1) ∷ is else is) (xs1 ++ (xs2 ++ ys))) (sym split)
              (d + 1, low, xs2 ++ ys, s.4, shown.0, refl, (d + 1, high, ys, s.5, shown.1, refl, more));
        }

  pub steps : (i : ℕ) (is : List ℕ) (xs : List CertLine) → Owes l ns judged (i ∷ is) xs → Step l ns judged i is xs
  steps i is xs o = steps_of o.0 o.1 o.2 i is xs o.3 o.4 o.5 o.6

-- what is written and what is still owed are the lines of the whole tree
pub record Left (l : Land) (ns : List Node) (boxes : ℕ) (is : List ℕ) (out : List CertLine) (turn : ℕ) : Type 0 where
  pub rest : List CertLine
  pub owes : Owes l ns (is_judged l boxes) is rest
  pub whole : out ++ rest ≡ canonical_lines l boxes
  pub many : length out ≡ turn

pub begins : (l : Land) → IsLawful l → (ns : List Node) (boxes : ℕ) (is : List ℕ) (out : List CertLine) → Shows l ns (is_judged l boxes) 0 (tree_of l) 0 → is ≡ 0 ∷ [] → out ≡ []
    → Left l ns boxes is out 0
begins l lawful ns boxes is out h e f =
    subst (λ ks. Left l ns boxes ks out 0) (sym e) (subst (λ ys. Left l ns boxes (0 ∷ []) ys 0) (sym f) (record {
      rest = canonical_lines l boxes;
      owes = (0, tree_of l, [], whole l lawful, h, sym (append-nil (canonical_lines l boxes)), refl);
      whole = refl;
      many = refl;
    }))

-- the first node of those that are left
pub next_of : (l : Land) (ns : List Node) (boxes : ℕ) (is : List ℕ) (out : List CertLine) (turn : ℕ) (i : ℕ) (rest : List ℕ) → (left : Left l ns boxes is out turn) → is ≡ i ∷ rest
    → Step l ns (is_judged l boxes) i rest left.rest
next_of l ns boxes is out turn i rest left e = steps l ns (is_judged l boxes) i rest left.rest (subst (λ ks. Owes l ns (is_judged l boxes) ks left.rest) e left.owes)

pub goes_on : (l : Land) (ns : List Node) (boxes : ℕ) (is now : List ℕ) (out new : List CertLine) (turn i : ℕ) (rest : List ℕ) → Left l ns boxes is out turn → is ≡ i ∷ rest
    → now ≡ below (node_at ns i) rest → new ≡ out ++ (node_at ns i).line ∷ [] → Left l ns boxes now new (turn + 1)
goes_on l ns boxes is now out new turn i rest left e f h =
    let step = next_of l ns boxes is out turn i rest left e in
    let line = (node_at ns i).line in
    record {
      rest = step.rest;
      owes = subst (λ ks. Owes l ns (is_judged l boxes) ks step.rest) (sym f) step.owes;
      whole = ap (λ ys. ys ++ step.rest) h ∙ append_assoc out (line ∷ []) step.rest ∙ ap (λ ys. out ++ ys) (sym step.first) ∙ left.whole;
      many = omega (arith, ap length h, length-append out (line ∷ []), left.many);
    }

pub none_left : (l : Land) (ns : List Node) (boxes : ℕ) (is : List ℕ) (out : List CertLine) (turn : ℕ) → Left l ns boxes is out turn → is ≡ [] → out ≡ canonical_lines l boxes
none_left l ns boxes is out turn left e =
    let empty : left.rest ≡ [] = subst (λ ks. Owes l ns (is_judged l boxes) ks left.rest) e left.owes in
    sym (append-nil out) ∙ ap (λ ys. out ++ ys) (sym empty) ∙ left.whole

-- after as many lines as the tree can have, nothing is left
pub all_written : (l : Land) (ns : List Node) (boxes : ℕ) (is : List ℕ) (out : List CertLine) (turn : ℕ) → Left l ns boxes is out turn → length (canonical_lines l boxes) ≤ turn
    → out ≡ canonical_lines l boxes
all_written l ns boxes is out turn left h =
    let long = length-append out left.rest in
    let all = ap length left.whole in
    sym (append-nil out) ∙ ap (λ ys. out ++ ys) (sym (empty left.rest (omega (arith, long, all, h, left.many)))) ∙ left.whole where
      empty : (ys : List CertLine) → length ys ≤ 0 → ys ≡ []
      empty [] k = refl
      empty (y ∷ ys) k = absurd (omega (arith, k))
