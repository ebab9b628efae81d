-- The nodes of the boxes that wait and of those that are judged.
use Rattle.std.proofs.Common.{◌≡◌, ◌+◌, ◌<◌, ◌++◌, ℕ, zero, suc, List, [], ◌∷◌, Bool, true, false, length, get_or, set, if◌then◌else◌, length-append, refl, sym, ap, subst, ◌∙◌, inl, inr, arith}
use Rattle.std.specs.Prelude.{Option, Some, None}
use Rattle.std.specs.Ordering.{is_eq}
use Rattle.std.proofs.lemmas.Bool.{false≢true}
use Rattle.std.proofs.lemmas.List.{get_or-set_other, get_or-set_same, length-set}
use Rattle.std.proofs.lemmas.Option.{none-some}
use Rattle.box_specs.specs.declared.certificate.CertLine.{CertLine}
use Rattle.box_specs.specs.declared.certificate.CertLine.TheVariants.{Dear}
use Rattle.box_specs.specs.Canonical.{IsPart, is_judged, line_of}
use Rattle.box_specs.specs.Landscape.{Land, is_final}
use Rattle.box_specs.specs.Span.{Span}
use Rattle.box_specs.specs.Splits.{cut_of, lower_half, upper_half}
use Rattle.box_specs.specs.Tree.{Spot, Tree, fork, leaf, root, spot_cmp, spot_of, tree_of}
use Rattle.box_search.specs.State.{with_entry, without}
use Rattle.box_search.specs.Nodes.{Arena, Shows, blank, node_at}
use Rattle.box_search.specs.Trees.{IsSoundTree}
use Rattle.box_search.specs.Waiting.{WaitingBox}
use Rattle.box_search.specs.declared.nodes.Node.{Node}
use Rattle.box_search.proofs.Endings.{equal_itself}
use Rattle.box_search.proofs.Judging.{entry_cases, spot_same, without_cases}
use Rattle.box_specs.proofs.Tests.{some_same}

-- the entry of a map at its own place, and at others
pub entry_here : {X : Type 0} (q : Spot) (x : X) (f : Spot → Option X) → with_entry q x f q ≡ Some x
entry_here q x f = ap (λ c. if c then Some x else f q) (equal_itself q)

pub entry_other : {X : Type 0} (q z : Spot) (x : X) (f : Spot → Option X) → is_eq (spot_cmp q z) ≡ false → with_entry q x f z ≡ f z
entry_other q z x f h = ap (λ c. if c then Some x else f z) h

pub apart : (q z : Spot) → (q ≡ z → ⊥) → is_eq (spot_cmp q z) ≡ false
apart q z h = go (is_eq (spot_cmp q z)) refl where
  go : (c : Bool) → is_eq (spot_cmp q z) ≡ c → c ≡ false
  go true e = absurd (h (spot_same q z e))
  go false e = refl

-- a map that has nothing once an entry is put in has nothing before, and the place is another
pub no_entry : {X : Type 0} (q : Spot) (x : X) (f : Spot → Option X) (z : Spot) → with_entry q x f z ≡ None → (is_eq (spot_cmp q z) ≡ false) × (f z ≡ None)
no_entry q x f z h = go (is_eq (spot_cmp q z)) refl h where
  go : (c : Bool) → is_eq (spot_cmp q z) ≡ c → (if c then Some x else f z) ≡ None → (c ≡ false) × (f z ≡ None)
  go true e k = absurd (none-some x (sym k))
  go false e k = (refl, k)

last_at : (nodes : List Node) (i : ℕ) → i < length nodes → node_at (nodes ++ blank ∷ []) i ≡ node_at nodes i
last_at nodes i h = go nodes i h where
  go : (ns : List Node) (i : ℕ) → i < length ns → get_or (ns ++ blank ∷ []) i blank ≡ get_or ns i blank
  go [] i h = absurd (omega arith)
  go (n ∷ ns) zero h = refl
  go (n ∷ ns) (suc i) h = go ns i (omega arith)

new_at : (nodes : List Node) → node_at (nodes ++ blank ∷ []) (length nodes) ≡ blank
new_at [] = refl
new_at (n ∷ ns) = new_at ns

module _ (l : Land) (m : Spot → Option WaitingBox) (g : Spot → Option CertLine) (ns : List Node) (a : Arena l m g ns) where
  -- one more box waits, at a place that was not known, with a new node
  module _ (q : Spot) (b : Span) (none : m q ≡ None) (unwritten : g q ≡ None) where
    abbrev Fresh : WaitingBox
    Fresh = record { part = b; node = length ns }

    abbrev Ix : Spot → Option ℕ
    Ix = with_entry q (length ns) a.ix

    off : (z : Spot) (i : ℕ) → a.ix z ≡ Some i → is_eq (spot_cmp q z) ≡ false
    off z i h = apart q z (λ e. none-some i (sym (a.known q none unwritten) ∙ ap a.ix e ∙ h))

    still : (z : Spot) (i : ℕ) → a.ix z ≡ Some i → Ix z ≡ Some i
    still z i h = entry_other q z (length ns) a.ix (off z i h) ∙ h

    one : (z y : Spot) (i : ℕ) → Ix z ≡ Some i → Ix y ≡ Some i → z ≡ y
    one z y i h k = elim (entry_cases q (length ns) a.ix z i h) as (λ _. z ≡ y) [
      | inl x ↦ elim (entry_cases q (length ns) a.ix y i k) as (λ _. z ≡ y) [
        | inl w ↦ sym x.0 ∙ w.0
        | inr w ↦ absurd (late y i w x.1)
      ]
      | inr x ↦ elim (entry_cases q (length ns) a.ix y i k) as (λ _. z ≡ y) [
        | inl w ↦ absurd (late z i x w.1)
        | inr w ↦ a.one z y i x w
      ]
    ] where
      late : (z : Spot) (i : ℕ) → a.ix z ≡ Some i → length ns ≡ i → ⊥
      late z i h e = let t = a.there z i h in omega (arith, t, e)

    there : (z : Spot) (i : ℕ) → Ix z ≡ Some i → i < length (ns ++ blank ∷ [])
    there z i h =
        let long = length-append ns (blank ∷ []) in
        elim (entry_cases q (length ns) a.ix z i h) as (λ _. i < length (ns ++ blank ∷ [])) [
          | inl x ↦ omega (arith, long, x.1)
          | inr x ↦ let t = a.there z i x in omega (arith, long, t)
        ]

    pub added : Arena l (with_entry q Fresh m) g (ns ++ blank ∷ [])
    added = record {
      ix = Ix;
      top = still (spot_of l 0 l.top) 0 a.top;
      one = one;
      there = there;
      known = λ z h k.
          let x = no_entry q Fresh m z h in
          entry_other q z (length ns) a.ix x.0 ∙ a.known z x.1 k;
      waits = λ z w h. elim (entry_cases q Fresh m z w h) as (λ _. (Ix z ≡ Some w.node) × ((node_at (ns ++ blank ∷ []) w.node).line ≡ Dear)) [
        | inl x ↦ (
          subst (λ y. Ix y ≡ Some w.node) x.0 (entry_here q (length ns) a.ix ∙ ap (λ (v : WaitingBox). Some v.node) x.1),
          subst (λ (v : WaitingBox). (node_at (ns ++ blank ∷ []) v.node).line ≡ Dear) x.1 (ap (λ (n : Node). n.line) (new_at ns)),
        )
        | inr x ↦
            let old = a.waits z w x in
            (still z w.node old.0, ap (λ (n : Node). n.line) (last_at ns w.node (a.there z w.node old.0)) ∙ old.1)
      ];
      kept = λ z x h.
          let old = a.kept z x h in
          (old.0, still z old.0 old.1, ap (λ (n : Node). n.line) (last_at ns old.0 (a.there z old.0 old.1)) ∙ old.2);
      links = λ e v i f x h k j.
          let there_ : a.ix (spot_of l e (root v)) ≡ Some k = old_ix e v x h k j in
          let old = a.links e v i f x h k there_ in
          let same = last_at ns k (a.there (spot_of l e (root v)) k there_) in
          (still _ _ old.0 ∙ ap (λ (n : Node). Some n.next) (sym same), still _ _ old.1 ∙ ap (λ (n : Node). Some (n.next + 1)) (sym same));
    } where
      old_ix : (e : ℕ) (v : Tree) (x : CertLine) → g (spot_of l e (root v)) ≡ Some x → (k : ℕ) → Ix (spot_of l e (root v)) ≡ Some k → a.ix (spot_of l e (root v)) ≡ Some k
      old_ix e v x h k j =
          let old = a.kept (spot_of l e (root v)) x h in
          old.1 ∙ sym (still (spot_of l e (root v)) old.0 old.1) ∙ j

  -- a box that waits gets its line
  module _ (q : Spot) (w : WaitingBox) (x : CertLine) (next : ℕ) (here : m q ≡ Some w) (unwritten : g q ≡ None)
      (own : (e : ℕ) (v : Tree) → IsPart l (tree_of l) 0 e v → is_final l (root v) ≡ false → q ≡ spot_of l e (root v)
      → (a.ix (spot_of l (e + 1) (lower_half (root v) (cut_of (root v)))) ≡ Some next) × (a.ix (spot_of l (e + 1) (upper_half (root v) (cut_of (root v)))) ≡ Some (next + 1))) where
    abbrev Written : Node
    Written = record { line = x; next = next }

    own_ix : a.ix q ≡ Some w.node
    own_ix = (a.waits q w here).0

    own_there : w.node < length ns
    own_there = a.there q w.node own_ix

    same_at : node_at (set ns w.node Written) w.node ≡ Written
    same_at = get_or-set_same ns w.node Written blank own_there

    other_at : (z : Spot) (i : ℕ) → a.ix z ≡ Some i → (q ≡ z → ⊥) → node_at (set ns w.node Written) i ≡ node_at ns i
    other_at z i h away = get_or-set_other ns w.node i Written blank (λ e. away (a.one q z i (own_ix ∙ ap Some (sym e)) h))

    pub written : Arena l (without q m) (with_entry q x g) (set ns w.node Written)
    written = record {
      ix = a.ix;
      top = a.top;
      one = a.one;
      there = λ z i h. let t = a.there z i h in let long = length-set ns w.node Written in omega (arith, t, long);
      known = λ z h k.
          let y = no_entry q x g z k in
          a.known z (sym (ap (λ c. if c then None else m z) y.0) ∙ h) y.1;
      waits = λ z v h.
          let y = without_cases q m z v h in
          let old = a.waits z v y.1 in
          (old.0, ap (λ (n : Node). n.line) (other_at z v.node old.0 (λ e. false≢true (sym y.0 ∙ ap (λ r. is_eq (spot_cmp q r)) (sym e) ∙ equal_itself q))) ∙ old.1);
      kept = λ z y h. elim (entry_cases q x g z y h) as (λ _. (i : ℕ) × (a.ix z ≡ Some i) × ((node_at (set ns w.node Written) i).line ≡ y)) [
        | inl e ↦ (w.node, subst (λ r. a.ix r ≡ Some w.node) e.0 own_ix, ap (λ (n : Node). n.line) same_at ∙ e.1)
        | inr k ↦
            let old = a.kept z y k in
            (old.0, old.1, ap (λ (n : Node). n.line) (other_at z old.0 old.1 (λ e. none-some y (sym unwritten ∙ ap g e ∙ k))) ∙ old.2)
      ];
      links = λ e v i f y h k j. elim (entry_cases q x g (spot_of l e (root v)) y h) as
          (λ _. (a.ix (spot_of l (e + 1) (lower_half (root v) (cut_of (root v)))) ≡ Some (node_at (set ns w.node Written) k).next)
          × (a.ix (spot_of l (e + 1) (upper_half (root v) (cut_of (root v)))) ≡ Some ((node_at (set ns w.node Written) k).next + 1))) [
            | inl p ↦
                let mine = own e v i f p.0 in
                let number : w.node ≡ k = some_same w.node k (sym own_ix ∙ ap a.ix p.0 ∙ j) in
                let node : node_at (set ns w.node Written) k ≡ Written = ap (node_at (set ns w.node Written)) (sym number) ∙ same_at in
                (mine.0 ∙ ap (λ (n : Node). Some n.next) (sym node), mine.1 ∙ ap (λ (n : Node). Some (n.next + 1)) (sym node))
            | inr p ↦
                let old = a.links e v i f y p k j in
                let node = other_at (spot_of l e (root v)) k j (λ r. none-some y (sym unwritten ∙ ap g r ∙ p)) in
                (old.0 ∙ ap (λ (n : Node). Some n.next) (sym node), old.1 ∙ ap (λ (n : Node). Some (n.next + 1)) (sym node))
          ];
    }

  -- the nodes show the tree
  module _ (boxes : ℕ) (lined : (e : ℕ) (v : Tree) → IsPart l (tree_of l) 0 e v
      → g (spot_of l e (root v)) ≡ (if is_judged l boxes e (root v) then Some (line_of l (root v)) else None)) where
    line_is : (e : ℕ) (v : Tree) → IsPart l (tree_of l) 0 e v → (i : ℕ) → a.ix (spot_of l e (root v)) ≡ Some i
        → (node_at ns i).line ≡ (if is_judged l boxes e (root v) then line_of l (root v) else Dear)
    line_is e v p i h = go (is_judged l boxes e (root v)) (lined e v p) where
      unread : (o : Option WaitingBox) → m (spot_of l e (root v)) ≡ o → g (spot_of l e (root v)) ≡ None → (node_at ns i).line ≡ Dear
      unread None x k = absurd (none-some i (sym (a.known (spot_of l e (root v)) x k) ∙ h))
      unread (Some w) x k =
          let old = a.waits (spot_of l e (root v)) w x in
          ap (λ j. (node_at ns j).line) (some_same i w.node (sym h ∙ old.0)) ∙ old.1

      go : (c : Bool) → g (spot_of l e (root v)) ≡ (if c then Some (line_of l (root v)) else None) → (node_at ns i).line ≡ (if c then line_of l (root v) else Dear)
      go true k =
          let old = a.kept (spot_of l e (root v)) (line_of l (root v)) k in
          ap (λ j. (node_at ns j).line) (some_same i old.0 (sym h ∙ old.1)) ∙ old.2
      go false k = unread (m (spot_of l e (root v))) refl k

    pub shows : (t : Tree) (d i : ℕ) → IsSoundTree l t → ((e : ℕ) (v : Tree) → IsPart l t d e v → IsPart l (tree_of l) 0 e v) → a.ix (spot_of l d (root t)) ≡ Some i
        → Shows l ns (is_judged l boxes) d t i
    shows (leaf b) d i s p h = (a.there (spot_of l d b) i h, line_is d (leaf b) (p d (leaf b) (refl, refl)) i h)
    shows (fork b low high) d i s p h =
        halves (λ j h. shows low (d + 1) j s.4 (λ e v q. p e v (inr (inl q))) h) (λ j h. shows high (d + 1) j s.5 (λ e v q. p e v (inr (inr q))) h) where
          here : IsPart l (tree_of l) 0 d (fork b low high)
          here = p d (fork b low high) (inl (refl, refl))

          halves : ((j : ℕ) → a.ix (spot_of l (d + 1) (root low)) ≡ Some j → Shows l ns (is_judged l boxes) (d + 1) low j)
              → ((j : ℕ) → a.ix (spot_of l (d + 1) (root high)) ≡ Some j → Shows l ns (is_judged l boxes) (d + 1) high j) → Shows l ns (is_judged l boxes) d (fork b low high) i
          halves x y = (
            a.there (spot_of l d b) i h,
            line_is d (fork b low high) here i h,
            λ j.
                let k = a.links d (fork b low high) here s.1 (line_of l b) (lined d (fork b low high) here ∙ ap (λ c. if c then Some (line_of l b) else None) j) i h in (
                  x (node_at ns i).next (subst (λ c. a.ix (spot_of l (d + 1) c) ≡ Some (node_at ns i).next) (sym s.2) k.0),
                  y ((node_at ns i).next + 1) (subst (λ c. a.ix (spot_of l (d + 1) c) ≡ Some ((node_at ns i).next + 1)) (sym s.3) k.1),
                ),
          )
