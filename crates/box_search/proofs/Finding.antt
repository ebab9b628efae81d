-- The steps of a search, as the code takes them.
use Rattle.std.proofs.Common.{◌≡◌, ◌+◌, ◌*◌, ◌≤◌, min, ℕ, List, [], ◌∷◌, ◌++◌, Bool, true, false, length, set, if◌then◌else◌, length-append, ◌<◌, inl, inr, refl, sym, ap, subst, ◌∙◌, arith, ◌==◌}
use Rattle.std.specs.Prelude.{Option, Some, None, is_some}
use Rattle.std.specs.BTreeMap.{BTreeMap, btree_map_len, is_at}
use Rattle.std.specs.Map.{lookup}
use Rattle.std.specs.Ordering.{is_eq}
use Rattle.std.proofs.lemmas.Bool.{false≢true}
use Rattle.std.proofs.lemmas.List.{length-set}
use Rattle.box_specs.specs.declared.certificate.CertLine.{CertLine}
use Rattle.box_specs.specs.declared.certificate.CertLine.TheVariants.{Dear}
use Rattle.box_specs.specs.Canonical.{IsPart, is_judged, line_of, lines}
use Rattle.box_specs.specs.Judgements.{is_open, is_passing, is_undecided}
use Rattle.box_specs.specs.Landscape.{IsLawful, IsSound, Land, is_final, judgement}
use Rattle.box_specs.specs.Span.{IsInside, IsWithin, Span}
use Rattle.box_specs.specs.Splits.{cut_of, lower_half, upper_half}
use Rattle.box_specs.proofs.Spans.{within_inside}
use Rattle.box_specs.specs.Tree.{Spot, Tree, count, fork, leaf, rank, root, spot_cmp, spot_of, tree_of}
use Rattle.box_specs.specs.Validity.{is_pass_line, is_undecided_line}
use Rattle.box_search.specs.Answers.{IsShown, halves_by, next_recipes}
use Rattle.box_specs.proofs.Tests.{less_unless}
use Rattle.box_search.specs.Found.{IsEnd, need_for}
use Rattle.box_search.specs.declared.found.End.{End}
use Rattle.box_search.specs.declared.found.End.TheVariants.{Exhausted, Stopped}
use Rattle.box_search.specs.State.{State, done_in, is_done, with_entry, without}
use Rattle.box_search.specs.Frontier.{Going, IsAhead, IsFirst, halves_of, lower_of, waits_in, with_hand, with_upper}
use Rattle.box_search.specs.Nodes.{Arena, blank, node_at, part_of, parts, write_at}
use Rattle.box_search.specs.Places.{at, place, place_cmp, spot}
use Rattle.box_search.specs.declared.frontier.Frontier.{Frontier}
use Rattle.box_search.specs.declared.frontier.Halves.{Halves}
use Rattle.box_search.specs.Waiting.{AllHeld, IsHeld, WaitingBox, box_of, seen, seen_hand}
use Rattle.box_search.specs.declared.nodes.Node.{Node}
use Rattle.box_search.specs.declared.place.Place.{Place}
use Rattle.box_search.specs.declared.waiting.Waiting.{Waiting}
use Rattle.box_search.proofs.Arenas.{added, apart, entry_here, entry_other, no_entry, shows, written}
use Rattle.box_search.proofs.Endings.{equal_itself, first_state, floor_need, found_taken, lower_ahead, need_enough, next_rank, none_is, none_need, ranked, recipes_of, turned_fork, turned_leaf, two_places, with_halves}
use Rattle.box_search.proofs.Judging.{corner_in_box, entry_cases, same_part, spot_same, step}
use Rattle.std.proofs.lemmas.Option.{none-some}
use Rattle.box_search.proofs.Orders.{precedes, precedes_swapped}
use Rattle.box_search.proofs.Ranks.{at_sound, at_tree, whole}
use Rattle.box_search.proofs.Seen.{ahead_seen, held_entry, seen_with_hand}
use Rattle.box_search.proofs.Trees.{Halved, count_le, halved, whole_root}
use Rattle.box_search.proofs.Turning.{open_final, passing_by, undecided_by}

-- a tree of which n boxes are judged has at most 2n + 1 lines
line_count : (l : Land) (j : ℕ → Span → Bool) (t : Tree) (k : ℕ) → length (lines l j k t) ≤ 2 * count j k t + 1
line_count l j (leaf b) k = omega arith
line_count l j (fork b s t) k = go (line_count l j s (k + 1)) (line_count l j t (k + 1)) (j k b) where
  go : length (lines l j (k + 1) s) ≤ 2 * count j (k + 1) s + 1 → length (lines l j (k + 1) t) ≤ 2 * count j (k + 1) t + 1 → (c : Bool)
      → length (if c then line_of l b ∷ lines l j (k + 1) s ++ lines l j (k + 1) t else Dear ∷ []) ≤ 2 * ((if c then 1 else 0) + (count j (k + 1) s + count j (k + 1) t)) + 1
  go low high true =
      let both = length-append (lines l j (k + 1) s) (lines l j (k + 1) t) in
      omega (arith, low, high, both)
  go low high false = omega arith

-- a map of boxes with nodes, and the same without the nodes
is_there : (o : Option WaitingBox) (b : Span) → part_of o ≡ Some b → is_some o ≡ true
is_there None b h = absurd (none-some b h)
is_there (Some w) b h = refl

parts_entry : (q : Spot) (w : WaitingBox) (f : Spot → Option WaitingBox) → parts (with_entry q w f) ≡ with_entry q w.part (parts f)
parts_entry q w f = λ i z. go z (is_eq (spot_cmp q z)) i where
  go : (z : Spot) (c : Bool) → part_of (if c then Some w else f z) ≡ (if c then Some w.part else part_of (f z))
  go z true = refl
  go z false = refl

parts_without : (q : Spot) (f : Spot → Option WaitingBox) → parts (without q f) ≡ without q (parts f)
parts_without q f = λ i z. go z (is_eq (spot_cmp q z)) i where
  go : (z : Spot) (c : Bool) → part_of (if c then None else f z) ≡ (if c then None else part_of (f z))
  go z true = refl
  go z false = refl

module _ (l : Land) (d : ℕ) (b : Span) where
  -- the halves of a box that is split: the lower one is the next in hand, the upper one joins the
  -- others
  abbrev lower_span : Bool → Option (Place × Span)
  lower_span open_ = if open_ then Some (place (spot_of l (d + 1) (lower_half b (cut_of b))), lower_half b (cut_of b)) else None

  abbrev upper_span : Bool → (Spot → Option Span) → Spot → Option Span
  upper_span open_ f = if open_ then with_entry (spot_of l (d + 1) (upper_half b (cut_of b))) (upper_half b (cut_of b)) f else f

module _ (l : Land) (lawful : IsLawful l) where
  pub found_of : (m : Spot → Option WaitingBox) (g : Spot → Option CertLine) (last : Option Spot) (n : ℕ) (matched listed : List (List ℕ)) (wanted budget : ℕ) (end : End) (nodes : List Node)
      → State l (parts m) g last n matched listed → Arena l m g nodes → length nodes ≤ 2 * n + 1 → n ≡ min (need_for l wanted) budget → IsEnd l wanted budget end (length matched)
      → length matched ≤ wanted → IsShown l wanted budget end matched listed n nodes
  found_of m g last n matched listed wanted budget end nodes s a few e c most = record {
    found = record {
      judged = e;
      ended = c;
      tree_is = refl;
      first = found_taken l lawful (parts m) g last n matched listed s;
      few = most;
      passing = recipes_of l lawful (parts m) g last n matched listed s is_pass_line refl matched s.passing;
      undecided = recipes_of l lawful (parts m) g last n matched listed s is_undecided_line refl listed s.undecided;
    };
    shown = shows l m g nodes a n
        (λ d u i. s.written d u i ∙ ap (λ b. if b then Some (line_of l (root u)) else None) (sym (ranked l lawful (parts m) g last n matched listed s d u i)))
        (tree_of l) 0 0 (whole l lawful) (λ d u i. i) (subst (λ b. a.ix (spot_of l 0 b) ≡ Some 0) (sym (whole_root l)) a.top);
    nodes_few = few;
    small = record {
      few = s.undecided.short;
      lines =
          let lines_ = line_count l (is_judged l n) (tree_of l) 0 in
          let same = count_le l (is_judged l n) (done_in l last) (tree_of l) 0 (λ d u i x. sym (ranked l lawful (parts m) g last n matched listed s d u i) ∙ x) in
          omega (arith, lines_, same, s.counted);
    };
  }

  -- where a search stands once a box is judged: the map and the box in hand
  pub record StateAfter (hand : Option (Place × Span)) (f : Spot → Option Span) (g : Spot → Option CertLine) (q : Spot) (n : ℕ) (matched listed : List (List ℕ)) : Type 0 where
    pub state : State l (with_hand hand f) g (Some q) n matched listed
    pub ahead : IsAhead hand f

  core : (f : Spot → Option Span) (g : Spot → Option CertLine) (last : Option Spot) (n : ℕ) (matched listed : List (List ℕ)) (d : ℕ) (u : Tree)
      → State l f g last n matched listed → IsPart l (tree_of l) 0 d u → f (spot_of l d (root u)) ≡ Some (root u) → ((z : Spot) (b : Span) → f z ≡ Some b → precedes z (spot_of l d (root u)) ≡ false)
      → StateAfter (lower_span l d (root u) (is_open (judgement l (root u)))) (upper_span l d (root u) (is_open (judgement l (root u))) (without (spot_of l d (root u)) f))
      (with_entry (spot_of l d (root u)) (line_of l (root u)) g) (spot_of l d (root u)) (n + 1) (next_recipes (is_passing (judgement l (root u))) (root u) matched) (next_recipes (is_undecided (judgement l (root u))) (root u) listed)
  core f g last n matched listed d u s i here least = go (is_open (judgement l (root u))) refl where
    G : Spot → Option CertLine
    G = with_entry (spot_of l d (root u)) (line_of l (root u)) g

    recast : (F : Spot → Option Span)
        → State l F G (Some (spot_of l d (root u))) (n + 1) (next_recipes (is_pass_line (line_of l (root u))) (root u) matched) (next_recipes (is_undecided_line (line_of l (root u))) (root u) listed)
        → State l F G (Some (spot_of l d (root u))) (n + 1) (next_recipes (is_passing (judgement l (root u))) (root u) matched) (next_recipes (is_undecided (judgement l (root u))) (root u) listed)
    recast F s2 =
        subst (λ t. State l F G (Some (spot_of l d (root u))) (n + 1) (next_recipes t (root u) matched) (next_recipes (is_undecided (judgement l (root u))) (root u) listed))
        (passing_by (judgement l (root u)) (cut_of (root u)))
        (subst (λ t. State l F G (Some (spot_of l d (root u))) (n + 1) (next_recipes (is_pass_line (line_of l (root u))) (root u) matched) (next_recipes t (root u) listed))
        (undecided_by (judgement l (root u)) (cut_of (root u))) s2)

    go : (t : Bool) → is_open (judgement l (root u)) ≡ t
        → StateAfter (lower_span l d (root u) t) (upper_span l d (root u) t (without (spot_of l d (root u)) f)) G (spot_of l d (root u)) (n + 1) (next_recipes (is_passing (judgement l (root u))) (root u) matched) (next_recipes (is_undecided (judgement l (root u))) (root u) listed)
    go true e =
        let final = open_final l (root u) true e in
        let turn = turned_fork l lawful f g last n matched listed d u (at_tree l lawful d u i) i final in
        record {
          state = recast (with_halves l d (root u) (without (spot_of l d (root u)) f))
              (step l lawful f (with_halves l d (root u) (without (spot_of l d (root u)) f)) g last n matched listed d u s here i least turn);
          ahead = lower_ahead l lawful f g last n matched listed d s (root u) (at_sound l lawful d u i) here least final;
        }
    go false e =
        let turn = turned_leaf l lawful f g last n matched listed d u (at_tree l lawful d u i) (open_final l (root u) false e) in
        record {
          state = recast (without (spot_of l d (root u)) f) (step l lawful f (without (spot_of l d (root u)) f) g last n matched listed d u s here i least turn);
          ahead = tt;
        }

  -- judging one more box leads from one state of a search to the next
  judged_at : (f : Spot → Option Span) (g : Spot → Option CertLine) (last : Option Spot) (n : ℕ) (matched listed : List (List ℕ)) (q : Spot) (c : Span)
      → State l f g last n matched listed → f q ≡ Some c → ((z : Spot) (e : Span) → f z ≡ Some e → precedes z q ≡ false)
      → StateAfter (lower_span l q.depth c (is_open (judgement l c))) (upper_span l q.depth c (is_open (judgement l c)) (without q f)) (with_entry q (line_of l c) g) q (n + 1) (next_recipes (is_passing (judgement l c)) c matched) (next_recipes (is_undecided (judgement l c)) c listed)
  judged_at f g last n matched listed q c s here early =
      let a = s.waits q c here in
      let P : Spot → Span → Type 0 = λ p b.
      f p ≡ Some b → ((z : Spot) (e : Span) → f z ≡ Some e → precedes z p ≡ false)
      → StateAfter (lower_span l p.depth b (is_open (judgement l b))) (upper_span l p.depth b (is_open (judgement l b)) (without p f)) (with_entry p (line_of l b) g) p (n + 1) (next_recipes (is_passing (judgement l b)) b matched) (next_recipes (is_undecided (judgement l b)) b listed) in
      let at_root : P (spot_of l q.depth (root a.part)) (root a.part) = λ x y. core f g last n matched listed q.depth a.part s a.at x y in
      let at_box : P q c = subst (λ p. P p c) (sym a.place) (subst (λ b. P (spot_of l q.depth b) b) a.box at_root) in
      at_box here early

  -- a box that waits has no line
  unwritten : (f : Spot → Option Span) (g : Spot → Option CertLine) (last : Option Spot) (n : ℕ) (matched listed : List (List ℕ)) (z : Spot) (b : Span)
      → State l f g last n matched listed → f z ≡ Some b → g z ≡ None
  unwritten f g last n matched listed z b s h =
      let a = s.waits z b h in
      let spots : z ≡ spot_of l z.depth (root a.part) = a.place ∙ (λ i. spot_of l z.depth (sym a.box i)) in
      let late : done_in l last z.depth (root a.part) ≡ false = subst (λ y. is_done last y ≡ false) spots (s.later z b h) in
      ap g spots ∙ s.written z.depth a.part a.at ∙ ap (λ c. if c then Some (line_of l (root a.part)) else None) late

  -- a box that waits and has a recipe of another at its place is that one
  other_place : (f : Spot → Option Span) (g : Spot → Option CertLine) (last : Option Spot) (n : ℕ) (matched listed : List (List ℕ)) (q z : Spot) (b c : Span)
      → State l f g last n matched listed → f q ≡ Some b → f z ≡ Some c → IsWithin z.key.steps b → z ≡ q
  other_place f g last n matched listed q z b c s here h w =
      let a = s.waits z c h in
      let corner : z.key.steps ≡ c.lo = ap (λ (y : Spot). y.key.steps) a.place in
      let sound_c = subst (IsSound l) a.box (at_sound l lawful z.depth a.part a.at) in
      s.disjoint z q c b c.lo h here (corner_in_box l c sound_c) (subst (λ r. IsWithin r b) corner w)

  -- where a search stands once a box is judged, with the nodes
  pub record Moved (hand : Option (Place × WaitingBox)) (m : Spot → Option WaitingBox) (g : Spot → Option CertLine) (nodes : List Node) (q : Spot) (n : ℕ) (matched listed : List (List ℕ)) : Type 0 where
    pub state : State l (parts (with_hand hand m)) g (Some q) n matched listed
    pub ahead : IsAhead hand m
    pub arena : Arena l (with_hand hand m) g nodes
    pub few : length nodes ≤ 2 * n + 1

  module _ (m : Spot → Option WaitingBox) (g : Spot → Option CertLine) (last : Option Spot) (n : ℕ) (matched listed : List (List ℕ)) (ns : List Node) (q : Spot) (w : WaitingBox)
      (s : State l (parts m) g last n matched listed) (a : Arena l m g ns) (few : length ns ≤ 2 * n + 1) (here : m q ≡ Some w) where
    abbrev Part : Span
    Part = w.part

    abbrev Low : Span
    Low = lower_half Part (cut_of Part)

    abbrev High : Span
    High = upper_half Part (cut_of Part)

    abbrev LowAt : Spot
    LowAt = spot_of l (q.depth + 1) Low

    abbrev HighAt : Spot
    HighAt = spot_of l (q.depth + 1) High

    abbrev WaitsLow : WaitingBox
    WaitsLow = record { part = Low; node = length ns }

    abbrev WaitsHigh : WaitingBox
    WaitsHigh = record { part = High; node = length ns + 1 }

    part_here : parts m q ≡ Some Part
    part_here = ap part_of here

    -- a part of the tree at this place is this box
    own_box : (e : ℕ) (v : Tree) → IsPart l (tree_of l) 0 e v → q ≡ spot_of l e (root v) → root v ≡ Part
    own_box e v i x =
        let b = s.waits q Part part_here in
        let depth : q.depth ≡ e = ap (λ (z : Spot). z.depth) x in
        let corner : (root b.part).lo ≡ (root v).lo = ap (λ c. c.lo) b.box ∙ sym (ap (λ (z : Spot). z.key.steps) b.place) ∙ ap (λ (z : Spot). z.key.steps) x in
        ap root (sym (same_part l (tree_of l) 0 e b.part v (whole l lawful) (subst (λ k. IsPart l (tree_of l) 0 k b.part) depth b.at) i corner)) ∙ b.box

    deeper : (b : Span) → q ≡ spot_of l (q.depth + 1) b → ⊥
    deeper b x = let e : q.depth ≡ q.depth + 1 = ap (λ (z : Spot). z.depth) x in omega (arith, e)

    -- a half is at a place of its own
    half_free : (b : Span) → IsSound l b → IsInside b Part → m (spot_of l (q.depth + 1) b) ≡ None
    half_free b sound inside = go (m (spot_of l (q.depth + 1) b)) refl where
      go : (o : Option WaitingBox) → m (spot_of l (q.depth + 1) b) ≡ o → o ≡ None
      go None x = refl
      go (Some v) x = absurd (deeper b (sym (other_place (parts m) g last n matched listed q (spot_of l (q.depth + 1) b) Part v.part s part_here (ap part_of x)
          (within_inside b.lo b Part (corner_in_box l b sound) inside))))

    sound_part : IsSound l Part
    sound_part =
        let b = s.waits q Part part_here in
        subst (IsSound l) b.box (at_sound l lawful q.depth b.part b.at)

    arena_leaf : (x : CertLine) → is_final l Part ≡ true → Arena l (without q m) (with_entry q x g) (set ns w.node (record { line = x; next = length ns }))
    arena_leaf x final = written l m g ns a q w x (length ns) here (unwritten (parts m) g last n matched listed q Part s part_here)
        (λ e v i f y. absurd (false≢true (sym f ∙ ap (is_final l) (own_box e v i y) ∙ final)))

    module _ (x : CertLine) (final : is_final l Part ≡ false) (low_none : g LowAt ≡ None) (high_none : g HighAt ≡ None) where
      two : Halved l Part
      two = halved l Part sound_part final

      places : is_eq (spot_cmp LowAt HighAt) ≡ false
      places = two_places l (q.depth + 1) Part sound_part final

      abbrev M1 : Spot → Option WaitingBox
      M1 = with_entry LowAt WaitsLow m

      one_more : length (ns ++ blank ∷ []) ≡ length ns + 1
      one_more = length-append ns (blank ∷ [])

      arena_low : Arena l M1 g (ns ++ blank ∷ [])
      arena_low = added l m g ns a LowAt Low (half_free Low two.lower two.lower_in) low_none

      arena_high : Arena l (with_entry HighAt WaitsHigh M1) g ((ns ++ blank ∷ []) ++ blank ∷ [])
      arena_high = subst (λ k. Arena l (with_entry HighAt (record { part = High; node = k }) M1) g ((ns ++ blank ∷ []) ++ blank ∷ [])) one_more
          (added l M1 g (ns ++ blank ∷ []) arena_low HighAt High (entry_other LowAt HighAt WaitsLow m places ∙ half_free High two.upper two.upper_in) high_none)

      low_in : with_entry HighAt WaitsHigh M1 LowAt ≡ Some WaitsLow
      low_in = entry_other HighAt LowAt WaitsHigh M1 (apart HighAt LowAt (λ e. false≢true (sym places ∙ ap (λ z. is_eq (spot_cmp LowAt z)) e ∙ equal_itself LowAt))) ∙ entry_here LowAt WaitsLow m

      here_in : with_entry HighAt WaitsHigh M1 q ≡ Some w
      here_in =
          entry_other HighAt q WaitsHigh M1 (apart HighAt q (λ e. deeper High (sym e))) ∙ entry_other LowAt q WaitsLow m (apart LowAt q (λ e. deeper Low (sym e))) ∙ here

      frontier : without q (with_entry HighAt WaitsHigh M1) ≡ with_entry LowAt WaitsLow (with_entry HighAt WaitsHigh (without q m))
      frontier = λ i z. at_place z i where
        at_place : (z : Spot) → without q (with_entry HighAt WaitsHigh M1) z ≡ with_entry LowAt WaitsLow (with_entry HighAt WaitsHigh (without q m)) z
        at_place z = go (is_eq (spot_cmp q z)) (is_eq (spot_cmp HighAt z)) (is_eq (spot_cmp LowAt z)) refl refl refl where
          go : (r s t : Bool) → is_eq (spot_cmp q z) ≡ r → is_eq (spot_cmp HighAt z) ≡ s → is_eq (spot_cmp LowAt z) ≡ t
              → (if r then None else if s then Some WaitsHigh else if t then Some WaitsLow else m z) ≡ (if t then Some WaitsLow else if s then Some WaitsHigh else if r then None else m z)
          go true true t e f h = absurd (deeper High (spot_same q z e ∙ sym (spot_same HighAt z f)))
          go true false true e f h = absurd (deeper Low (spot_same q z e ∙ sym (spot_same LowAt z h)))
          go true false false e f h = refl
          go false true true e f h = absurd (false≢true (sym places ∙ ap (λ y. is_eq (spot_cmp LowAt y)) (spot_same HighAt z f ∙ sym (spot_same LowAt z h)) ∙ equal_itself LowAt))
          go false true false e f h = refl
          go false false t e f h = refl

      arena_fork : Arena l (with_entry LowAt WaitsLow (with_entry HighAt WaitsHigh (without q m))) (with_entry q x g)
          (set ((ns ++ blank ∷ []) ++ blank ∷ []) w.node (record { line = x; next = length ns }))
      arena_fork = subst (λ f. Arena l f (with_entry q x g) (set ((ns ++ blank ∷ []) ++ blank ∷ []) w.node (record { line = x; next = length ns }))) frontier
          (written l (with_entry HighAt WaitsHigh M1) g ((ns ++ blank ∷ []) ++ blank ∷ []) arena_high q w x (length ns) here_in (unwritten (parts m) g last n matched listed q Part s part_here) own) where
            low_ix : arena_high.ix LowAt ≡ Some (length ns)
            low_ix = (arena_high.waits LowAt WaitsLow low_in).0

            high_ix : arena_high.ix HighAt ≡ Some (length ns + 1)
            high_ix = (arena_high.waits HighAt WaitsHigh (entry_here HighAt WaitsHigh M1)).0

            own : (e : ℕ) (v : Tree) → IsPart l (tree_of l) 0 e v → is_final l (root v) ≡ false → q ≡ spot_of l e (root v)
                → (arena_high.ix (spot_of l (e + 1) (lower_half (root v) (cut_of (root v)))) ≡ Some (length ns))
                × (arena_high.ix (spot_of l (e + 1) (upper_half (root v) (cut_of (root v)))) ≡ Some (length ns + 1))
            own e v i f y =
                let depth : q.depth ≡ e = ap (λ (z : Spot). z.depth) y in
                let box : Part ≡ root v = sym (own_box e v i y) in
                subst (λ k. (arena_high.ix (spot_of l (k + 1) (lower_half (root v) (cut_of (root v)))) ≡ Some (length ns))
                × (arena_high.ix (spot_of l (k + 1) (upper_half (root v) (cut_of (root v)))) ≡ Some (length ns + 1))) depth
                (subst (λ b. (arena_high.ix (spot_of l (q.depth + 1) (lower_half b (cut_of b))) ≡ Some (length ns))
                × (arena_high.ix (spot_of l (q.depth + 1) (upper_half b (cut_of b))) ≡ Some (length ns + 1))) box (low_ix, high_ix))

    -- the boxes that wait and the nodes, once this box is judged
    moved : (t : Bool) → is_open (judgement l Part) ≡ t → (matched2 listed2 : List (List ℕ))
        → StateAfter (lower_span l q.depth Part t) (upper_span l q.depth Part t (without q (parts m))) (with_entry q (line_of l Part) g) q (n + 1) matched2 listed2
        → Moved (lower_of (if t then Some (halves_of l q.depth Part (length ns)) else None)) (with_upper (if t then Some (halves_of l q.depth Part (length ns)) else None) (without q m))
        (with_entry q (line_of l Part) g) (write_at w.node (line_of l Part) t ns) q (n + 1) matched2 listed2
    moved false e matched2 listed2 after = record {
      state = subst (λ f. State l f (with_entry q (line_of l Part) g) (Some q) (n + 1) matched2 listed2) (sym (parts_without q m)) after.state;
      ahead = tt;
      arena = arena_leaf (line_of l Part) (open_final l Part false e);
      few = let long = length-set ns w.node (record { line = line_of l Part; next = length ns }) in omega (arith, few, long);
    }
    moved true e matched2 listed2 after = record {
      state = subst (λ f. State l f (with_entry q (line_of l Part) g) (Some q) (n + 1) matched2 listed2) (sym spans) after.state;
      ahead = λ z b h. after.ahead z b.part (sym (ap (λ f. f z) upper_spans) ∙ ap part_of h);
      arena = arena_fork (line_of l Part) final
          (no_entry q (line_of l Part) g LowAt (unwritten F2 G2 (Some q) (n + 1) matched2 listed2 LowAt Low after.state (entry_here LowAt Low F1))).1
          (no_entry q (line_of l Part) g HighAt (unwritten F2 G2 (Some q) (n + 1) matched2 listed2 HighAt High after.state
          (entry_other LowAt HighAt Low F1 (two_places l (q.depth + 1) Part sound_part final) ∙ entry_here HighAt High (without q (parts m))))).1;
      few =
          let one = length-append ns (blank ∷ []) in
          let two_ = length-append (ns ++ blank ∷ []) (blank ∷ []) in
          let long = length-set ((ns ++ blank ∷ []) ++ blank ∷ []) w.node (record { line = line_of l Part; next = length ns }) in
          omega (arith, few, long, one, two_);
    } where
      F1 : Spot → Option Span
      F1 = with_entry HighAt High (without q (parts m))

      F2 : Spot → Option Span
      F2 = with_entry LowAt Low F1

      G2 : Spot → Option CertLine
      G2 = with_entry q (line_of l Part) g

      final : is_final l Part ≡ false
      final = open_final l Part true e

      upper_spans : parts (with_entry HighAt WaitsHigh (without q m)) ≡ with_entry HighAt High (without q (parts m))
      upper_spans = parts_entry HighAt WaitsHigh (without q m) ∙ ap (λ f. with_entry HighAt High f) (parts_without q m)

      spans : parts (with_entry LowAt WaitsLow (with_entry HighAt WaitsHigh (without q m))) ≡ with_entry LowAt Low (with_entry HighAt High (without q (parts m)))
      spans = parts_entry LowAt WaitsLow (with_entry HighAt WaitsHigh (without q m)) ∙ ap (λ f. with_entry LowAt Low f) upper_spans

  pub goes_on : (m m1 m2 : Spot → Option WaitingBox) (hand : Option (Place × WaitingBox)) (g : Spot → Option CertLine) (last : Option Spot) (n : ℕ) (matched matched2 listed listed2 : List (List ℕ)) (ns ns2 : List Node) (q : Spot) (w : WaitingBox)
      → State l (parts m) g last n matched listed → Arena l m g ns → length ns ≤ 2 * n + 1 → IsFirst m q w m1
      → hand ≡ lower_of (halves_by l q.depth w.part (length ns) (judgement l w.part)) → ((z : Spot) → m2 z ≡ with_upper (halves_by l q.depth w.part (length ns) (judgement l w.part)) m1 z)
      → ns2 ≡ write_at w.node (line_of l w.part) (is_open (judgement l w.part)) ns
      → matched2 ≡ next_recipes (is_passing (judgement l w.part)) w.part matched → listed2 ≡ next_recipes (is_undecided (judgement l w.part)) w.part listed
      → Moved hand m2 (with_entry q (line_of l w.part) g) ns2 q (n + 1) matched2 listed2
  goes_on m m1 m2 hand g last n matched matched2 listed listed2 ns ns2 q w s a few h lower upper nodes passed list =
      let g2 = with_entry q (line_of l w.part) g in
      let H : Option (Halves WaitingBox) = halves_by l q.depth w.part (length ns) (judgement l w.part) in
      let taken : m1 ≡ without q m = λ i z. h.taken z i in
      let up : m2 ≡ with_upper H (without q m) = (λ i z. upper z i) ∙ ap (λ f. with_upper H f) taken in
      let early = λ (z : Spot) (b : Span) (x : parts m z ≡ Some b). precedes_swapped z q ∙ h.least z (is_there (m z) b x) in
      let after = judged_at (parts m) g last n matched listed q w.part s (ap part_of h.waits) early in
      let Matched : List (List ℕ) = next_recipes (is_passing (judgement l w.part)) w.part matched in
      let Listed : List (List ℕ) = next_recipes (is_undecided (judgement l w.part)) w.part listed in
      let done = moved m g last n matched listed ns q w s a few h.waits (is_open (judgement l w.part)) refl Matched Listed after in
      subst (λ x. Moved x m2 g2 ns2 q (n + 1) matched2 listed2) (sym lower)
      (subst (λ x. Moved (lower_of H) x g2 ns2 q (n + 1) matched2 listed2) (sym up)
      (subst (λ x. Moved (lower_of H) (with_upper H (without q m)) g2 x q (n + 1) matched2 listed2) (sym nodes)
      (subst (λ x. Moved (lower_of H) (with_upper H (without q m)) g2 (write_at w.node (line_of l w.part) (is_open (judgement l w.part)) ns) q (n + 1) x listed2) (sym passed)
      (subst (λ x. Moved (lower_of H) (with_upper H (without q m)) g2 (write_at w.node (line_of l w.part) (is_open (judgement l w.part)) ns) q (n + 1) Matched x) (sym list) done))))

  -- so many recipes are found once a box is judged: that of the box is the last of them
  joined : (c : Span) (wanted : ℕ) (matched matched2 : List (List ℕ)) → matched2 ≡ next_recipes (is_passing (judgement l c)) c matched → length matched < wanted → length matched2 ≡ wanted
      → (is_pass_line (line_of l c) ≡ true) × (matched2 ≡ matched ++ c.lo ∷ [])
  joined c wanted matched matched2 e few many = go (is_passing (judgement l c)) refl e where
    go : (t : Bool) → is_passing (judgement l c) ≡ t → matched2 ≡ next_recipes t c matched → (is_pass_line (line_of l c) ≡ true) × (matched2 ≡ matched ++ c.lo ∷ [])
    go true p k = (passing_by (judgement l c) (cut_of c) ∙ p, k)
    go false p k = absurd (omega (arith, few, many, ap length k))

  -- fewer recipes than are wanted are found still
  pub still_fewer : (t : Bool) (c : Span) (matched matched2 : List (List ℕ)) (many wanted : ℕ) → matched2 ≡ next_recipes t c matched → length matched < wanted → length matched2 ≡ many
      → (many == wanted) ≡ false → length matched2 < wanted
  still_fewer true c matched matched2 many wanted e few m h =
      let one = length-append matched (c.lo ∷ []) in
      let less = less_unless many wanted h (omega (arith, few, m, one, ap length e)) in
      omega (arith, less, m)
  still_fewer false c matched matched2 many wanted e few m h = omega (arith, few, ap length e)

  -- and as many boxes are needed as are judged
  pub wins : (f f2 : Spot → Option Span) (g g2 : Spot → Option CertLine) (last : Option Spot) (n m : ℕ) (matched matched2 listed listed2 : List (List ℕ)) (q : Spot) (c : Span) (wanted : ℕ)
      → State l f g last n matched listed → f q ≡ Some c → State l f2 g2 (Some q) m matched2 listed2
      → matched2 ≡ next_recipes (is_passing (judgement l c)) c matched → length matched < wanted → length matched2 ≡ wanted → need_for l wanted ≡ m
  wins f f2 g g2 last n m matched matched2 listed listed2 q c wanted s here new e few many =
      let a = s.waits q c here in
      let j = joined c wanted matched matched2 e few many in
      let P : Spot → Span → Type 0 = λ p b. State l f2 g2 (Some p) m matched2 listed2 → is_pass_line (line_of l b) ≡ true → matched2 ≡ matched ++ b.lo ∷ [] → need_for l wanted ≡ m in
      let at_root : P (spot_of l q.depth (root a.part)) (root a.part) = λ x y z. need_enough l lawful f2 g2 m matched2 listed2 q.depth a.part x a.at y wanted matched z many in
      let at_box : P q c = subst (λ p. P p c) (sym a.place) (subst (λ b. P (spot_of l q.depth b) b) a.box at_root) in
      at_box new j.0 j.1

  -- a box that waits is a box inside the whole
  pub sound_at : (f : Spot → Option Span) (g : Spot → Option CertLine) (last : Option Spot) (n : ℕ) (matched listed : List (List ℕ)) (q : Spot) (c : Span)
      → State l f g last n matched listed → f q ≡ Some c → IsSound l c
  sound_at f g last n matched listed q c s here =
      let a = s.waits q c here in
      subst (IsSound l) a.box (at_sound l lawful q.depth a.part a.at)

module _ (l : Land) (lawful : IsLawful l) (m : Spot → Option WaitingBox) (g : Spot → Option CertLine) (last : Option Spot) (n : ℕ) (matched listed : List (List ℕ)) (wanted budget : ℕ) (nodes : List Node)
    (s : State l (parts m) g last n matched listed) (a : Arena l m g nodes) (few : length nodes ≤ 2 * n + 1) (fewer : length matched < wanted) where
  most : length matched ≤ wanted
  most = omega (arith, fewer)

  pub found_none : ((z : Spot) → m z ≡ None) → n ≤ budget → IsShown l wanted budget Exhausted matched listed n nodes
  found_none empty h =
      let bare = λ (z : Spot). ap part_of (empty z) in
      let all = none_need l lawful (parts m) g last n matched listed s wanted fewer bare in
      found_of l lawful m g last n matched listed wanted budget Exhausted nodes s a few (omega (arith, all, h))
      (omega (arith, all, h), none_is l lawful (parts m) g last n matched listed s wanted fewer bare) most

  pub found_floor : (q : Spot) (w : WaitingBox) (others : Spot → Option WaitingBox) → IsFirst m q w others → n ≡ budget → IsShown l wanted budget (Stopped q.key.cost) matched listed n nodes
  found_floor q w others h e =
      let early = λ (z : Spot) (b : Span) (x : parts m z ≡ Some b). precedes_swapped z q ∙ h.least z (is_there (m z) b x) in
      let here = ap part_of h.waits in
      let more = floor_need l lawful (parts m) g last n matched listed s wanted fewer q w.part here early in
      let b = s.waits q w.part here in
      let spots : q ≡ spot_of l q.depth (root b.part) = b.place ∙ (λ i. spot_of l q.depth (sym b.box i)) in
      let ranks : rank l (spot_of l q.depth (root b.part)) ≡ budget = subst (λ z. rank l z ≡ budget) spots (next_rank l lawful (parts m) g last n matched listed s wanted fewer q w.part here early ∙ e) in
      found_of l lawful m g last n matched listed wanted budget (Stopped q.key.cost) nodes s a few (omega (arith, more, e))
      (omega (arith, more, e), q.depth, b.part, b.at, ranks, ap (λ (z : Spot). z.key.cost) spots) most

-- a map with no entries has nothing at any place
pub empty_at : {X : Type 0} (m : BTreeMap Place X) → btree_map_len m ≡ 0 → (z : Spot) → at m z ≡ None
empty_at {X} m h z = go m.entries h where
  go : (es : List (Place × X)) → length es ≡ 0 → lookup (is_at (place_cmp (place z))) es ≡ None
  go [] e = refl
  go (x ∷ es) e = absurd (omega (arith, e))

-- at the start the box of all recipes waits, with the first node
first_arena : (l : Land) → Arena l (with_entry (spot_of l 0 l.top) (record { part = l.top; node = 0 }) (λ z. None)) (λ z. None) (blank ∷ [])
first_arena l = record {
  ix = with_entry (spot_of l 0 l.top) 0 (λ z. None);
  top = entry_here (spot_of l 0 l.top) 0 (λ z. None);
  one = λ z y i h k. elim (entry_cases (spot_of l 0 l.top) 0 (λ q. None) z i h) as (λ _. z ≡ y) [
    | inl p ↦ elim (entry_cases (spot_of l 0 l.top) 0 (λ q. None) y i k) as (λ _. z ≡ y) [ inl r ↦ sym p.0 ∙ r.0 | inr r ↦ absurd (none-some i r) ]
    | inr p ↦ absurd (none-some i p)
  ];
  there = λ z i h. elim (entry_cases (spot_of l 0 l.top) 0 (λ q. None) z i h) as (λ _. i < length (blank ∷ [])) [ inl p ↦ omega (arith, p.1) | inr p ↦ absurd (none-some i p) ];
  known = λ z h k. entry_other (spot_of l 0 l.top) z 0 (λ q. None) (no_entry (spot_of l 0 l.top) (record { part = l.top; node = 0 }) (λ q. None) z h).0;
  waits = λ z w h. elim (entry_cases (spot_of l 0 l.top) (record { part = l.top; node = 0 }) (λ q. None) z w h) as
      (λ _. (with_entry (spot_of l 0 l.top) 0 (λ q. None) z ≡ Some w.node) × ((node_at (blank ∷ []) w.node).line ≡ Dear)) [
        | inl p ↦ (
          subst (λ y. with_entry (spot_of l 0 l.top) 0 (λ q. None) y ≡ Some w.node) p.0 (entry_here (spot_of l 0 l.top) 0 (λ q. None) ∙ ap (λ (v : WaitingBox). Some v.node) p.1),
          subst (λ (v : WaitingBox). (node_at (blank ∷ []) v.node).line ≡ Dear) p.1 refl,
        )
        | inr p ↦ absurd (none-some w p)
      ];
  kept = λ z x h. absurd (none-some x h);
  links = λ e v i f x h k j. absurd (none-some x h);
}

-- a search goes on from what waits, where that is known without what is held for it
pub moves : {H : Type 0} (l : Land) (stands : H → Span → Type 0) (frontier : Frontier (Waiting H)) (g : Spot → Option CertLine) (nodes : List Node) (q : Spot) (n : ℕ) (matched listed : List (List ℕ))
    → State l (parts (with_hand (seen_hand frontier.hand) (seen (at frontier.map)))) g (Some q) n matched listed → IsAhead (seen_hand frontier.hand) (seen (at frontier.map))
    → Arena l (with_hand (seen_hand frontier.hand) (seen (at frontier.map))) g nodes → AllHeld stands (waits_in frontier) → length nodes ≤ 2 * n + 1 → Going l stands frontier nodes n matched listed
moves l stands frontier g nodes q n matched listed state ahead arena held few =
    let same = sym (seen_with_hand frontier.hand (at frontier.map)) in
    record {
      last = Some q;
      g = g;
      state = subst (λ m. State l (parts m) g (Some q) n matched listed) same state;
      ordered = ahead_seen frontier.hand (at frontier.map) ahead;
      arena = subst (λ m. Arena l m g nodes) same arena;
      held = held;
      few = few;
    }

pub begins : {H : Type 0} (l : Land) → IsLawful l → (stands : H → Span → Type 0) (frontier : Frontier (Waiting H)) (place_ : Place) (first : Waiting H) (nodes : List Node) (matched listed : List (List ℕ))
    → frontier.hand ≡ Some (place_, first) → place_ ≡ place (spot_of l 0 l.top) → box_of first ≡ record { part = l.top; node = 0 } → IsHeld stands first → ((z : Spot) → at frontier.map z ≡ None)
    → nodes ≡ blank ∷ [] → matched ≡ [] → listed ≡ [] → Going l stands frontier nodes 0 matched listed
begins {H} l lawful stands frontier place_ first nodes matched listed h there whole held empty k p e =
    let First : Place × WaitingBox = (place (spot_of l 0 l.top), record { part = l.top; node = 0 }) in
    let None_ : Spot → Option (Waiting H) = λ z. None in
    let M : at frontier.map ≡ None_ = λ i z. empty z i in
    let Waits : Spot → Option WaitingBox = with_hand (Some First) (λ z. None) in
    let raw : waits_in frontier ≡ with_hand (Some (place_, first)) None_ = λ i. with_hand (h i) (M i) in
    let all : seen (waits_in frontier) ≡ Waits = ap seen raw ∙ seen_with_hand (Some (place_, first)) None_ ∙ (λ i. with_hand (Some (there i, whole i)) (λ z. None)) in
    record {
      last = None;
      g = λ z. None;
      state = subst (λ f. State l (parts f) (λ z. None) None 0 matched listed) (sym all) (subst (λ ms. State l (parts Waits) (λ z. None) None 0 ms listed) (sym p)
          (subst (λ rs. State l (parts Waits) (λ z. None) None 0 [] rs) (sym e)
          (subst (λ f. State l f (λ z. None) None 0 [] []) (sym (parts_entry (spot_of l 0 l.top) (record { part = l.top; node = 0 }) (λ z. None))) (first_state l lawful))));
      ordered = subst (λ x. IsAhead x (at frontier.map)) (sym h) (λ z b x. absurd (none-some b (sym (empty z) ∙ x)));
      arena = subst (λ f. Arena l f (λ z. None) nodes) (sym all) (subst (λ ns. Arena l Waits (λ z. None) ns) (sym k) (first_arena l));
      held = subst (AllHeld stands) (sym raw) (held_entry stands (spot place_) first None_ held (λ z w x. absurd (none-some w x)));
      few = omega (arith, ap length k);
    }
