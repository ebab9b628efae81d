-- What a valid certificate means.
use Rattle.std.proofs.Common.{◌≡◌, ◌+◌, ◌<◌, ◌≤◌, ◌&&◌, ◌||◌, ℕ, zero, suc, List, [], ◌∷◌, Bool, true, false, length, get_or, if◌then◌else◌, refl, sym, ap, subst, ◌∙◌, ◌⊎◌, inl, inr, arith}
use Rattle.std.specs.Prelude.{None, is_some}
use Rattle.std.specs.List.{AllByRecursion}
use Rattle.std.specs.Cmp.{nat_cmp_is}
use Rattle.std.specs.Cmp.Lexicographic.{slice_cmp}
use Rattle.std.specs.Ordering.{is_lt, nat_cmp, ordering_then}
use Rattle.std.specs.declared.cmp.Ordering.{Ordering}
use Rattle.std.specs.declared.cmp.Ordering.TheVariants.{Equal, Greater, Less}
use Rattle.std.proofs.lemmas.Bool.{and_parts, cases_lt, false≢true}
use Rattle.std.proofs.lemmas.List.Elements.{All-contains, All-from_recursion}
use Rattle.price_grid.specs.Grid.{IsUpTo}
use Rattle.box_specs.specs.declared.certificate.CertLine.{CertLine}
use Rattle.box_specs.specs.declared.certificate.CertLine.TheVariants.{Dear, Fail, Limit, Pass, Split, Undecided}
use Rattle.box_specs.specs.declared.certificate.Claim.{Claim}
use Rattle.box_specs.specs.declared.certificate.Claim.TheVariants.{Floor, Match, NoMatch}
use Rattle.box_specs.specs.declared.certificate.Cutoff.{Cutoff}
use Rattle.box_specs.specs.declared.certificate.Cutoff.TheVariants.{After, From, Never}
use Rattle.box_specs.specs.Answer.{is_match, is_pass}
use Rattle.box_specs.specs.Landscape.{Grade, IsLawful, IsSound, Land, fails, first_from, is_admitted, is_before, is_shut, light_of, limit_of, passes, unsure}
use Rattle.box_specs.specs.Meaning.{IsKept, IsPassing, Means, MeansClaim, MeansFor}
use Rattle.box_specs.specs.Span.{IsWithin, Span, is_single, same_steps}
use Rattle.box_specs.specs.Splits.{CutAt, is_cut, lower_half, upper_half}
use Rattle.box_specs.specs.Validity.{AllHold, IsValid, IsValidFor, after, are_trees, corners, cutoff_of, first_failure, holds, is_dear, is_listed, is_pass_line, is_undecided_line, is_unsure, matched_of}
use Rattle.box_specs.proofs.Answers.{never_before_itself, not_before_trans, not_both_before, pass_of}
use Rattle.box_specs.proofs.Cuts.{halves_partition}
use Rattle.box_specs.proofs.Spans.{up_to_both}
use Rattle.cert_check.proofs.Exact.{valid_if}
use Rattle.cert_check.proofs.Order.{differs, same_is}
use Rattle.cert_check.proofs.Parts.{after_parts, corner_within, top_part, within_part}
use Rattle.box_specs.proofs.Tests.{at_most}

nat_not_less : (a b : ℕ) → b ≤ a → is_lt (nat_cmp a b) ≡ false
nat_not_less a b h = elim (cases_lt b a) as (λ _. is_lt (nat_cmp a b) ≡ false) [
  | inl less ↦ sym (ap is_lt (nat_cmp_is a b Greater less))
  | inr level ↦ sym (ap is_lt (nat_cmp_is a b Equal (omega arith)))
]

then_not_less : (o p : Ordering) → is_lt o ≡ false → is_lt p ≡ false → is_lt (ordering_then o p) ≡ false
then_not_less Less p h k = h
then_not_less Equal p h k = k
then_not_less Greater p h k = refl

list_not_less : (low steps : List ℕ) → IsUpTo low steps → is_lt (slice_cmp nat_cmp steps low) ≡ false
list_not_less [] [] h = refl
list_not_less [] (n ∷ steps) h = absurd h
list_not_less (m ∷ low) [] h = absurd h
list_not_less (m ∷ low) (n ∷ steps) h = then_not_less (nat_cmp n m) (slice_cmp nat_cmp steps low) (nat_not_less n m h.0) (list_not_less low steps h.1)

first_found : (l : Land) (test : ℕ → Bool) (first count k : ℕ) → first ≤ k → k < first + count → test k ≡ true → is_some (first_from l test first count) ≡ true
first_found l test first zero k h m e = absurd (omega arith)
first_found l test first (suc count) k h m e = go (test first) refl (λ le. first_found l test (first + 1) count k le (omega arith) e) where
  go : (t : Bool) → test first ≡ t → (first + 1 ≤ k → is_some (first_from l test (first + 1) count) ≡ true)
      → is_some (first_from l test first (suc count)) ≡ true
  go true s rest = rw s refl
  go false s rest = elim (cases_lt first k) as (λ _. is_some (first_from l test first (suc count)) ≡ true) [
    | inl less ↦ rw s (rest (omega arith))
    | inr level ↦
        let same : k ≡ first = omega arith in
        absurd (false≢true (sym s ∙ subst (λ j. test j ≡ true) same e))
  ]

-- each admitted recipe of a box that the cutoff keeps and that is not matched fails or is listed
pub record Settles (l : Land) (cutoff : Cutoff) (matched listed : List (List ℕ)) (b : Span) : Type 0 where
  pub each : (steps : List ℕ) → IsWithin steps b → is_admitted l steps ≡ true → IsKept l cutoff steps → is_listed matched steps ≡ false
      → (l.grade steps ≡ fails) ⊎ (is_listed listed steps ≡ true)

-- the two parts of a test that a line of one recipe passes
module _ (l : Land) where
  undecided_parts : (b : Span) (listed : Bool) → is_single b && (is_admitted l b.lo && is_unsure (l.grade b.lo)) && listed ≡ true
      → (is_single b ≡ true) × (is_admitted l b.lo && is_unsure (l.grade b.lo) ≡ true) × (listed ≡ true)
  undecided_parts b listed h =
      let outer = and_parts (is_single b && (is_admitted l b.lo && is_unsure (l.grade b.lo))) listed h in
      let inner = and_parts (is_single b) (is_admitted l b.lo && is_unsure (l.grade b.lo)) outer.0 in
      (inner.0, inner.1, outer.1)

  pass_parts : (b : Span) (listed : Bool) → is_single b && is_match l b.lo && listed ≡ true → (is_single b ≡ true) × (is_match l b.lo ≡ true) × (listed ≡ true)
  pass_parts b listed h =
      let outer = and_parts (is_single b && is_match l b.lo) listed h in
      let inner = and_parts (is_single b) (is_match l b.lo) outer.0 in
      (inner.0, inner.1, outer.1)

module _ (l : Land) (lawful : IsLawful l) where
  -- no recipe of a box comes before its lower corner
  not_before_corner : (b : Span) (steps : List ℕ) → IsSound l b → IsWithin steps b → is_before l steps b.lo ≡ false
  not_before_corner b steps p h =
      then_not_less (nat_cmp (l.cost steps) (l.cost b.lo)) (slice_cmp nat_cmp steps b.lo)
      (nat_not_less (l.cost steps) (l.cost b.lo) (lawful.grows b.lo steps (corner_within l b p) (within_part l b steps p h) h.0))
      (list_not_less b.lo steps h.0)

  limit_shuts : (k : ℕ) (b : Span) → l.excluded k b ≡ true → is_some (limit_of l b) ≡ true
  limit_shuts zero b h = absurd (false≢true (sym (lawful.no_limit 0 b (inl refl)) ∙ h))
  limit_shuts (suc k) b h = elim (cases_lt 5 (suc k)) as (λ _. is_some (limit_of l b) ≡ true) [
    | inl more ↦ absurd (false≢true (sym (lawful.no_limit (suc k) b (inr more)) ∙ h))
    | inr few ↦ first_found l (λ j. l.excluded j b) 1 5 (suc k) (omega arith) (omega arith) h
  ]

  light_shuts : (k : ℕ) (b : Span) → l.failing k b ≡ true → is_some (light_of l b) ≡ true
  light_shuts zero b h = absurd (false≢true (sym (lawful.no_light 0 b (inl refl)) ∙ h))
  light_shuts (suc k) b h = elim (cases_lt l.lights (suc k)) as (λ _. is_some (light_of l b) ≡ true) [
    | inl more ↦ absurd (false≢true (sym (lawful.no_light (suc k) b (inr more)) ∙ h))
    | inr few ↦ first_found l (λ j. l.failing j b) 1 l.lights (suc k) (omega arith) (omega arith) h
  ]

  or_left : (a b : Bool) → a ≡ true → a || b ≡ true
  or_left true b h = refl
  or_left false b h = cc

  or_right : (a b : Bool) → b ≡ true → a || b ≡ true
  or_right true b h = refl
  or_right false b h = h

  module _ (cutoff : Cutoff) (matched listed : List (List ℕ)) where
    settled_shut : (b : Span) → IsSound l b → is_shut l b ≡ true → Settles l cutoff matched listed b
    settled_shut b p h = record { each = λ steps w a k n. inl (lawful.shut b p.box p.inside h steps w a) }

    -- no recipe of a box that is too dear is kept
    not_kept : (b : Span) (steps : List ℕ) (c : Cutoff) → IsSound l b → is_dear l c b ≡ true → IsWithin steps b → IsKept l c steps → ⊥
    not_kept b steps (After recipe) p h w k =
        false≢true (sym (not_before_trans l recipe.items steps b.lo (not_before_corner b steps p w) k) ∙ h)
    not_kept b steps (From cost) p h w k =
        let more = lawful.grows b.lo steps (corner_within l b p) (within_part l b steps p w) w.0 in
        let bound = at_most cost (l.cost b.lo) h in
        omega (arith, more, bound, k)
    not_kept b steps Never p h w k = false≢true h

    -- the lower corner of a box of one recipe is its recipe
    is_corner : (b : Span) (steps : List ℕ) → is_single b ≡ true → IsWithin steps b → b.lo ≡ steps
    is_corner b steps h w =
        let one = same_is b.lo b.hi h in
        up_to_both b.lo steps w.0 (subst (λ hi. IsUpTo steps hi) (sym one) w.1)

    settled_undecided : (b : Span) → is_single b ≡ true → is_listed listed b.lo ≡ true → Settles l cutoff matched listed b
    settled_undecided b h i = record { each = λ steps w a k n. inr (subst (λ r. is_listed listed r ≡ true) (is_corner b steps h w) i) }

    settled_pass : (b : Span) → is_single b ≡ true → is_listed matched b.lo ≡ true → Settles l cutoff matched listed b
    settled_pass b h i = record { each = λ steps w a k n. absurd (false≢true (sym n ∙ subst (λ r. is_listed matched r ≡ true) (is_corner b steps h w) i)) }

    settled_halves : (b : Span) (cut : CutAt) → IsSound l b → is_cut b cut ≡ true → Settles l cutoff matched listed (lower_half b cut)
        → Settles l cutoff matched listed (upper_half b cut) → Settles l cutoff matched listed b
    settled_halves b cut p e low high = record {
      each = λ steps w a k n. elim ((halves_partition b cut steps p.box e).in_one w) as (λ _. (l.grade steps ≡ fails) ⊎ (is_listed listed steps ≡ true)) [
        | inl i ↦ low.each steps i a k n
        | inr i ↦ high.each steps i a k n
      ];
    }

    -- a line that holds settles its box, once the boxes that it leaves are settled
    settles_on : (b : Span) (bs : List Span) (x : CertLine) → IsSound l b → holds l cutoff matched listed b x ≡ true
        → AllByRecursion (Settles l cutoff matched listed) (after b bs x) → AllByRecursion (Settles l cutoff matched listed) (b ∷ bs)
    settles_on b bs (Split zero mid) p h all = absurd (false≢true h)
    settles_on b bs (Split (suc dye) mid) p h all = (settled_halves b (record { dye = dye; mid = mid }) p h all.0 all.1.0, all.1.1)
    settles_on b bs (Limit k) p h all = (settled_shut b p (or_left _ _ (limit_shuts k b h)), all)
    settles_on b bs (Fail j) p h all = (settled_shut b p (or_right (is_some (limit_of l b)) _ (light_shuts j b h)), all)
    settles_on b bs Dear p h all = (record { each = λ steps w a k n. absurd (not_kept b steps cutoff p h w k) }, all)
    settles_on b bs Undecided p h all =
        let parts = undecided_parts l b (is_listed listed b.lo) h in
        (settled_undecided b parts.0 parts.2, all)
    settles_on b bs Pass p h all =
        let parts = pass_parts l b (is_listed matched b.lo) h in
        (settled_pass b parts.0 parts.2, all)

    trees_on : (b : Span) (bs : List Span) (x : CertLine) (xs : List CertLine) → holds l cutoff matched listed b x ≡ true
        → are_trees (length (b ∷ bs)) (x ∷ xs) ≡ true → are_trees (length (after b bs x)) xs ≡ true
    trees_on b bs (Split zero mid) xs h t = absurd (false≢true h)
    trees_on b bs (Split (suc dye) mid) xs h t = t
    trees_on b bs (Limit k) xs h t = t
    trees_on b bs (Fail j) xs h t = t
    trees_on b bs Dear xs h t = t
    trees_on b bs Undecided xs h t = t
    trees_on b bs Pass xs h t = t

    -- where all lines hold, each box that waits is settled
    sound : (bs : List Span) (xs : List CertLine) → AllByRecursion (IsSound l) bs → are_trees (length bs) xs ≡ true
        → AllHold l cutoff matched listed bs xs → AllByRecursion (Settles l cutoff matched listed) bs
    sound [] xs parts t h = tt
    sound (b ∷ bs) [] parts t h = absurd (false≢true t)
    sound (b ∷ bs) (x ∷ xs) parts t h =
        settles_on b bs x parts.0 h.0 (sound (after b bs x) xs (after_parts l cutoff matched listed b bs x parts.0 h.0 parts.1) (trees_on b bs x xs h.0 t) h.1)

    -- where all lines hold: what follows for a line that passes the test, of the lower corner of
    -- its box, holds of the corners of all lines that pass it
    corners_hold : (test : CertLine → Bool) (Q : List ℕ → Type 0)
        → ((b : Span) (x : CertLine) → test x ≡ true → holds l cutoff matched listed b x ≡ true → Q b.lo)
        → (bs : List Span) (xs : List CertLine) → AllHold l cutoff matched listed bs xs → AllByRecursion Q (corners test bs xs)
    corners_hold test Q own bs [] h = tt
    corners_hold test Q own [] (x ∷ xs) h = tt
    corners_hold test Q own (b ∷ bs) (x ∷ xs) h =
        go (corners_hold test Q own (after b bs x) xs h.1) (λ t. own b x t h.0) (test x) refl where
          go : AllByRecursion Q (corners test (after b bs x) xs) → (test x ≡ true → Q b.lo) → (t : Bool) → test x ≡ t
              → AllByRecursion Q (if t then b.lo ∷ corners test (after b bs x) xs else corners test (after b bs x) xs)
          go rest mine true e = (mine e, rest)
          go rest mine false e = rest

    undecided_own : (b : Span) (x : CertLine) → is_undecided_line x ≡ true → holds l cutoff matched listed b x ≡ true
        → (is_admitted l b.lo ≡ true) × (l.grade b.lo ≡ unsure)
    undecided_own b (Split dye mid) t h = absurd (false≢true t)
    undecided_own b (Limit k) t h = absurd (false≢true t)
    undecided_own b (Fail j) t h = absurd (false≢true t)
    undecided_own b Dear t h = absurd (false≢true t)
    undecided_own b Pass t h = absurd (false≢true t)
    undecided_own b Undecided t h =
        let parts = and_parts (is_admitted l b.lo) (is_unsure (l.grade b.lo)) (undecided_parts l b (is_listed listed b.lo) h).1 in
        (parts.0, graded (l.grade b.lo) parts.1) where
          graded : (g : Grade) → is_unsure g ≡ true → g ≡ unsure
          graded passes e = absurd (false≢true e)
          graded fails e = absurd (false≢true e)
          graded unsure e = refl

    pass_own : (b : Span) (x : CertLine) → is_pass_line x ≡ true → holds l cutoff matched listed b x ≡ true → is_match l b.lo ≡ true
    pass_own b (Split dye mid) t h = absurd (false≢true t)
    pass_own b (Limit k) t h = absurd (false≢true t)
    pass_own b (Fail j) t h = absurd (false≢true t)
    pass_own b Dear t h = absurd (false≢true t)
    pass_own b Undecided t h = absurd (false≢true t)
    pass_own b Pass t h = (pass_parts l b (is_listed matched b.lo) h).1

    -- what a certificate means that is valid for these lists
    pub means_for : (lines : List CertLine) → IsValidFor l cutoff matched listed lines → MeansFor l cutoff matched listed
    means_for lines v =
        let settled = sound (l.top ∷ []) lines (top_part l lawful, tt) v.whole v.hold in
        let passed = corners is_pass_line (l.top ∷ []) lines in
        let undecided = corners is_undecided_line (l.top ∷ []) lines in
        let all_pass = All-from_recursion (λ r. is_match l r ≡ true) passed
        (corners_hold is_pass_line (λ r. is_match l r ≡ true) pass_own (l.top ∷ []) lines v.hold) in
        let all_unsure = All-from_recursion (λ r. (is_admitted l r ≡ true) × (l.grade r ≡ unsure)) undecided
        (corners_hold is_undecided_line (λ r. (is_admitted l r ≡ true) × (l.grade r ≡ unsure)) undecided_own (l.top ∷ []) lines v.hold) in
        record {
          settled = λ steps w a p. settled.0.each steps w a p.0 p.1;
          passing = λ k d lt. record {
            grid = v.passing.grid k d lt;
            matches = All-contains (λ r. is_match l r ≡ true) passed (get_or matched k d) all_pass (v.passing.each k d lt);
          };
          unsure = λ k d lt.
              let own = All-contains (λ r. (is_admitted l r ≡ true) × (l.grade r ≡ unsure)) undecided (get_or listed k d) all_unsure (v.undecided.each k d lt) in
              record { grid = v.undecided.grid k d lt; admitted = own.0; verdict = own.1 };
        }

-- a claim means what its recipe, if it is a match, and its cutoff mean
claim_means : (l : Land) (claim : Claim) (listed : List (List ℕ)) → MeansFor l (cutoff_of claim) (matched_of claim) listed → MeansClaim l listed claim
claim_means l (Match recipe) listed m = (
  λ steps w a early. m.settled steps w a (not_both_before l steps recipe.items early, other steps early),
  first.grid,
  parts.0,
  pass_of (l.grade recipe.items) parts.1,
) where
  first : IsPassing l recipe.items
  first = m.passing 0 [] (omega arith)

  parts : (is_admitted l recipe.items ≡ true) × (is_pass (l.grade recipe.items) ≡ true)
  parts = and_parts (is_admitted l recipe.items) (is_pass (l.grade recipe.items)) first.matches

  or_false : (t : Bool) → t ≡ false → t || false ≡ false
  or_false true e = e
  or_false false e = e

  other : (steps : List ℕ) → is_before l steps recipe.items ≡ true → is_listed (recipe.items ∷ []) steps ≡ false
  other steps early = or_false (same_steps steps recipe.items)
      (differs steps recipe.items (λ e. false≢true (sym (never_before_itself l recipe.items) ∙ subst (λ r. is_before l r recipe.items ≡ true) e early)))
claim_means l NoMatch listed m = λ steps w a u. m.settled steps w a (tt, refl)
claim_means l (Floor cost) listed m = λ steps w a cheap. m.settled steps w a (cheap, refl)

pub valid_means : (l : Land) (claim : Claim) (listed : List (List ℕ)) (lines : List CertLine) → IsLawful l → IsValid l claim listed lines → Means l listed claim
valid_means l claim listed lines lawful v =
    let m = means_for l lawful (cutoff_of claim) (matched_of claim) listed lines v in
    record { claimed = claim_means l claim listed m; unsure = m.unsure }

-- what a certificate of one whole tree without a failure means
pub means : (l : Land) (claim : Claim) (listed : List (List ℕ)) (lines : List CertLine) → IsLawful l → are_trees 1 lines ≡ true
    → first_failure l claim listed lines ≡ None → Means l listed claim
means l claim listed lines lawful trees h = valid_means l claim listed lines lawful (valid_if l lawful.top claim listed lines trees h)
