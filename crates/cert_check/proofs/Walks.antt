-- The walk, one line at a time.
use Rattle.std.proofs.Common.{◌≡◌, ◌+◌, ◌<◌, ◌++◌, ℕ, zero, suc, List, [], ◌∷◌, Bool, true, false, length, get_or, drop, refl, sym, ap, subst, ◌∙◌, arith}
use Rattle.std.specs.Prelude.{Some, None}
use Rattle.std.specs.List.{AllByRecursion}
use Rattle.box_specs.specs.declared.certificate.CertLine.{CertLine}
use Rattle.box_specs.specs.declared.certificate.CertLine.TheVariants.{Dear, Fail, Limit, Pass, Split, Undecided}
use Rattle.box_specs.specs.declared.certificate.Cutoff.{Cutoff}
use Rattle.box_specs.specs.declared.certificate.Why.{Why}
use Rattle.box_specs.specs.Landscape.{IsSound, Land}
use Rattle.box_specs.specs.Span.{Span}
use Rattle.std.proofs.lemmas.List.{drop_more}
use Rattle.box_specs.specs.Validity.{after, line_fault, at_line, corners, is_pass_line, is_undecided_line, line_failure, or_next}
use Rattle.cert_check.specs.Marks.{MarksMore}
use Rattle.cert_check.specs.Walk.{Advances, MarksBoth, halves_by, next_fault, next_recipe, next_waiting, recipe_if, with_halves}
use Rattle.cert_check.proofs.Faults.{holds_if}
use Rattle.cert_check.proofs.Parts.{after_parts}

nothing_waits : (l : Land) (cutoff : Cutoff) (matched listed : List (List ℕ)) (n : ℕ) (xs : List CertLine) → line_failure l cutoff matched listed n [] xs ≡ None
nothing_waits l cutoff matched listed n [] = refl
nothing_waits l cutoff matched listed n (x ∷ xs) = refl

pub walk_step : (l : Land) (cutoff : Cutoff) (matched listed : List (List ℕ)) (n : ℕ) (bs : List Span) (x : CertLine) (xs : List CertLine)
    → line_failure l cutoff matched listed n bs (x ∷ xs)
    ≡ or_next (at_line n (next_fault l cutoff matched listed bs x)) (line_failure l cutoff matched listed (n + 1) (next_waiting bs x) xs)
walk_step l cutoff matched listed n [] x xs = sym (nothing_waits l cutoff matched listed (n + 1) xs)
walk_step l cutoff matched listed n (b ∷ bs) x xs = refl

no_corners : (test : CertLine → Bool) (xs : List CertLine) → corners test [] xs ≡ []
no_corners test [] = refl
no_corners test (x ∷ xs) = refl

pub corners_step : (test : CertLine → Bool) (bs : List Span) (x : CertLine) (xs : List CertLine)
    → corners test bs (x ∷ xs) ≡ next_recipe test bs x ++ corners test (next_waiting bs x) xs
corners_step test [] x xs = sym (no_corners test xs)
corners_step test (b ∷ bs) x xs = go (test x) refl where
  rest : List (List ℕ)
  rest = corners test (next_waiting (b ∷ bs) x) xs

  go : (t : Bool) → test x ≡ t → corners test (b ∷ bs) (x ∷ xs) ≡ next_recipe test (b ∷ bs) x ++ rest
  go true e = rw e refl
  go false e = rw e refl

-- the halves of a box that its line splits are put before the others
pub after_is : (b : Span) (waiting : List Span) (line : CertLine) → with_halves (halves_by b line) waiting ≡ after b waiting line
after_is b waiting (Split zero mid) = refl
after_is b waiting (Split (suc dye) mid) = refl
after_is b waiting (Limit k) = refl
after_is b waiting (Fail j) = refl
after_is b waiting Dear = refl
after_is b waiting Undecided = refl
after_is b waiting Pass = refl

-- a line that holds advances the walk to the boxes after it
pub advances : (l : Land) (cutoff : Cutoff) (matched listed : List (List ℕ)) (line : CertLine) (before : List Span) (b : Span) (rest now : List Span)
    → before ≡ b ∷ rest → AllByRecursion (IsSound l) before → line_fault l cutoff matched listed b line ≡ None → now ≡ after b rest line → Advances l line before now
advances l cutoff matched listed line before b rest now e parts none n =
    let all = subst (AllByRecursion (IsSound l)) e parts in
    record {
      waiting = n ∙ ap (λ bs. next_waiting bs line) (sym e);
      parts = subst (AllByRecursion (IsSound l)) (sym n) (after_parts l cutoff matched listed b rest line all.0 (holds_if l cutoff matched listed b line none) all.1);
    }

-- and marks its recipe in either list
pub marks_both : (line : CertLine) (before : List Span) (b : Span) (rest : List Span) (p q u v : List Bool) (s t : Bool) (matched listed : List (List ℕ)) → before ≡ b ∷ rest
    → s ≡ is_pass_line line → t ≡ is_undecided_line line → MarksMore p q (recipe_if s b) matched → MarksMore u v (recipe_if t b) listed
    → MarksBoth line before p q u v matched listed
marks_both line before b rest p q u v s t matched listed e f g m n = record {
  passed = subst (λ bs. MarksMore p q (next_recipe is_pass_line bs line) matched) (sym e) (subst (λ c. MarksMore p q (recipe_if c b) matched) f m);
  unsure = subst (λ bs. MarksMore u v (next_recipe is_undecided_line bs line) listed) (sym e) (subst (λ c. MarksMore u v (recipe_if c b) listed) g n);
}

-- where the line at an index holds, the first failure from it on is that of the lines after it
pub walk_more : (l : Land) (cutoff : Cutoff) (matched listed : List (List ℕ)) (n i : ℕ) (lines : List CertLine) (before now : List Span) → i < length lines
    → (d : CertLine) → next_fault l cutoff matched listed before (get_or lines i d) ≡ None → now ≡ next_waiting before (get_or lines i d)
    → line_failure l cutoff matched listed (n + (i + 1)) now (drop (i + 1) lines) ≡ line_failure l cutoff matched listed (n + i) before (drop i lines)
walk_more l cutoff matched listed n i lines before now h d none e =
    let number : n + (i + 1) ≡ n + i + 1 = omega arith in
    ap (λ m. line_failure l cutoff matched listed m now (drop (i + 1) lines)) number
    ∙ ap (λ bs. line_failure l cutoff matched listed (n + i + 1) bs (drop (i + 1) lines)) e
    ∙ sym (ap (line_failure l cutoff matched listed (n + i) before) (drop_more lines i d h)
    ∙ walk_step l cutoff matched listed (n + i) before (get_or lines i d) (drop (i + 1) lines)
    ∙ ap (λ w. or_next (at_line (n + i) w) (line_failure l cutoff matched listed (n + i + 1) (next_waiting before (get_or lines i d)) (drop (i + 1) lines))) none)

-- the walk ends at a line that does not hold
pub walk_ends : (l : Land) (cutoff : Cutoff) (matched listed : List (List ℕ)) (n i : ℕ) (lines : List CertLine) (before : List Span) (why : Why) → i < length lines
    → (d : CertLine) → next_fault l cutoff matched listed before (get_or lines i d) ≡ Some why
    → line_failure l cutoff matched listed (n + i) before (drop i lines) ≡ Some (n + i, why)
walk_ends l cutoff matched listed n i lines before why h d e =
    ap (line_failure l cutoff matched listed (n + i) before) (drop_more lines i d h)
    ∙ walk_step l cutoff matched listed (n + i) before (get_or lines i d) (drop (i + 1) lines)
    ∙ ap (λ w. or_next (at_line (n + i) w) (line_failure l cutoff matched listed (n + i + 1) (next_waiting before (get_or lines i d)) (drop (i + 1) lines))) e

pub corners_more : (test : CertLine → Bool) (i : ℕ) (lines : List CertLine) (before now : List Span) → i < length lines → (d : CertLine) → now ≡ next_waiting before (get_or lines i d)
    → corners test before (drop i lines) ≡ next_recipe test before (get_or lines i d) ++ corners test now (drop (i + 1) lines)
corners_more test i lines before now h d e =
    ap (corners test before) (drop_more lines i d h)
    ∙ corners_step test before (get_or lines i d) (drop (i + 1) lines)
    ∙ ap (λ bs. next_recipe test before (get_or lines i d) ++ corners test bs (drop (i + 1) lines)) (sym e)
